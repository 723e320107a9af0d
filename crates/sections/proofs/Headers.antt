-- The rows of a header as the code asks them, and the file by its header and its sections.
-- Assumes nothing.
use mathlib.Core.Path.{◌≡◌, refl, sym, ◌∙◌, ap, subst}
use mathlib.Core.Logic.{◌≢◌, inr}
use mathlib.Core.List.{List}
use mathlib.Core.Bool.{true, false}
use Prim.Native.Nat.{ℕ, ◌≤◌}
use native.Mathlib.Omega.{arith}
use lib.ListN.{length, take, drop}
use lib.Dec.{eqb}
use borrow.Author.Tests.{eq-eqb, ne_eqb, leb-true}
use Rattle.std.proofs.Common.{Result, Ok, Err}
use Rattle.answer.specs.declared.Fault.{Fault}
use Rattle.answer.specs.Refusals.{number_of}
use Rattle.answer.specs.Outcome.{Outcome, taken, refused, after}
use Rattle.answer.specs.Calls.{fault_of, asked, outcome_of}
use Rattle.answer.proofs.Checks.{checked-pass, Left, left_all}
use Rattle.wire.specs.Numbers.{Bytes, le, le_at}
use Rattle.wire.specs.Parts.{same}
use Rattle.wire.proofs.Letters.{same_number}
use Rattle.aerosnap.specs.File.{file_most, letters, header_checks, file_of}
use Rattle.aerosnap.proofs.Turns.{file_header}
use Rattle.lists.specs.Steps.{MayWrite}
use Rattle.sections.specs.Walks.{counted}
use Rattle.sections.specs.Steps.{walked_from}
use Rattle.sections.specs.Index.{Scanned}

-- a number that was read, against the one that must stand there
pub read_is : {a n k : ℕ} → a ≡ n → a ≡ k → eqb n k ≡ true
read_is {a} {n} {k} p h = eq-eqb n k (sym p ∙ h)

pub read_not : {a n k : ℕ} → a ≡ n → a ≢ k → eqb n k ≡ false
read_not {a} {n} {k} p h = ne_eqb n k (λ e. h (p ∙ e))

-- the rows of the header from the nth on
abbrev pub Headed : List ℕ → ℕ → Type 0
Headed s n = Left (drop n (header_checks s)) (taken tt) (asked (header_checks s))

pub head_all : (s : List ℕ) → Headed s 0
head_all s = left_all (header_checks s) (taken tt)

-- the letters, by the number that was read
pub letters_number : (s : List ℕ) → 16 ≤ length s → Bytes s → {a : ℕ} → a ≡ le_at 8 s 0 → same (take 8 s) letters ≡ eqb a 0x50414E534F524541
unfolding le
letters_number s h b e = same_number 8 s 0 letters b (omega arith) (omega arith) refl e

-- ---- the file

-- refused before anything is stored
pub stopped_first : {o : Outcome (List (List ℕ))} {f : Fault} {old : List ℕ} → o ≡ fault_of f → Scanned o old (Err f) old
stopped_first h = rw h (record { answers = refl; leaves = refl })

-- judged with no place to store in
abbrev test_for : Result ℕ Fault → Result (Unit {0}) Fault
test_for (Err f) = Err f
test_for (Ok n) = Ok tt

pub judged_first : (o : Outcome (List (List ℕ))) (index : List ℕ) (r : Result ℕ Fault) → outcome_of r ≡ counted o → MayWrite o index (test_for r)
judged_first (taken l) index (Err f) e = let z : ◌≡◌ {A = ℕ} 0 1 = cc in absurd (omega arith)
judged_first (taken l) index (Ok n) e = inr (l, refl)
judged_first (refused n p) index (Err f) e = let i : n ≡ number_of f.0 = cc in let j : p ≡ f.1 = cc in cc
judged_first (refused n p) index (Ok k) e = let z : ◌≡◌ {A = ℕ} 0 1 = cc in absurd (omega arith)

module _ (s : List ℕ) where
  by_header : {r : Outcome (Unit {0})} → r ≡ asked (header_checks s) → after r (λ _. walked_from s) ≡ file_of s
  by_header h = sym (file_header s ∙ ap (λ (r : Outcome (Unit {0})). after r (λ _. walked_from s)) (sym h))

  pub scan_stop : {f : Fault} {old : List ℕ} → fault_of f ≡ asked (header_checks s) → Scanned (file_of s) old (Err f) old
  scan_stop {f} {old} h = subst (λ (o : Outcome (List (List ℕ))). Scanned o old (Err f) old) (by_header h) (stopped_first refl)

  pub scan-walk : {r : Result ℕ Fault} {old new : List ℕ} → taken tt ≡ asked (header_checks s) → Scanned (walked_from s) old r new → Scanned (file_of s) old r new
  scan-walk {r} {old} {new} h k = subst (λ (o : Outcome (List (List ℕ))). Scanned o old r new) (by_header h) k

  pub scan-fits : taken tt ≡ asked (header_checks s) → (16 ≤ length s) × (length s ≤ file_most)
  scan-fits h = let p = (checked-pass (header_checks s) (taken tt) tt (sym h)).0 in (leb-true 16 (length s) p.1.0, leb-true (length s) file_most p.0)
