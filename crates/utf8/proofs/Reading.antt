-- The right answers are those of the scan, and the test says which bytes are texts. Assumes nothing.
use Rattle.std.proofs.Common.{Result, Ok, Err}
use Prim.Native.Nat.{ℕ, ◌+◌, ◌≤◌}
use mathlib.Core.Path.{◌≡◌, refl, sym, ◌∙◌, ap}
use mathlib.Core.List.{List, [], ◌∷◌}
use mathlib.Core.Bool.{true, false}
use native.Mathlib.Omega.{arith}
use lib.ListN.{length}
use Rattle.answer.specs.Numbers.{TEXT}
use Rattle.answer.specs.Outcome.{moved}
use Rattle.answer.specs.Calls.{asked}
use Rattle.utf8.specs.Grammar.{Text, Breaks, text_of, Reads, whole, broken}
use Rattle.utf8.specs.Scan.{scan, is_whole, is_text, break_of, break_at}
use Rattle.utf8.proofs.Whole.{whole-text, text-whole}
use Rattle.utf8.proofs.Broken.{broken_breaks, broken_within, breaks_broken}

pub scan_reads : (s : List ℕ) (r : Result (Unit {0}) ℕ) → r ≡ scan s → Reads s (text_of r)
scan_reads s (Ok tt) e = whole (whole-text s (sym e))
scan_reads s (Err k) e = broken (broken_breaks s k (sym e))

pub reads_scan : (s : List ℕ) (r : Result (Unit {0}) ℕ) → Reads s (text_of r) → r ≡ scan s
reads_scan s (Ok tt) (whole t) = sym (text-whole t)
reads_scan s (Err k) (broken b) = sym (breaks_broken b)

-- ---- the test
pub text_is : {s : List ℕ} → Text s → is_text s ≡ true
unfolding is_text
text_is t = rw (text-whole t)

pub is-text : (s : List ℕ) → is_text s ≡ true → Text s
unfolding is_text
is-text s e = go (scan s) refl e
  where
    go : (r : Result (Unit {0}) ℕ) → scan s ≡ r → is_whole r ≡ true → Text s
    go (Ok tt) p q = whole-text s p
    go (Err k) p q = absurd (let z : ◌≡◌ {A = ℕ} 0 1 = cc in omega arith)

-- ---- the test, from an answer of `text`
pub reads_is : (s : List ℕ) (r : Result (Unit {0}) ℕ) → Reads s (text_of r) → is_text s ≡ is_whole r
unfolding is_text
reads_is s r h = ap is_whole (sym (reads_scan s r h))

-- ---- the check, which names the place
-- the row that is asked of a text
pub reads_asked : (s : List ℕ) (r : Result (Unit {0}) ℕ) → Reads s (text_of r) → text_of r ≡ asked ((is_text s, TEXT, break_at s) ∷ [])
unfolding is_text break_at
reads_asked s r h = go (scan s) r (reads_scan s r h)
  where
    go : (q r : Result (Unit {0}) ℕ) → r ≡ q → text_of r ≡ asked ((is_whole q, TEXT, break_of q) ∷ [])
    go (Ok tt) r e = ap text_of e
    go (Err k) r e = ap text_of e

-- the same of a text that stands at a place
pub reads_moved : (at : ℕ) (s : List ℕ) (r : Result (Unit {0}) ℕ) → Reads s (text_of r) → moved at (text_of r) ≡ asked ((is_text s, TEXT, at + break_at s) ∷ [])
unfolding is_text break_at
reads_moved at s r h = go (scan s) r (reads_scan s r h)
  where
    go : (q r : Result (Unit {0}) ℕ) → r ≡ q → moved at (text_of r) ≡ asked ((is_whole q, TEXT, at + break_of q) ∷ [])
    go (Ok tt) r e = ap (λ (f : Result (Unit {0}) ℕ). moved at (text_of f)) e
    go (Err k) r e = ap (λ (f : Result (Unit {0}) ℕ). moved at (text_of f)) e

pub break_within : (s : List ℕ) → break_at s ≤ length s
unfolding break_at
break_within s = go (scan s) refl
  where
    go : (q : Result (Unit {0}) ℕ) → scan s ≡ q → break_of q ≤ length s
    go (Ok tt) e = omega arith
    go (Err k) e = broken_within s k e

-- where a text is no text, it breaks there
pub breaks_at : (s : List ℕ) → is_text s ≡ false → Breaks s (break_at s)
unfolding is_text break_at
breaks_at s h = go (scan s) refl h
  where
    go : (q : Result (Unit {0}) ℕ) → scan s ≡ q → is_whole q ≡ false → Breaks s (break_of q)
    go (Ok tt) e h = absurd (let z : ◌≡◌ {A = ℕ} 0 1 = cc in omega arith)
    go (Err k) e h = broken_breaks s k e

pub reads_within : (s : List ℕ) (r : Result (Unit {0}) ℕ) {k : ℕ} → Reads s (text_of r) → r ≡ Err k → k ≤ length s
reads_within s r h e = broken_within s _ (sym (reads_scan s r h) ∙ e)
