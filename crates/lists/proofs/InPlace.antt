-- The ends of the calls on lists: starts gathered in the lent places, or the list judged and none kept; a refusal leaves the places as they were.
-- Assumes nothing.
use mathlib.Core.Path.{◌≡◌, refl, sym, ◌∙◌, ap}
use mathlib.Core.Logic.{◌⊎◌, inr, ⊎_elim, ◌↔◌}
use mathlib.Core.List.{List, [], ◌++◌}
use Prim.Native.Nat.{ℕ, ◌+◌, ◌/◌, ◌%◌, ◌≤◌, ◌<◌}
use native.Mathlib.Decide.{dec_lt}
use native.Mathlib.Nat.{le-max_left}
use native.Mathlib.Omega.{arith}
use lib.ListN.{length, take, drop, get_or, length-take, length-replicate, get_or-replicate, length-append, take-append-drop}
use lib.Seq.{take_all, take-append-le, ext_get_or}
use lib.Arith.{bin_ind}
use lib.Bits.{bit_or, or_step, or_comm}
use borrow.Author.Tests.{le-leb, lt-leb}
use Rattle.std.proofs.Common.{Result, Ok, Err}
use Rattle.answer.specs.declared.Fault.{Fault}
use Rattle.answer.specs.Outcome.{Outcome, taken, refused, checked, after, done}
use Rattle.answer.specs.Calls.{outcome_of}
use Rattle.answer.proofs.Checks.{checked-pass}
use Rattle.answer.proofs.Outcomes.{done_stop, done_taken, taken_refused}
use Rattle.wire.specs.Numbers.{le_at}
use Rattle.entries.specs.Kinds.{Description}
use Rattle.entries.proofs.Lawful.{Lawful}
use Rattle.lists.specs.Lists.{list_at, part_checks, whole, index_of}
use Rattle.lists.specs.Steps.{list_of, MayWrite, Gathered, Restored}
use Rattle.lists.specs.Promises.{zeros, Indexed}
use Rattle.lists.proofs.Ordered.{index_length}
use Rattle.lists.proofs.Callers.{list_then}

-- ---- a list no longer than a file may be

module _ (d : Description) (s : List ℕ) where
  -- taken or not
  pub list_done : done (list_of d s) ≡ checked (part_checks s) (done (list_at d s))
  list_done = sym (list_then d s (λ _. taken tt))

-- ---- kept in place, or none

module _ {d : Description} (K : Lawful d) (s : List ℕ) where
  found : {l : List ℕ} → list_of d s ≡ taken l → length l ≡ le_at 4 s 0
  found {l} h = index_length K s (checked-pass (part_checks s) (list_at d s) l h).1

  indexed : (have : ℕ) {o : Outcome (List ℕ)} → list_of d s ≡ o → index_of d have s ≡ after o (λ l. taken (whole have l))
  indexed have h = list_then d s (λ l. taken (whole have l)) ∙ ap (λ (o : Outcome (List ℕ)). after o (λ l. taken (whole have l))) h

  -- as many places lent as there are starts: they are all of them, and behind them stands what was there
  pub kept_whole : {n : ℕ} (l old : List ℕ) → n ≡ le_at 4 s 0 → n ≤ length old → length l ≡ n → (r : Result ℕ Fault) → Restored (list_of d s) (take n old) r l → Indexed (index_of d (length old) s) old r (l ++ drop n old)
  kept_whole {n} l old e h k (Err f) g = rw (indexed (length old) g.0) (record { answers = refl; leaves = rw g.1 (take-append-drop n old) })
  kept_whole {n} l old e h k (Ok c) g =
      let q : length (take c l) ≡ le_at 4 s 0 = found g.0 in
      let t : take c l ≡ l = take_all c l (omega (arith, length-take c l)) in
      let o : index_of d (length old) s ≡ taken l = indexed (length old) (g.0 ∙ ap taken t) ∙ rw (le-leb (length l) (length old) (omega arith)) in
      let z : c ≡ length l = omega (arith, g.1, length-take c l) in
      rw o (record { answers = ap taken z; leaves = rw k })

  module _ (old : List ℕ) where
    pub kept-none : length old < le_at 4 s 0 → taken tt ≡ checked (part_checks s) (done (list_at d s)) → Indexed (index_of d (length old) s) old (Ok 0) old
    kept-none h e =
        let w = done_taken (list_of d s) (list_done d s ∙ sym e) in
        let o : index_of d (length old) s ≡ taken [] = indexed (length old) w.1 ∙ rw (lt-leb (length w.0) (length old) (omega (arith, found w.1))) in
        rw o (record { answers = refl; leaves = refl })

-- ---- places that hold nothing

-- none is above 0
pub none_above : (l : List ℕ) → ((j : ℕ) → j < length l → get_or l j 0 ≤ 0) → l ≡ zeros (length l)
none_above l h =
    ext_get_or 0 l (zeros (length l)) (sym (length-replicate (length l) 0))
    (λ j g. let k = h j g in let z : get_or (zeros (length l)) j 0 ≡ 0 = get_or-replicate (length l) j 0 0 g in omega arith)

-- each is 0
zeros-at : (l : List ℕ) → l ≡ zeros (length l) → (j : ℕ) → j < length l → get_or l j 0 ≡ 0
zeros-at l e j h = ap (λ (m : List ℕ). get_or m j 0) e ∙ get_or-replicate (length l) j 0 0 h

-- a number has no bit that is not in `bit_or` of it and another
or_above : (a b : ℕ) → a ≤ bit_or a b
or_above a b = bin_ind (λ (n : ℕ). (b : ℕ) → n ≤ bit_or n b) (λ b. omega arith) (λ n ih b. let s = or_step n b in let h = ih (b / 2) in let m = le-max_left (n % 2) (b % 2) in omega arith) a b

-- top has every bit of the first i places, and no other
pub record Topped (l : List ℕ) (i top : ℕ) : Type 0 where
  pub within : i ≤ length l
  pub most : (j : ℕ) → j < i → get_or l j 0 ≤ top
  pub least : l ≡ zeros (length l) → top ≡ 0

-- one place more
pub topped_more : {l : List ℕ} {i top : ℕ} → Topped l i top → i < length l → Topped l (i + 1) (bit_or top (get_or l i 0))
topped_more {l} {i} {top} w h = record { within = omega arith; most = λ j f. go j f (dec_lt j i); least = λ z. rw (w.least z, zeros-at l z i h) }
  where
    go : (j : ℕ) → j < i + 1 → Dec (j < i) → get_or l j 0 ≤ bit_or top (get_or l i 0)
    go j f (yes m) = omega (arith, w.most j m, or_above top (get_or l i 0))
    go j f (no m) = let z : j ≡ i = omega (arith, m) in rw (z, or_comm top (get_or l i 0)) (or_above (get_or l i 0) top)

pub topped_all : {l : List ℕ} {i top : ℕ} → Topped l i top → length l ≤ i → (top ≡ 0) ↔ (l ≡ zeros (length l))
topped_all {l} {i} {top} w h = (λ z. none_above l (λ j g. omega (arith, w.most j (omega arith))), w.least)

-- they are cleared after a refusal
pub cleared : {A : Type 0} {o : Outcome A} {old new : List ℕ} {a b : ℕ} → o ≡ refused a b → (old ≡ zeros (length old)) ⊎ ((x : A) × (o ≡ taken x)) → new ≡ zeros (length old) → new ≡ old
cleared h w z = ⊎_elim (λ e. z ∙ sym e) (λ t. absurd (taken_refused (sym t.1 ∙ h))) w

-- what is asked before they are written over, of a list that was judged
pub judged_first : (d : Description) (s old : List ℕ) (r : Result (Unit {0}) Fault) → outcome_of r ≡ checked (part_checks s) (done (list_at d s)) → MayWrite (list_of d s) old r
judged_first d s old (Err f) h = done_stop (list_of d s) (h ∙ sym (list_done d s))
judged_first d s old (Ok tt) h = inr (done_taken (list_of d s) (list_done d s ∙ sym h))

-- ---- as many places as there are entries

-- the places that were lent are the first of more
pub gathered_more : (o : Outcome (List ℕ)) (r : Result ℕ Fault) (l more : List ℕ) → Gathered o r l → Gathered o r (l ++ more)
gathered_more o (Err f) l more g = g
gathered_more o (Ok c) l more g = (g.0 ∙ ap taken (sym (take-append-le c l more g.1)), omega (arith, g.1, length-append l more))
