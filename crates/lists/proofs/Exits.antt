-- The exits of the code that reads a list: what each return shows.
-- Assumes nothing.
use mathlib.Core.Path.{◌≡◌, refl, sym, ◌∙◌, ap}
use mathlib.Core.Bool.{Bool, true, false, not}
use mathlib.Core.List.{List, [], ◌∷◌, ◌++◌}
use Prim.Native.Nat.{ℕ, suc, ◌+◌, ◌≤◌, ◌<◌}
use native.Mathlib.Omega.{arith}
use lib.ListN.{length, drop}
use borrow.Author.Tests.{le-leb, lt-leb}
use Rattle.answer.specs.Numbers.{SHAPE, LIMIT, KEY, SIZE}
use Rattle.answer.specs.Outcome.{Outcome, taken, refused, Checks, checked, Pass, moved, shift}
use Rattle.answer.specs.Calls.{asked}
use Rattle.answer.proofs.Checks.{fails, pass-checked, pass-append}
use Rattle.answer.proofs.Outcomes.{taken_refused}
use Rattle.wire.specs.Numbers.{le_at}
use Rattle.format.specs.Format.{read}
use Rattle.format.specs.Places.{read_at}
use Rattle.order.specs.Keyed.{insert, has}
use Rattle.entries.specs.Kinds.{Description, lead_checks}
use Rattle.lists.specs.Lists.{key_at, ends_at, entry_checks, entry_at, walk, list_at, part_checks}

-- checks that were asked at a place, before others

pub asked_fault : (at : ℕ) (l more : Checks) (x : Outcome ℕ) {a b : ℕ} → refused a b ≡ moved at (asked l) → refused a b ≡ shift at (checked (l ++ more) x)
asked_fault at [] more x h = absurd (taken_refused (sym h))
asked_fault at (c ∷ l) more x {a} {b} h = go c.0 h (asked_fault at l more x)
  where
    go : (t : Bool) → refused a b ≡ moved at (asked ((t, c.1, c.2) ∷ l)) → (refused a b ≡ moved at (asked l) → refused a b ≡ shift at (checked (l ++ more) x))
        → refused a b ≡ shift at (checked ((t, c.1, c.2) ∷ (l ++ more)) x)
    go true h r = r h
    go false h r = let i : a ≡ c.1 = cc in let j : b ≡ at + c.2 = cc in rw (i, j) refl

module _ (d : Description) (s : List ℕ) where
  -- ---- the count

  pub list_short : length s < 4 → list_at d s ≡ refused SHAPE 0
  unfolding list_at
  list_short h = rw (lt-leb 4 (length s) h)

  pub list_many : 4 ≤ length s → d.most < le_at 4 s 0 → list_at d s ≡ refused LIMIT 0
  unfolding list_at
  list_many h m = rw (le-leb 4 (length s) h, lt-leb (le_at 4 s 0) d.most m)

  pub list_walk : 4 ≤ length s → le_at 4 s 0 ≤ d.most → list_at d s ≡ walk d s (le_at 4 s 0) 4 []
  unfolding list_at
  list_walk h m = rw (le-leb 4 (length s) h, le-leb (le_at 4 s 0) d.most m)

  module _ (at : ℕ) (seen : List ℕ) where
    -- ---- an entry

    pub entry_lead : {a b : ℕ} → refused a b ≡ moved at (asked (lead_checks d (drop at s))) → refused a b ≡ entry_at d s at seen
    unfolding entry_at
    entry_lead h = asked_fault at (lead_checks d (drop at s)) ((not (has (key_at d s) (key_at d s at) seen), KEY, 0) ∷ []) (read d.form (drop at s)) h

    module _ (p : Pass (lead_checks d (drop at s))) where
      pub entry_key : has (key_at d s) (key_at d s at) seen ≡ true → refused KEY at ≡ entry_at d s at seen
      unfolding entry_at
      entry_key h =
          sym (ap (shift at) (fails (lead_checks d (drop at s)) (not (has (key_at d s) (key_at d s at) seen), KEY, 0) [] (read d.form (drop at s)) p (ap not h)) ∙ ap (refused KEY) (omega arith))

      pub entry_rest : has (key_at d s) (key_at d s at) seen ≡ false → entry_at d s at seen ≡ read_at d.form s at
      unfolding entry_at
      entry_rest h =
          ap (shift at) (pass-checked (entry_checks d (has (key_at d s) (key_at d s at) seen) (drop at s)) (read d.form (drop at s))
          (pass-append (lead_checks d (drop at s)) ((not (has (key_at d s) (key_at d s at) seen), KEY, 0) ∷ []) p (ap not h, tt)))

    -- ---- the walk

    pub walk_next : (n : ℕ) {e : ℕ} → entry_at d s at seen ≡ taken e → walk d s (suc n) at seen ≡ walk d s n e (insert (key_at d s) at seen)
    unfolding walk
    walk_next n h = rw h

    pub walk_stop : (n : ℕ) {a b : ℕ} → entry_at d s at seen ≡ refused a b → walk d s (suc n) at seen ≡ refused a b
    unfolding walk
    walk_stop n h = rw h

    pub walk_left : ends_at d s at ≡ false → walk d s 0 at seen ≡ refused SHAPE at
    unfolding walk
    walk_left h = rw h

    pub walk-done : ends_at d s at ≡ true → walk d s 0 at seen ≡ taken seen
    unfolding walk
    walk-done h = rw h

-- ---- a part, too long or not

pub part_long : {A : Type 0} (p : List ℕ) (next : Outcome A) → 1073741824 < length p → refused SIZE 0 ≡ checked (part_checks p) next
part_long p next h = sym (rw (lt-leb (length p) 1073741824 h))

pub part_fine : {A : Type 0} (p : List ℕ) {next r : Outcome A} → length p ≤ 1073741824 → r ≡ next → r ≡ checked (part_checks p) next
part_fine p {next} h e = e ∙ sym (pass-checked (part_checks p) next (le-leb (length p) 1073741824 h, tt))

-- ---- room for the starts
