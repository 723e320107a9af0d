-- The place of a list's first fault lies within its bytes.
-- Assumes nothing.
use mathlib.Core.Path.{◌≡◌, ap}
use mathlib.Core.Bool.{Bool, true, false, not}
use mathlib.Core.List.{List, [], ◌∷◌}
use Prim.Native.Nat.{ℕ, zero, suc, ◌≤◌, zero-le}
use native.Mathlib.Omega.{arith}
use lib.ListN.{length, drop, length-append, length-drop}
use borrow.Author.Tests.{leb-true}
use Rattle.answer.specs.Numbers.{KEY}
use Rattle.answer.specs.Outcome.{Outcome, taken, Checks, checked}
use Rattle.answer.specs.Calls.{asked}
use Rattle.answer.proofs.Checks.{checked-append}
use Rattle.answer.proofs.Within.{Within, checked-within, after-within, shift-within}
use Rattle.wire.specs.Numbers.{le_at}
use Rattle.format.specs.Format.{read}
use Rattle.format.proofs.Within.{read-within}
use Rattle.order.specs.Keyed.{insert, has}
use Rattle.entries.specs.Kinds.{Description, lead_checks}
use Rattle.lists.specs.Lists.{key_at, entry_checks, entry_at, end_checks, walk, count_checks, list_at}
use Rattle.entries.proofs.Lawful.{Lawful, lead_within}
use Rattle.lists.proofs.Walks.{entry_taken}

-- what comes behind checks that keep within
asked-within : {A : Type 0} (l : Checks) (a : Outcome A) (m : ℕ) → Within (asked l) m → Within a m → Within (checked l a) m
asked-within [] a m h k = k
asked-within (c ∷ l) a m h k = go c.0 h (asked-within l a m)
  where
    go : (b : Bool) → Within (asked ((b, c.1, c.2) ∷ l)) m → (Within (asked l) m → Within a m → Within (checked l a) m) → Within (checked ((b, c.1, c.2) ∷ l) a) m
    go true h r = r h k
    go false h r = h

module _ {d : Description} (K : Lawful d) (s : List ℕ) where
  pub entry_within : (at : ℕ) (seen : List ℕ) → at ≤ length s → Within (entry_at d s at seen) (length s)
  unfolding entry_at
  entry_within at seen h =
      let b : List ℕ = drop at s in
      let again : Bool = has (key_at d s) (key_at d s at) seen in
      let last : Checks = (not again, KEY, 0) ∷ [] in
      shift-within at (checked (entry_checks d again b) (read d.form b)) (length s) (length b)
      (rw (checked-append (lead_checks d b) last (read d.form b))
      (asked-within (lead_checks d b) (checked last (read d.form b)) (length b) (lead_within K b)
      (checked-within last (read d.form b) (length b) (zero-le, λ _. read-within d.form b K.keeps))))
      (omega (arith, length-drop at s))

  -- an entry ends within
  pub entry_end : (at : ℕ) (seen : List ℕ) → at ≤ length s → {e : ℕ} → entry_at d s at seen ≡ taken e → e ≤ length s
  entry_end at seen h q =
      let t = entry_taken d s at seen q in
      omega (arith, t.ends, length-drop at s, ap length t.cut, length-append t.e t.more)

  pub walk-within : (n at : ℕ) (seen : List ℕ) → at ≤ length s → Within (walk d s n at seen) (length s)
  unfolding walk
  walk-within zero at seen h = checked-within (end_checks d s at) (taken seen) (length s) (h, λ _. tt)
  walk-within (suc n) at seen h =
      after-within (entry_at d s at seen) (λ e. walk d s n e (insert (key_at d s) at seen)) (length s) (entry_within at seen h)
      (λ e q. walk-within n e (insert (key_at d s) at seen) (entry_end at seen h q))

  pub list_within : Within (list_at d s) (length s)
  unfolding list_at
  list_within =
      checked-within (count_checks d s) (walk d s (le_at 4 s 0) 4 []) (length s)
      (zero-le, λ h. (zero-le, λ _. walk-within (le_at 4 s 0) 4 [] (leb-true 4 (length s) h)))
