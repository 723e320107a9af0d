-- Each promise fixes its answer and all of the lent memory: any two that it allows are equal.
-- Assumes nothing.
use mathlib.Core.Path.{◌≡◌, refl, sym, ◌∙◌, ap}
use mathlib.Core.Logic.{◌↔◌}
use mathlib.Core.Bool.{Bool, true, false}
use mathlib.Core.List.{List, ◌++◌}
use Prim.Native.Nat.{ℕ}
use lib.Dec.{leb}
use lib.ListN.{length, take, drop}
use Rattle.std.proofs.Common.{Result}
use Rattle.answer.specs.declared.Fault.{Fault}
use Rattle.answer.specs.Outcome.{Outcome, checked, done}
use Rattle.answer.specs.Calls.{outcome_of}
use Rattle.answer.proofs.Once.{equal_once, outcome_once, outcome_once}
use Rattle.wire.specs.Numbers.{le_at}
use Rattle.order.specs.Keyed.{sort}
use Rattle.entries.specs.Kinds.{Description}
use Rattle.lists.specs.Lists.{list_at, part_checks}
use Rattle.lists.specs.Promises.{zeros, Indexed, find_in, halves_in, Finds, Arranged}
use Rattle.lists.proofs.Finds.{found_once}
use Rattle.lists.proofs.Arranges.{arranged_count}

pub index_once : {o : Outcome (List ℕ)} {old : List ℕ} (r q : Result ℕ Fault) {new now : List ℕ} → Indexed o old r new → Indexed o old q now → (r ≡ q) × (new ≡ now)
index_once r q a b = (outcome_once r q (equal_once a.answers b.answers), equal_once a.leaves b.leaves)

pub forget_once : (old : List ℕ) {new now : List ℕ} → new ≡ zeros (length old) → now ≡ zeros (length old) → new ≡ now
forget_once old e f = equal_once e f

pub check_once : (d : Description) (s : List ℕ) (r q : Result (Unit {0}) Fault)
    → outcome_of r ≡ checked (part_checks s) (done (list_at d s)) → outcome_of q ≡ checked (part_checks s) (done (list_at d s)) → r ≡ q
check_once d s r q e f = outcome_once r q (equal_once e f)

pub few_once : (s : List ℕ) {r q : Bool} → r ≡ leb (le_at 4 s 0) 256 → q ≡ leb (le_at 4 s 0) 256 → r ≡ q
few_once s e f = equal_once e f

pub find_once : (key : ℕ → ℕ) (k : ℕ) (starts : List ℕ) (r q : Result ℕ ℕ) → Finds r (find_in key k starts) → Finds q (find_in key k starts) → r ≡ q
find_once key k starts r q e f = found_once r q (λ w. equal_once (e w) (f w))

pub find-ordered_once : (key : ℕ → ℕ) (k : ℕ) (starts : List ℕ) (r q : Result ℕ ℕ) → Finds r (halves_in key k starts) → Finds q (halves_in key k starts) → r ≡ q
find-ordered_once key k starts r q e f = found_once r q (λ w. equal_once (e w) (f w))

pub blank_once : (places : List ℕ) (r q : Bool) → (r ≡ true) ↔ (places ≡ zeros (length places)) → (q ≡ true) ↔ (places ≡ zeros (length places)) → r ≡ q
blank_once places true true e f = refl
blank_once places true false e f = sym (f.1 (e.0 refl))
blank_once places false true e f = e.1 (f.0 refl)
blank_once places false false e f = refl

pub arrange_once : (key : ℕ → ℕ) (old : List ℕ) {r q : ℕ} {new now : List ℕ} → Arranged key old r new → Arranged key old q now → (r ≡ q) × (new ≡ now)
arrange_once key old a b =
    let e = arranged_count a b in
    (e, a.leaves ∙ ap (λ (n : ℕ). sort key (take n old) ++ drop n old) e ∙ sym b.leaves)
