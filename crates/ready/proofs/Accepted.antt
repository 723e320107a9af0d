-- What a call takes is told by its number: no refusal of a wrapper has the number 0.
-- Assumes nothing.
use mathlib.Core.Path.{◌≡◌, refl}
use lib.Dec.{eqb}
use borrow.Author.Tests.{ne_eqb}
use mathlib.Core.List.{List}
use Prim.Native.Nat.{ℕ}
use native.Mathlib.Omega.{arith}
use lib.ListN.{drop}
use Rattle.answer.specs.Outcome.{Outcome, taken, refused, moved, Faulty}
use Rattle.answer.specs.Calls.{verdict}
use Rattle.answer.proofs.Table.{fault_some}
use Rattle.entries.specs.Kinds.{controllers}
use Rattle.lists.specs.Lists.{list_at}
use Rattle.aerosnap.proofs.Named.{checked_faulty, checked_inside, moved_faulty, EntryFaults, list_faulty}
use Rattle.dskc.specs.Wrapper.{wrapper_header_checks, wrapper_of}
use Rattle.ready.specs.Missing.{is_taken}

controller_faults : EntryFaults controllers
controller_faults = record {
  early = λ b. (refl, tt);
  form = ((λ e. checked_inside (controllers.early e) (taken tt) (refl, tt) tt), ((λ n. tt), λ e. tt));
}

-- every fault of a wrapper has a number of document 01's table other than ROOM and HAVE, as those of a file have
pub wrapper_faulty : (s : List ℕ) → Faulty (wrapper_of s)
unfolding wrapper_of
wrapper_faulty s =
    checked_faulty (wrapper_header_checks s) (moved 16 (list_at controllers (drop 16 s))) (refl, (refl, (refl, (refl, (refl, (refl, tt)))))) (moved_faulty 16 (list_at controllers (drop 16 s)) (list_faulty controller_faults (drop 16 s)))

pub number_told : {A : Type 0} (o : Outcome A) → Faulty o → eqb (verdict o).number 0 ≡ is_taken o
number_told (taken a) f = refl
number_told (refused n p) f = ne_eqb n 0 (λ z. omega (arith, fault_some n f))
