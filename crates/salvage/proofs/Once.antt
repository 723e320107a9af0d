-- The promise fixes its answer and every byte of lent memory: any two that it allows are equal.
-- Assumes nothing.
use mathlib.Core.Path.{◌≡◌}
use mathlib.Core.List.{List}
use Prim.Native.Nat.{ℕ}
use lib.ListN.{length}
use Rattle.answer.proofs.Once.{equal_once}
use Rattle.aerosnap.specs.Salvage.{salvage}
use Rattle.salvage.specs.declared.Salvaged.{Salvaged}
use Rattle.salvage.specs.Salvaging.{Salvages, rescue_answer}
use Rattle.std.proofs.Common.{Result}
use Rattle.answer.specs.declared.Fault.{Fault}
use Rattle.salvage.specs.declared.Rescue.{Rescue}

pub salvage_once : (file out losses : List ℕ) {r p : Salvaged} {new now recs lines : List ℕ}
    → Salvages (salvage (length out) (length losses) file) out losses r new recs → Salvages (salvage (length out) (length losses) file) out losses p now lines → (r ≡ p) × (new ≡ now) × (recs ≡ lines)
salvage_once file out losses a b = (equal_once a.answers b.answers, equal_once a.file b.file, equal_once a.records b.records)

pub salvaged_from_once : (o : Result Rescue Fault) {r s : Salvaged} → r ≡ rescue_answer o → s ≡ rescue_answer o → r ≡ s
salvaged_from_once o e f = equal_once e f
