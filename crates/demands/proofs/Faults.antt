-- Every fault of a message has a number of document 01's table other than ROOM and HAVE, as those of a file and of a wrapper have.
-- Assumes nothing.
use mathlib.Core.Path.{refl}
use mathlib.Core.List.{List, [], ◌∷◌}
use Prim.Native.Nat.{ℕ, ◌+◌}
use Rattle.answer.specs.Outcome.{taken, Faulty}
use Rattle.order.proofs.Folds.{every_append}
use Rattle.aerosnap.proofs.Named.{Numbered, checked_faulty}
pub use Rattle.ready.proofs.Accepted.{wrapper_faulty}
use Rattle.kinds.specs.declared.Body.{Body as Behind}
use Rattle.kinds.specs.declared.Body.TheVariants.{Empty, Bytes, Text}
use Rattle.kinds.specs.declared.Cell.{Cell}
use Rattle.kinds.specs.Kinds.{paper, cells, ok_of}
use Rattle.messages.specs.Fields.{field_width, message_at}
use Rattle.messages.specs.Reading.{cell_checks, body_checks, numbers_end, message_content, read_checks, read_message}

-- ---- the message

fields_numbered : (ok : ℕ) (cs : List Cell) (at : ℕ) (m : List ℕ) → Numbered (cell_checks ok cs at m)
unfolding cell_checks
fields_numbered ok [] at m = tt
fields_numbered ok (c ∷ cs) at m = (refl, (refl, fields_numbered ok cs (at + field_width ok c.0) m))

body_numbered : (b : Behind) (at : ℕ) (m : List ℕ) → Numbered (body_checks b at m)
unfolding body_checks
body_numbered Empty at m = (refl, tt)
body_numbered Bytes at m = (refl, (refl, (refl, tt)))
body_numbered Text at m = (refl, (refl, (refl, (refl, tt))))

pub message_faulty : (m : List ℕ) → Faulty (read_message m)
unfolding read_message read_checks
message_faulty m =
    let k = message_at m in
    let f = paper k in
    checked_faulty (read_checks f m) (taken (message_content k f.body (numbers_end f) m))
    (refl, (refl, (refl, every_append _ (cell_checks (ok_of f) (cells f) 2 m) (body_checks f.body (numbers_end f) m) (fields_numbered (ok_of f) (cells f) 2 m) (body_numbered f.body (numbers_end f) m)))) tt
