-- How many bytes a written message has.
-- Assumes nothing.
use mathlib.Core.Path.{◌≡◌, refl}
use mathlib.Core.List.{List, [], ◌∷◌}
use Prim.Native.Nat.{ℕ, ◌+◌}
use native.Mathlib.Omega.{arith}
use lib.ListN.{length, length-append}
use Rattle.wire.proofs.Numbers.{length-bytes_of}
use Rattle.kinds.specs.declared.Cell.{Cell}
use Rattle.kinds.specs.declared.Form.{Form}
use Rattle.kinds.specs.Kinds.{cells, ok_of}
use Rattle.messages.specs.Fields.{size_of}
use Rattle.messages.specs.Reading.{numbers_end}
use Rattle.messages.specs.Writing.{field_bytes, body_bytes, with_length, form_bytes}

pub length_fields : (ok : ℕ) (cs : List Cell) → length (field_bytes ok cs) ≡ size_of ok cs
unfolding field_bytes size_of
length_fields ok [] = refl
length_fields ok (c ∷ cs) = rw (length-append, length-bytes_of, length_fields ok cs)

pub length_sized : (d : List ℕ) → length (with_length d) ≡ 4 + length d
length_sized d = rw (length-append, length-bytes_of)

pub length_form : (f : Form) (d : List ℕ) → length (form_bytes f d) ≡ numbers_end f + length (body_bytes f.body d)
unfolding form_bytes
length_form f d = rw (length-append, length-append, length-bytes_of, length_fields (ok_of f) (cells f)) (omega arith)
