-- The promise of `form_of` fixes its answer: any two that it allows are equal.
-- Assumes nothing.
use mathlib.Core.Path.{◌≡◌, sym, ◌∙◌}
use Rattle.kinds.specs.declared.Message.{Message}
use Rattle.kinds.specs.declared.Form.{Form}
use Rattle.kinds.specs.Kinds.{paper, cell, cells, ok_of}
use mathlib.Core.List.{List}
use Prim.Native.Nat.{ℕ}
use Rattle.kinds.specs.declared.Cell.{Cell}
use Rattle.kinds.specs.declared.Field.{Field}

pub form_of_once : (k : Message) {r s : Form} → r ≡ paper k → s ≡ paper k → r ≡ s
form_of_once k e f = e ∙ sym f

pub cells_once : (f : Form) {r s : List Cell} → r ≡ cells f → s ≡ cells f → r ≡ s
cells_once f x y = x ∙ sym y

pub ok_once : (f : Form) {r s : ℕ} → r ≡ ok_of f → s ≡ ok_of f → r ≡ s
ok_once f x y = x ∙ sym y

-- a field of each width
pub cell_from_once : (w : Field) (n : ℕ) {r s : Cell} → r ≡ cell w n → s ≡ cell w n → r ≡ s
cell_from_once w n x y = x ∙ sym y
