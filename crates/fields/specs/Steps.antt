-- For contracts of private functions: where a field stands.
-- Assumes nothing.
use Rattle.std.specs.Prelude.{[], ◌∷◌, ℕ}
use Rattle.answer.specs.Numbers.{SHAPE}
use Rattle.answer.specs.Outcome.{Outcome, taken, checked}
use Rattle.fields.specs.declared.Row.{Row}
use Rattle.fields.specs.declared.Spot.{Spot}
use Rattle.fields.specs.Fields.{field_place, has_in}

-- its place and its bytes, or the refusal of one that the state lacks
abbrev pub field_spot : Row → ℕ → ℕ → Outcome Spot
field_spot r i len = checked ((has_in r i len, SHAPE, 0) ∷ []) (taken (record { at = field_place r i; width = r.width }))
