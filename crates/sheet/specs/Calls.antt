-- The calls on CPU sheets: what is asked, in its order, and what is answered.
-- Assumes nothing.
use Rattle.std.specs.Prelude.{Bool, cond, List, ◌∷◌, ℕ, leb, ltb, length, replicate}
use Rattle.answer.specs.Numbers.{SHAPE}
use Rattle.answer.specs.Outcome.{Outcome, taken, refused, Checks, checked}
use Rattle.fields.specs.declared.State.TheVariants.{Cpu}
use Rattle.fields.specs.Fields.{right_length, state_checks}
use Rattle.sheet.specs.declared.Extension.{Extension}
use Rattle.sheet.specs.declared.CpuSheet.{CpuSheet}
use Rattle.sheet.specs.declared.CpuShown.{CpuShown}
use Rattle.sheet.specs.Sheet.{cpu_of, cpu_over}

-- ---- reading: the length, then the values

unfoldable pub cpu_call : List ℕ → Outcome CpuSheet
cpu_call s = checked (state_checks Cpu s) (taken (cpu_of s))

-- number, place and sheet; beside a refusal the sheet of a state of zeros
abbrev pub cpu_shown : Outcome CpuSheet → CpuShown
cpu_shown (taken c) = record { number = 0; place = 0; sheet = c }
cpu_shown (refused n p) = record { number = n; place = p; sheet = cpu_of (replicate 1183 0) }

-- ---- writing over a state: its length, that sheet and state have the extension or both have none, then the state as it would be

abbrev pub matches : Extension → ℕ → Bool
matches e len = cond e.there (leb 1191 len) (ltb len 1191)

-- the bytes of all fields: the extension's length is none
abbrev pub cpu_count : ℕ → ℕ
cpu_count len = cond (leb 1191 len) 1187 1183

unfoldable pub cpu_over_checks : CpuSheet → List ℕ → Checks
cpu_over_checks c s =
    (right_length Cpu s, SHAPE, 0)
    ∷ (matches c.extension (length s), SHAPE, 0)
    ∷ state_checks Cpu (cpu_over c s)

unfoldable pub cpu_over_call : CpuSheet → List ℕ → Outcome (List ℕ)
cpu_over_call c s = checked (cpu_over_checks c s) (taken (cpu_over c s))
