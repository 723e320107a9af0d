-- CPU and MMU states, by the version of their section.
-- Assumes nothing.
use Rattle.std.specs.Prelude.{List, [], ◌∷◌, ◌++◌, Bool, true, false, ◌&&◌, ◌||◌, ℕ, ◌+◌, length, drop, leb, eqb}
use Rattle.answer.specs.Numbers.{SHAPE}
use Rattle.answer.specs.Outcome.{Checks, checked, moved}
use Rattle.wire.specs.Numbers.{le_at}
use Rattle.format.specs.Format.{Asks, Format, sized, also, any, values}

-- version 1 is 412 bytes; version 2 is 1183, 1191 with the extension, or more where a newer saver extends it further
abbrev pub cpu_length : ℕ → ℕ → Bool
cpu_length v n = elim (eqb v 1) [ true ↦ eqb n 412 | false ↦ eqb n 1183 || leb 1191 n ]

-- a state above 1191 bytes has 1187 and as many as its extension's length says, the u32 at 1183
abbrev pub extends : List ℕ → Bool
extends e = leb (length e) 1191 || eqb (length e) (1187 + le_at 4 e 1183)

-- in version 2 byte 144 (mode) is 0 to 3, byte 145 (halted) 0 or 1, byte 260 (x87 top) 0 to 7
abbrev pub registers : List (ℕ × ℕ × ℕ × ℕ)
registers = (144, 1, 0, 3) ∷ (145, 1, 0, 1) ∷ (260, 1, 0, 7) ∷ []

-- with the extension bytes 1187, 1188 and 1189 are 0 or 1, and in a state of 1191 bytes the u32 at 1183 is 4
abbrev pub switches : List (ℕ × ℕ × ℕ × ℕ)
switches = (1187, 1, 0, 1) ∷ (1188, 1, 0, 1) ∷ (1189, 1, 0, 1) ∷ []

abbrev pub extension : ℕ → List (ℕ × ℕ × ℕ × ℕ)
extension n = elim (eqb n 1191) [ true ↦ (1183, 4, 4, 4) ∷ switches | false ↦ switches ]

-- the listed numbers of a state of n bytes
abbrev pub cpu_values : ℕ → ℕ → List (ℕ × ℕ × ℕ × ℕ)
cpu_values v n = elim (eqb v 1) [ true ↦ [] | false ↦ elim (leb 1191 n) [ true ↦ registers ++ extension n | false ↦ registers ] ]

-- what is asked of a state whose length is right
abbrev pub cpu_state : ℕ → Asks
cpu_state v e = values (cpu_values v (length e)) e

-- what is asked of a state's length, where it stands
abbrev pub cpu_length_checks : ℕ → ℕ → Checks
cpu_length_checks v n = (cpu_length v n, SHAPE, 0) ∷ []

-- a state's length is right
abbrev pub cpu_sized : ℕ → List ℕ → Bool
cpu_sized v e = cpu_length v (length e) && extends e

-- a whole CPU state: its length, before its values
abbrev pub cpu_whole : ℕ → Asks
cpu_whole v e = checked ((cpu_sized v e, SHAPE, 0) ∷ []) (cpu_state v e)

-- what is asked of a state and the four bytes of its length before it, where both are there: a wrong length is the fault of the length
abbrev pub held_checks : ℕ → Asks
held_checks v e = checked ((extends (drop 4 e), SHAPE, 0) ∷ []) (moved 4 (cpu_state v (drop 4 e)))

-- in CPUS: a u32 length, the state
abbrev pub held_state : ℕ → Format
held_state v = also (sized 4 (cpu_length_checks v) any) (held_checks v)

-- 68 bytes in version 1, 264 in version 2, any values
abbrev pub mmu_length : ℕ → ℕ
mmu_length v = elim (eqb v 1) [ true ↦ 68 | false ↦ 264 ]
