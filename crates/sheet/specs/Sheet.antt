-- CPU states of version 2 as structs of their fields, and a struct's fields written over a state.
-- That what stands in a struct is the field of the table is a law (proofs/Ties); the layout is said in `fields`.
-- Assumes nothing.
use Rattle.std.specs.Prelude.{List, ◌++◌, ℕ, ◌+◌, ◌*◌, leb, length, take, drop, get_or}
use Rattle.wire.specs.Numbers.{le_at}
use Rattle.wire.specs.Parts.{splice, put}
use Rattle.sheet.specs.declared.Sse.{Sse}
use Rattle.sheet.specs.declared.Front.{Front}
use Rattle.sheet.specs.declared.Math.{Math}
use Rattle.sheet.specs.declared.Extension.{Extension}
use Rattle.sheet.specs.declared.CpuSheet.{CpuSheet}
use Rattle.registers.specs.declared.Segment.{Segment}
use Rattle.registers.specs.Registers.{gather, in_turn, at, words_at, words_over, segment_in, segment_over, no_segment}
use Rattle.sheet.specs.Vectors.{rows, joined}

-- ---- a CPU state read

abbrev pub front_of : List ℕ → Front
front_of s = record { rip = le_at 8 s 128; rflags = le_at 8 s 136; mode = le_at 1 s 144; halted = le_at 1 s 145 }

-- ES, CS, SS, DS, FS, GS
abbrev pub segments_of : List ℕ → List Segment
segments_of s = gather (λ i. segment_in s (i * 18 + 146)) 6

abbrev pub math_of : List ℕ → Math
math_of s = record { fcw = le_at 2 s 254; fsw = le_at 2 s 256; ftw = le_at 2 s 258; top = le_at 1 s 260; fop = le_at 2 s 261; fip = le_at 8 s 263; fdp = le_at 8 s 271; fcs = le_at 2 s 279; fds = le_at 2 s 281 }

-- eight x87 registers of 16 bytes
abbrev pub st_of : List ℕ → List ℕ
st_of s = take 128 (drop 283 s)

abbrev pub sse_of : List ℕ → Sse
sse_of s = record { mxcsr = le_at 4 s 411; xmm = rows 16 (drop 415 s) }

abbrev pub image_of : List ℕ → List ℕ
image_of s = take 512 (drop 671 s)

-- 0 where the state has no extension
abbrev pub extension_of : List ℕ → Extension
extension_of s = record { there = leb 1191 (length s); a20 = le_at 1 s 1187; irq13 = le_at 1 s 1188; valid = le_at 1 s 1189; vector = le_at 1 s 1190 }

abbrev pub cpu_of : List ℕ → CpuSheet
cpu_of s = record { gpr = words_at 0 16 s; front = front_of s; segments = segments_of s; math = math_of s; st = st_of s; sse = sse_of s; image = image_of s; extension = extension_of s }

-- ---- a CPU sheet over a state

abbrev pub front_over : Front → List ℕ → List ℕ
front_over f s = at 145 1 f.halted (at 144 1 f.mode (at 136 8 f.rflags (at 128 8 f.rip s)))

abbrev pub segments_over : List Segment → List ℕ → List ℕ
segments_over a s = in_turn (λ i. segment_over (i * 18 + 146) (get_or a i no_segment)) 6 s

abbrev pub math_over : Math → List ℕ → List ℕ
math_over m s = at 281 2 m.fds (at 279 2 m.fcs (at 271 8 m.fdp (at 263 8 m.fip (at 261 2 m.fop (at 260 1 m.top (at 258 2 m.ftw (at 256 2 m.fsw (at 254 2 m.fcw s))))))))

abbrev pub sse_over : Sse → List ℕ → List ℕ
sse_over x s = splice 415 (joined x.xmm) (at 411 4 x.mxcsr s)

abbrev pub extension_over : Extension → List ℕ → List ℕ
extension_over e s = at 1190 1 e.vector (at 1189 1 e.valid (at 1188 1 e.irq13 (at 1187 1 e.a20 s)))

abbrev pub fields_over : CpuSheet → List ℕ → List ℕ
fields_over c s = extension_over c.extension (put 671 c.image (sse_over c.sse (put 283 c.st (math_over c.math (segments_over c.segments (front_over c.front (words_over 0 c.gpr s)))))))

-- the fields stand in the first 1191 bytes; those behind stay
abbrev pub cpu_over : CpuSheet → List ℕ → List ℕ
cpu_over c s = fields_over c (take 1191 s) ++ drop 1191 s
