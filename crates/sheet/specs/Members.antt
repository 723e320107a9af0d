-- Which field of the table each member of a sheet is: the bytes of the members, in the order of the fields' numbers, each by its index.
-- Assumes nothing.
use Rattle.std.specs.Prelude.{List, [], ◌∷◌, ℕ, ◌*◌, take, drop, get_or}
use Rattle.wire.specs.Numbers.{bytes_of}
use Rattle.sheet.specs.declared.CpuSheet.{CpuSheet}
use Rattle.registers.specs.Registers.{no_segment, no_member}

abbrev pub cpu_members : CpuSheet → List (ℕ → List ℕ)
cpu_members c =
    (λ i. bytes_of 8 (get_or c.gpr i 0))
    ∷ (λ i. bytes_of 8 c.front.rip)
    ∷ (λ i. bytes_of 8 c.front.rflags)
    ∷ (λ i. bytes_of 1 c.front.mode)
    ∷ (λ i. bytes_of 1 c.front.halted)
    ∷ (λ i. bytes_of 2 (get_or c.segments i no_segment).selector)
    ∷ (λ i. bytes_of 8 (get_or c.segments i no_segment).base)
    ∷ (λ i. bytes_of 4 (get_or c.segments i no_segment).limit)
    ∷ (λ i. bytes_of 4 (get_or c.segments i no_segment).access)
    ∷ (λ i. bytes_of 2 c.math.fcw)
    ∷ (λ i. bytes_of 2 c.math.fsw)
    ∷ (λ i. bytes_of 2 c.math.ftw)
    ∷ (λ i. bytes_of 1 c.math.top)
    ∷ (λ i. bytes_of 2 c.math.fop)
    ∷ (λ i. bytes_of 8 c.math.fip)
    ∷ (λ i. bytes_of 8 c.math.fdp)
    ∷ (λ i. bytes_of 2 c.math.fcs)
    ∷ (λ i. bytes_of 2 c.math.fds)
    ∷ (λ i. take 16 (drop (i * 16) c.st))
    ∷ (λ i. bytes_of 4 c.sse.mxcsr)
    ∷ (λ i. get_or c.sse.xmm i [])
    ∷ (λ i. c.image)
    ∷ (λ i. bytes_of 1 c.extension.a20)
    ∷ (λ i. bytes_of 1 c.extension.irq13)
    ∷ (λ i. bytes_of 1 c.extension.valid)
    ∷ (λ i. bytes_of 1 c.extension.vector)
    ∷ []

-- the bytes of field n, index i
unfoldable pub cpu_member : CpuSheet → ℕ → ℕ → List ℕ
cpu_member c n i = get_or (cpu_members c) n no_member i
