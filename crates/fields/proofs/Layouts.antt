-- The layouts of document 002 come to the lengths and the listed numbers of document 01.
-- Assumes nothing.
use mathlib.Core.Path.{◌≡◌, refl}
use mathlib.Core.List.{List, [], ◌∷◌, ◌++◌}
use Prim.Native.Nat.{ℕ, ◌+◌, ◌*◌}
use Rattle.entries.specs.States.{registers, extension, mmu_length}
use Rattle.fields.specs.Layout.{LayoutPart, free, ranged, fixed, Layout, breadth, cpu_layout, cpu_extension, mmu_layout}

-- the bytes of a layout
abbrev pub layout_size : Layout → ℕ
layout_size [] = 0
layout_size (g ∷ l) = g.0 * breadth g.1 + layout_size l

-- the listed numbers: the offset, how many bytes, the least and the greatest
abbrev pub ranges_of : ℕ → List LayoutPart → List (ℕ × ℕ × ℕ × ℕ)
ranges_of at [] = []
ranges_of at (free w ∷ l) = ranges_of (at + w) l
ranges_of at (ranged w a b ∷ l) = (at, w, a, b) ∷ ranges_of (at + w) l
ranges_of at (fixed w a ∷ l) = (at, w, a, a) ∷ ranges_of (at + w) l

-- those of a layout that has them in groups of one
abbrev pub ranges : ℕ → Layout → List (ℕ × ℕ × ℕ × ℕ)
ranges at [] = []
ranges at (g ∷ l) = ranges_of at g.1 ++ ranges (at + g.0 * breadth g.1) l

pub cpu_size : layout_size cpu_layout ≡ 1183
cpu_size = refl

pub cpu_size_extended : layout_size (cpu_layout ++ cpu_extension) ≡ 1191
cpu_size_extended = refl

pub mmu_size : layout_size mmu_layout ≡ mmu_length 2
mmu_size = refl

pub cpu_ranges : ranges 0 cpu_layout ≡ registers
cpu_ranges = refl

pub cpu_ranges_extended : ranges 0 (cpu_layout ++ cpu_extension) ≡ registers ++ extension 1191
cpu_ranges_extended = refl
