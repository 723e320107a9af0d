-- The records of a table: each has ROW bytes, and they follow one another.
-- Assumes nothing.
use Rattle.std.proofs.Common.{◌≡◌, ℕ, ◌+◌, ◌-◌, ◌*◌, ◌/◌, ◌%◌, ◌<◌, ◌≤◌, List, [], ◌∷◌, ◌++◌, length, get_or, take, drop, sym, refl, ap, ◌∙◌, append_assoc, append-nil, add-one, arith, length-append, take_all, take-suc}
use Rattle.wire.specs.Parts.{Wrote}
use Rattle.wire.proofs.Numbers.{length-bytes_of}
use Rattle.wire.proofs.Parts.{wrote_tail}
use Rattle.order.specs.Keyed.{flat}
use Rattle.order.proofs.Folds.{flat_append}
use Rattle.tables.specs.declared.Table.{Table}
use Rattle.tables.specs.declared.Table.TheVariants.{Devices, Disks, Cpus, Mmus, Controllers}
use Rattle.tables.specs.Tables.{ROW, position_in, ended, framed_row, row_of, rows_in, rows_at}
use Rattle.wire.specs.Numbers.{Bytes, le_at, bytes_of}
use Rattle.wire.proofs.Numbers.{le_at-add, le_at_bound, bytes_of-halves}

-- ---- numbers that stand side by side, as one

fours : (s : List ℕ) (at : ℕ) → Bytes s → bytes_of 8 (le_at 8 s at) ≡ bytes_of 4 (le_at 4 s at) ++ bytes_of 4 (le_at 4 s (at + 4))
fours s at b =
    let x : ℕ = le_at 8 s at in
    let e : x ≡ le_at 4 s at + 4294967296 * le_at 4 s (at + 4) = le_at-add 4 4 s at in
    let h : le_at 4 s at < 4294967296 = le_at_bound 4 s at b in
    let m : x % 4294967296 ≡ le_at 4 s at = omega arith in
    let d : x / 4294967296 ≡ le_at 4 s (at + 4) = omega arith in
    sym (bytes_of-halves 4 4 x) ∙ ap (λ (k : ℕ). bytes_of 4 k ++ bytes_of 4 (x / 4294967296)) m ∙ ap (λ (k : ℕ). bytes_of 4 (le_at 4 s at) ++ bytes_of 4 k) d

twos : (s : List ℕ) (at : ℕ) → Bytes s → bytes_of 4 (le_at 4 s at) ≡ bytes_of 2 (le_at 2 s at) ++ bytes_of 2 (le_at 2 s (at + 2))
twos s at b =
    let x : ℕ = le_at 4 s at in
    let e : x ≡ le_at 2 s at + 65536 * le_at 2 s (at + 2) = le_at-add 2 2 s at in
    let h : le_at 2 s at < 65536 = le_at_bound 2 s at b in
    let m : x % 65536 ≡ le_at 2 s at = omega arith in
    let d : x / 65536 ≡ le_at 2 s (at + 2) = omega arith in
    sym (bytes_of-halves 2 2 x) ∙ ap (λ (k : ℕ). bytes_of 2 k ++ bytes_of 2 (x / 65536)) m ∙ ap (λ (k : ℕ). bytes_of 2 (le_at 2 s at) ++ bytes_of 2 k) d

-- eight bytes as one number are a u32 and two u16
pub head_words : (s : List ℕ) (at : ℕ) → Bytes s → bytes_of 8 (le_at 8 s at) ≡ bytes_of 4 (le_at 4 s at) ++ (bytes_of 2 (le_at 2 s (at + 4)) ++ bytes_of 2 (le_at 2 s (at + 6)))
head_words s at b = let z : at + 4 + 2 ≡ at + 6 = omega arith in fours s at b ∙ ap (λ (l : List ℕ). bytes_of 4 (le_at 4 s at) ++ l) (twos s (at + 4) b ∙ ap (λ (k : ℕ). bytes_of 2 (le_at 2 s (at + 4)) ++ bytes_of 2 (le_at 2 s k)) z)

-- a u32 and the 0 behind it
widened : (q : ℕ) → q < 4294967296 → bytes_of 8 q ≡ ended q
widened q h =
    let m : q % 4294967296 ≡ q = omega arith in
    let d : q / 4294967296 ≡ 0 = omega arith in
    sym (bytes_of-halves 4 4 q) ∙ ap (λ (k : ℕ). bytes_of 4 k ++ bytes_of 4 (q / 4294967296)) m ∙ ap (λ (k : ℕ). bytes_of 4 q ++ bytes_of 4 k) d

-- the record of a section or a device, as it is stored
pub framed_words : (p q : ℕ) (e : List ℕ) → Bytes e → q < 4294967296 → bytes_of 8 (le_at 8 e 0) ++ (bytes_of 8 (p + 16) ++ (bytes_of 8 (le_at 8 e 8) ++ bytes_of 8 q)) ≡ framed_row p q e
framed_words p q e b h =
    let rest : List ℕ = bytes_of 8 (p + 16) ++ (bytes_of 8 (le_at 8 e 8) ++ ended q) in
    let head : bytes_of 8 (le_at 8 e 0) ≡ bytes_of 4 (le_at 4 e 0) ++ (bytes_of 2 (le_at 2 e 4) ++ bytes_of 2 (le_at 2 e 6)) = head_words e 0 b in
    ap (λ (l : List ℕ). bytes_of 8 (le_at 8 e 0) ++ (bytes_of 8 (p + 16) ++ (bytes_of 8 (le_at 8 e 8) ++ l))) (widened q h)
    ∙ ap (λ (l : List ℕ). l ++ rest) head
    ∙ append_assoc (bytes_of 4 (le_at 4 e 0)) (bytes_of 2 (le_at 2 e 4) ++ bytes_of 2 (le_at 2 e 6)) rest
    ∙ ap (λ (l : List ℕ). bytes_of 4 (le_at 4 e 0) ++ l) (append_assoc (bytes_of 2 (le_at 2 e 4)) (bytes_of 2 (le_at 2 e 6)) rest)

pub length_row : (t : Table) (p q : ℕ) (e : List ℕ) → length (row_of t p q e) ≡ ROW
length_row Devices p q e = simp (length-append, length-bytes_of)
length_row Disks p q e = simp (length-append, length-bytes_of)
length_row (Cpus v) p q e = simp (length-append, length-bytes_of)
length_row (Mmus v) p q e = simp (length-append, length-bytes_of)
length_row Controllers p q e = simp (length-append, length-bytes_of)

-- where there is room for the records of all starts, they are all of those that fit
pub rows_all : (l : List ℕ) (have : ℕ) → ROW * length l ≤ have → take (have / ROW) l ≡ l
rows_all l have h = take_all (have / ROW) l (omega arith)

-- after the first i of them, where there are no more or where there is no room for one more, they are those that fit
pub rows_end : (l : List ℕ) (have i : ℕ) → ROW * i ≤ have → length l ≤ i → take i l ≡ take (have / ROW) l
rows_end l have i k h = take_all i l h ∙ sym (rows_all l have (omega arith))

pub rows_full : (l : List ℕ) (have i : ℕ) → ROW * i ≤ have → have - ROW * i < ROW → take i l ≡ take (have / ROW) l
rows_full l have i k h = let e : i ≡ have / ROW = omega arith in ap (λ (n : ℕ). take n l) e

module _ (t : Table) (base : ℕ) (s all : List ℕ) where
  -- the record of the entry that starts at y
  abbrev row : ℕ → List ℕ
  row y = row_of t (base + y) (position_in all y) (drop y s)

  pub length-rows_in : (l : List ℕ) → length (rows_in t base s all l) ≡ ROW * length l
  length-rows_in [] = refl
  length-rows_in (y ∷ l) = omega (arith, length-append (row y) (rows_in t base s all l), length_row t (base + y) (position_in all y) (drop y s), length-rows_in l)

  -- one turn of the loop: a record written into the tail
  pub rows_turn : (l : List ℕ) (i q : ℕ) → i < length l → position_in all (get_or l i 0) ≡ q → {old mid new : List ℕ} {at : ℕ} → Wrote (rows_in t base s all (take i l)) old mid at
      → Wrote (row_of t (base + get_or l i 0) q (drop (get_or l i 0) s)) (take (length mid - at) (drop at mid)) new ROW
      → Wrote (rows_in t base s all (take (i + 1) l)) old (take at mid ++ (new ++ drop (length mid - at) (drop at mid))) (at + ROW)
  rows_turn l i q h p so e =
      let y : ℕ = get_or l i 0 in
      let split : rows_in t base s all (take (i + 1) l) ≡ rows_in t base s all (take i l) ++ row_of t (base + y) q (drop y s) =
      ap (flat row) (ap (λ (n : ℕ). take n l) (add-one i) ∙ take-suc l i 0 h) ∙ flat_append row (take i l) (y ∷ []) ∙ ap (λ (x : List ℕ). rows_in t base s all (take i l) ++ x) (append-nil (row y) ∙ ap (λ (k : ℕ). row_of t (base + y) k (drop y s)) p) in
      rw split (wrote_tail so e)

pub length-rows : (t : Table) (base : ℕ) (s l : List ℕ) → length (rows_at t base s l) ≡ ROW * length l
length-rows t base s l = length-rows_in t base s l l
