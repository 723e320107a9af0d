-- The loop that writes the records of the sections.
-- Assumes nothing.
use mathlib.Core.Path.{◌≡◌, sym, ◌∙◌, ap}
use mathlib.Core.List.{List, ◌++◌}
use Prim.Native.Nat.{ℕ, suc, ◌+◌, ◌-◌, ◌*◌, ◌≤◌, ◌<◌}
use native.Mathlib.Numerals.{add-one}
use native.Mathlib.Omega.{arith}
use lib.ListN.{length, take, drop}
use Rattle.answer.specs.Outcome.{taken}
use Rattle.answer.proofs.Outcomes.{taken_is}
use Rattle.wire.specs.Parts.{put, Wrote}
use Rattle.wire.proofs.Numbers.{le_at-append}
use Rattle.wire.proofs.Filling.{Filling, filling_none, filling_end, filling_next_room, filling_next_fits, filling_next}
use Rattle.writer.proofs.Fits.{wrote_first}
use Rattle.order.specs.Entries.{join}
use Rattle.tables.specs.Tables.{ROW, framed_row}
use Rattle.tables.specs.declared.Table.TheVariants.{Devices}
use Rattle.tables.proofs.Rows.{length_row}
use Rattle.aerosnap.specs.File.{file_of}
use Rattle.aerosnap.specs.Tables.{section_rows}
use Rattle.aerosnap.proofs.Rows.{sections-length}
use Rattle.aerosnap.proofs.Taken.{file_sound}
use Rattle.aerosnap.proofs.Standing.{Stand, stand_start, end_at, Turn, turn, finished}

-- ---- the records of the sections

-- a record is made of the section's first 16 bytes
row_front : (p q : ℕ) (e more : List ℕ) → 16 ≤ length e → framed_row p q (e ++ more) ≡ framed_row p q e
row_front p q e more h = cc (le_at-append 4 e more 0 (omega arith), le_at-append 2 e more 4 (omega arith), le_at-append 2 e more 6 (omega arith), le_at-append 8 e more 8 (omega arith))

-- what the loop keeps: q sections are written, and the records of those to come are the rest of what is to be written
pub record Rowing (s : List ℕ) (l : List (List ℕ)) (at t q : ℕ) (old new : List ℕ) : Type 0 where
  pub left : List (List ℕ)
  pub stand : Stand s at left
  pub number : q + length left ≡ length l
  pub few : length l ≤ 64
  pub fill : Filling (section_rows 16 0 l) old (section_rows at q left) t new

pub rowing_start : (s old : List ℕ) → ((l : List (List ℕ)) × (file_of s ≡ taken l) × (ROW * length l ≤ length old)) → (l : List (List ℕ)) → file_of s ≡ taken l → Rowing s l 16 0 0 old old
rowing_start s old (m, g, r) l h =
    let e : m ≡ l = taken_is (sym g ∙ h) in
    record { left = l; stand = stand_start s h; number = omega arith; few = (file_sound s h).1.few; fill = filling_none (section_rows 16 0 l) old (omega (arith, sections-length 16 0 l, ap length e)) }

module _ {s : List ℕ} {l : List (List ℕ)} {at t q : ℕ} {old new : List ℕ} (v : Rowing s l at t q old new) where
  pub rowing_done : length s ≤ at → Wrote (section_rows 16 0 l) old new (ROW * length l)
  unfolding section_rows
  rowing_done h = let w = filling_end (rw (finished v.left v.stand h) at v.fill) in record { count = sym (sections-length 16 0 l); bytes = w.bytes }

  module _ (h : at < length s) where
    rowing_turn : Turn s at v.left
    rowing_turn = turn v.left v.stand h

    -- the record that comes next, and those behind it
    abbrev row : List ℕ
    row = framed_row at q (drop at s)

    abbrev rest : List ℕ
    rest = section_rows (end_at s at) (suc q) rowing_turn.more

    row_long : length row ≡ ROW
    row_long = length_row Devices at q (drop at s)

    split : section_rows at q v.left ≡ row ++ rest
    unfolding section_rows
    split =
        let x = rowing_turn in
        let e : List ℕ = x.e in
        let c : drop at s ≡ e ++ join x.more = v.stand.cut ∙ ap join x.split in
        ap (section_rows at q) x.split
        ∙ ap (λ (j : ℕ). framed_row at q e ++ section_rows j (suc q) x.more) (sym x.ends)
        ∙ ap (λ (b : List ℕ). b ++ rest) (sym (ap (framed_row at q) c ∙ row_front at q e (join x.more) x.far))

    parts : Filling (section_rows 16 0 l) old (row ++ rest) t new
    parts = rw split at v.fill

    -- one more is written then
    pub rowing_count : q + 1 ≤ 64
    rowing_count = omega (arith, v.number, v.few, ap length rowing_turn.split)

    -- there is room for it
    pub rowing_room : t + ROW ≤ length new
    rowing_room = omega (arith, filling_next_fits row rest parts, row_long)

    pub rowing_next : {last : List ℕ} → last ≡ put 0 row (take (length new - t) (drop t new)) → Rowing s l (end_at s at) (t + ROW) (q + 1) old (take t new ++ (last ++ drop (length new - t) (drop t new)))
    rowing_next p = record {
      left = rowing_turn.more;
      stand = rowing_turn.next;
      number = omega (arith, v.number, ap length rowing_turn.split);
      few = v.few;
      fill = rw (add-one q) (filling_next row rest parts (rw row_long at (wrote_first {bs = row} (filling_next_room row rest parts) p)));
    }
