-- A reading that is written again gives the same bytes.
-- Assumes nothing.
use mathlib.Core.Path.{◌≡◌, refl, sym}
use mathlib.Core.Bool.{true}
use mathlib.Core.List.{List, [], ◌∷◌}
use Prim.Native.Nat.{ℕ, ◌+◌, ◌≤◌}
use native.Mathlib.Omega.{arith}
use borrow.Author.Tests.{leb-true}
use lib.Dec.{leb}
use lib.ListN.{length, take, drop, length-drop, take-append-drop, drop_of_length-le}
use lib.Seq.{take-add, drop-drop, take_all, length-take-le}
use Rattle.answer.specs.Numbers.{TEXT}
use Rattle.answer.specs.Outcome.{taken, Pass}
use Rattle.answer.proofs.Checks.{checked-pass, pass-append, append-pass}
use Rattle.answer.proofs.Outcomes.{taken_is}
use Rattle.wire.specs.Numbers.{Bytes as AreBytes, le_at}
use Rattle.wire.proofs.Numbers.{le_at_bound, bytes_of-le_at}
use Rattle.utf8.specs.Scan.{is_text, break_at}
use Rattle.kinds.specs.declared.Message.{Message}
use Rattle.kinds.specs.declared.Body.{Body}
use Rattle.kinds.specs.declared.Body.TheVariants.{Empty, Bytes, Text}
use Rattle.kinds.specs.declared.Cell.{Cell}
use Rattle.kinds.specs.Kinds.{paper, cells, ok_of}
use Rattle.messages.specs.Fields.{field_width, size_of, numbers_at, message_at}
use Rattle.messages.specs.Reading.{message_most, cell_checks, data_length, data_fits, data_in, left_over_checks, body_checks, numbers_end, read_checks, MessageAndData, message_content, read_message}
use Rattle.messages.specs.Writing.{field_bytes, with_length, body_bytes, form_bytes, value_checks, data_checks, write_checks, written}
use Rattle.messages.proofs.Cells.{fields_in, numbers_in, Fit, Typed, widths}
use Rattle.messages.proofs.Table.{row}

-- ---- the numbers

-- bytes are below 256, so the numbers that stand in fields are within their types
pub stand_typed : (ok : ℕ) (cs : List Cell) (at : ℕ) (m : List ℕ) → AreBytes m → numbers_in cs ≡ numbers_at ok (fields_in cs) at m → Fit 0 cs
unfolding numbers_at
stand_typed ok [] at m y e = tt
stand_typed ok (c ∷ cs) at m y e =
    let n = field_width ok c.0 in
    let v : c.1 ≡ le_at n m at = cc in
    ((widths ok c.0 c.1).typed (rw v (le_at_bound n m at y)), stand_typed ok cs (at + n) m y (cc))

pub record Stood (ok : ℕ) (cs : List Cell) (at : ℕ) (m : List ℕ) : Type 0 where
  pub within : at + size_of ok cs ≤ length m
  pub bytes : field_bytes ok cs ≡ take (size_of ok cs) (drop at m)
  pub values : Pass (value_checks ok cs)

pub stood : (ok : ℕ) (cs : List Cell) (at : ℕ) (m : List ℕ) → AreBytes m → at ≤ length m → numbers_in cs ≡ numbers_at ok (fields_in cs) at m → Pass (cell_checks ok cs at m) → Stood ok cs at m
unfolding numbers_at cell_checks field_bytes size_of value_checks
stood ok [] at m y h e p = record { within = omega arith; bytes = refl; values = tt }
stood ok (c ∷ cs) at m y h e p =
    let n = field_width ok c.0 in
    let v : c.1 ≡ le_at n m at = cc in
    let l : at + n ≤ length m = leb-true (at + n) (length m) p.0 in
    let k = stood ok cs (at + n) m y l (cc) p.1.1 in
    record {
      within = omega (arith, k.within);
      bytes = rw (v, bytes_of-le_at n m at y l, k.bytes, ← drop-drop n at m, ← take-add n (size_of ok cs) (drop at m));
      values = (p.1.0, k.values);
    }

-- ---- the data

pub record Kept (b : Body) (k : Message) (at : ℕ) (m : List ℕ) : Type 0 where
  pub bytes : body_bytes b (take (message_content k b at m).len (drop (message_content k b at m).start m)) ≡ drop at m
  pub contents : Pass (data_checks b (take (message_content k b at m).len (drop (message_content k b at m).start m)))

kept_sized : (at : ℕ) (m : List ℕ) → AreBytes m → Pass (data_fits at m) → Pass (left_over_checks m (at + 4 + data_length at m)) → with_length (data_in at m) ≡ drop at m
kept_sized at m y p q =
    let n = data_length at m in
    let h = leb-true (at + 4) (length m) p.0 in
    let g = leb-true (at + 4 + n) (length m) p.1.0 in
    let o = leb-true (length m) (at + 4 + n) q.0 in
    let l : length (data_in at m) ≡ n = length-take-le n (drop (at + 4) m) (rw length-drop (omega arith)) in
    let w : data_in at m ≡ drop (at + 4) m = take_all n (drop (at + 4) m) (rw length-drop (omega arith)) in
    rw (l, bytes_of-le_at 4 m at y h, w, ← drop-drop 4 at m) (take-append-drop 4 (drop at m))

pub kept : (b : Body) (k : Message) (at : ℕ) (m : List ℕ) → AreBytes m → Pass (body_checks b at m) → Kept b k at m
unfolding body_checks
kept Empty k at m y p = record { bytes = sym (drop_of_length-le m (leb-true (length m) at p.0)); contents = (refl, tt) }
kept Bytes k at m y p =
    let h = append-pass (data_fits at m) (left_over_checks m (at + 4 + data_length at m)) p in
    record { bytes = kept_sized at m y h.0 h.1; contents = tt }
kept Text k at m y p =
    let h = append-pass (data_fits at m) ((is_text (data_in at m), TEXT, at + 4 + break_at (data_in at m)) ∷ left_over_checks m (at + 4 + data_length at m)) p in
    record { bytes = kept_sized at m y h.0 h.1.1; contents = (h.1.0, tt) }

-- ---- the whole

content_message : (k : Message) (b : Body) (at : ℕ) (m : List ℕ) → (message_content k b at m).message ≡ k
content_message k Empty at m = refl
content_message k Bytes at m = refl
content_message k Text at m = refl

-- the data that a reading names
abbrev pub data_of : MessageAndData → List ℕ → List ℕ
data_of c m = take c.len (drop c.start m)

pub record Again (c : MessageAndData) (m : List ℕ) : Type 0 where
  pub typed : Typed c.message
  pub passes : Pass (write_checks (paper c.message) (data_of c m))
  pub bytes : written c.message (data_of c m) ≡ m

pub written_read : (m : List ℕ) (c : MessageAndData) → AreBytes m → read_message m ≡ taken c → Again c m
unfolding read_message read_checks write_checks written form_bytes
written_read m c y e =
    let k = message_at m in
    let f = paper k in
    let ok = ok_of f in
    let at = numbers_end f in
    let C = message_content k f.body at m in
    let d = data_of C m in
    let h = checked-pass (read_checks f m) (taken C) c e in
    let p = h.0 in
    let two = leb-true 2 (length m) p.1.0 in
    let q = append-pass (cell_checks ok (cells f) 2 m) (body_checks f.body at m) p.1.1.1 in
    let r = row m p.1.1.0 in
    let s = stood ok (cells f) 2 m y two r.stand q.0 in
    let g = kept f.body k at m y q.1 in
    let b : form_bytes f d ≡ m =
    rw (g.bytes, s.bytes, ← drop-drop (size_of ok (cells f)) 2 m, take-append-drop (size_of ok (cells f)) (drop 2 m), r.tag, bytes_of-le_at 2 m 0 y two) (take-append-drop 2 m) in
    let l : (leb (length (form_bytes f d)) message_most) ≡ true = rw b p.0 in
    let v : Pass (write_checks f d) = (p.1.1.0, pass-append (value_checks ok (cells f)) _ s.values (pass-append (data_checks f.body d) _ g.contents (l, tt))) in
    let n = content_message k f.body at m in
    rw (← taken_is h.1) (record { typed = rw n (stand_typed ok (cells f) 2 m y r.stand); passes = rw n v; bytes = rw n b })
