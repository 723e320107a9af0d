-- The walk over the parts of a file: one part at a place, the records of losses, what the loop keeps, and its turns.
-- Assumes nothing.
use mathlib.Core.Path.{◌≡◌, refl, sym, ◌∙◌, ap, subst}
use mathlib.Core.List.{List, [], ◌∷◌, ◌++◌, map, append-nil, append_assoc}
use mathlib.Core.Bool.{Bool, true, false, cond}
use Prim.Native.Nat.{ℕ, ◌+◌, ◌-◌, ◌≤◌, ◌<◌}
use native.Mathlib.Omega.{arith}
use lib.ListN.{length, take, drop, get_or, length-append, length-take, length-drop, replicate, take-append-drop}
use lib.Seq.{take-append_seam, length-take-le}
use lib.Dec.{leb, eqb}
use borrow.Author.Tests.{leb-true, le-leb, lt-leb}
use Rattle.answer.specs.Numbers.{CUT}
use Rattle.std.proofs.Common.{Result, Ok, Err, Option}
use Rattle.answer.specs.declared.Fault.{Fault}
use Rattle.answer.specs.Outcome.{Outcome, taken, checked}
use Rattle.answer.proofs.Checks.{checked-pass, and_true}
use Rattle.answer.proofs.Outcomes.{made_stop, made_taken}
use Rattle.wire.specs.Numbers.{le_at}
use Rattle.wire.specs.Parts.{Wrote}
use Rattle.wire.proofs.Numbers.{le_at-drop, le_at_here, length-bytes_of}
use Rattle.wire.proofs.Parts.{none, wrote_tail, wrote_length, length_tail}
use Rattle.order.specs.Keyed.{weigh, Every, Fresh}
use Rattle.order.specs.Entries.{join}
use Rattle.order.proofs.Folds.{flat_append, every_append}
use Rattle.lists.specs.Lists.{whole}
use Rattle.lists.specs.Promises.{zeros}
use Rattle.aerosnap.specs.Known.{known}
use Rattle.aerosnap.specs.File.{file_most, header, id_of, length_of, slot_of, fits_in, section_of}
use Rattle.aerosnap.specs.Rules.{IsSection, IsFile, is_known_section}
use Rattle.aerosnap.specs.Content.{tidy, content_of, secs, render}
use Rattle.aerosnap.specs.Salvage.{Part, keeps, loses, bytes_in, kept_by, length_of_part, read_part, parts_of, all_kept, loss_bytes, loss_row, loss_rows}
use Rattle.aerosnap.proofs.Sections.{Took, section_sound, id_front}
use Rattle.aerosnap.proofs.Parts.{Sound, section_fits, part_inside, parts_at, parts_end, parts_lost, parts_kept}
use Rattle.aerosnap.proofs.Rescued.{kept_shorter}
use Rattle.aerosnap.proofs.Judged.{span}
use Rattle.aerosnap.proofs.Copies.{secs-count, render_size}
use Rattle.aerosnap.proofs.Slots.{once_last}
use Rattle.aerosnap.proofs.Written.{is_empty, tidy_one}
use Rattle.sections.specs.Steps.{walked_from, Marks, Keeps, tallied, seated, written_size, FirstOf, losses_by, Parted}
use Rattle.sections.specs.Index.{starts_of, kept}
use Rattle.sections.specs.Directory.{directory_places, seats, seat_of, others_in, loss_rows_in, lost_of}
use Rattle.sections.specs.declared.Losses.{Losses}
use Rattle.answer.specs.declared.Refusal.TheVariants.{Cut}
use Rattle.answer.specs.Refusals.{number_of}
use Rattle.sections.proofs.Rules.{keeps_stop}
use Rattle.sections.proofs.Kept.{whole-fits, kept-fits, kept_last, starts_front, starts_most, kept_less}
use Rattle.aerosnap.proofs.Turns.{sections_at}
use Rattle.sections.proofs.Firsts.{FirstSo, first_lost, first-kept, first_done}
use Rattle.sections.proofs.Turns.{none_marked}
use Rattle.sections.proofs.Seats.{Seating, seating_none, seating_lost, seating_kept}

-- ---- one part at a place

module _ (s : List ℕ) (at : ℕ) where
  pub length-fits : {b : Bool} → b ≡ fits_in (drop at s) → b ≡ true → {w : ℕ} → w ≡ le_at 8 s (at + 8) → 16 + w ≡ length_of_part (drop at s)
  length-fits q h e = ap (λ (k : ℕ). 16 + k) (e ∙ sym (le_at-drop 8 s at 8)) ∙ sym (ap (λ (t : Bool). cond t (16 + length_of (drop at s)) (length (drop at s))) (sym q ∙ h))

  pub length_small : {b : Bool} → b ≡ fits_in (drop at s) → b ≡ true → {w : ℕ} → w ≡ le_at 8 s (at + 8) → 16 + w ≤ length s
  length_small q h e =
      let k = and_true (leb 16 (length (drop at s))) (leb (length_of (drop at s)) (length (drop at s) - 16)) (sym q ∙ h) in
      omega (arith, leb-true 16 (length (drop at s)) k.0, leb-true (length_of (drop at s)) (length (drop at s) - 16) k.1, length-drop at s, le_at-drop 8 s at 8)

  pub length_not : {b : Bool} → b ≡ fits_in (drop at s) → b ≡ false → length s - at ≡ length_of_part (drop at s)
  length_not q h = sym (ap (λ (t : Bool). cond t (16 + length_of (drop at s)) (length (drop at s))) (sym q ∙ h) ∙ length-drop at s)

  module _ (l : List (List ℕ)) {k old new : List ℕ} {b : Bool} (q : b ≡ fits_in (drop at s)) where
    pub part_not : b ≡ false → new ≡ old → Keeps (read_part l at (drop at s)) k old (Err (record { 0 = Cut; 1 = at })) new
    part_not h w = keeps_stop (sym (ap (λ (t : Bool). checked ((t, CUT, at) ∷ []) (section_of l at (drop at s))) (sym q ∙ h))) w

    pub part_fits : b ≡ true → {r : Result ℕ Fault} → Keeps (section_of l at (drop at s)) k old r new → Keeps (read_part l at (drop at s)) k old r new
    part_fits h {r} m = subst (λ (o : Outcome ℕ). Keeps o k old r new) (sym (ap (λ (t : Bool). checked ((t, CUT, at) ∷ []) (section_of l at (drop at s))) (sym q ∙ h))) m

-- ---- records

pub length_loss : (at n k : ℕ) → length (loss_bytes at n k) ≡ 24
length_loss at n k = rw (length-append, length-append, length-append, length-bytes_of, length-bytes_of, length-bytes_of, length-bytes_of) refl

pub loss_none : (old : List ℕ) (at n k : ℕ) → length old < 24 → Wrote (whole (length old) (loss_bytes at n k)) old old 0
loss_none old at n k h =
    let i : length old < length (loss_bytes at n k) = omega (arith, length_loss at n k) in
    rw (lt-leb (length (loss_bytes at n k)) (length old) i) (none old)

pub loss_put : (old : List ℕ) (at n k : ℕ) → 24 ≤ length old → {new : List ℕ} → Wrote (loss_bytes at n k) old new 24 → Wrote (whole (length old) (loss_bytes at n k)) old new 24
loss_put old at n k h so =
    let i : length (loss_bytes at n k) ≤ length old = omega (arith, length_loss at n k) in
    rw (le-leb (length (loss_bytes at n k)) (length old) i) so

pub rows_fit : (have : ℕ) (l : List (List ℕ)) → length (loss_rows_in have l) ≤ have
rows_fit have [] = omega arith
rows_fit have (r ∷ l) =
    let w : List ℕ = whole have r in
    omega (arith, length-append w (loss_rows_in (have - length w) l), whole-fits have r, rows_fit (have - length w) l)

rows_last : (have : ℕ) (l : List (List ℕ)) (r : List ℕ) → loss_rows_in have (l ++ (r ∷ [])) ≡ loss_rows_in have l ++ whole (have - length (loss_rows_in have l)) r
rows_last have [] r = append-nil (whole have r) ∙ ap (λ (m : ℕ). whole m r) (omega arith)
rows_last have (x ∷ l) r =
    let w : List ℕ = whole have x in
    let k : List ℕ = loss_rows_in (have - length w) l in
    let n : have - length w - length k ≡ have - length (w ++ k) = omega (arith, length-append w k) in
    ap (λ (t : List ℕ). w ++ t) (rows_last (have - length w) l r ∙ ap (λ (m : ℕ). k ++ whole m r) n)
    ∙ sym (append_assoc w k (whole (have - length (w ++ k)) r))

pub rows_all : (have : ℕ) (l : List (List ℕ)) → length (join l) ≤ have → loss_rows_in have l ≡ join l
rows_all have [] h = refl
rows_all have (r ∷ l) h =
    let n = length-append r (join l) in
    let i : length r ≤ have = omega (arith, n) in
    let j : length (join l) ≤ have - length r = omega (arith, n) in
    let q : whole have r ≡ r = rw (le-leb (length r) have i) in
    rw q (ap (λ (t : List ℕ). r ++ t) (rows_all (have - length r) l j))

-- the records of one part more
loss_last : (l : List Part) (at : ℕ) (x : Part) → loss_rows at (l ++ (x ∷ [])) ≡ loss_rows at l ++ loss_row (at + span l) x
loss_last [] at x = let z : at + 0 ≡ at = omega arith in rw z (append-nil (loss_row at x))
loss_last (y ∷ l) at x =
    let k : at + length (bytes_in y) + span l ≡ at + span (y ∷ l) = omega (arith, length-append (bytes_in y) (join (map bytes_in l))) in
    ap (λ (t : List (List ℕ)). loss_row at y ++ t) (loss_last l (at + length (bytes_in y)) x ∙ ap (λ (j : ℕ). loss_rows (at + length (bytes_in y)) l ++ loss_row j x) k)
    ∙ sym (append_assoc (loss_row at y) (loss_rows (at + length (bytes_in y)) l) (loss_row (at + span (y ∷ l)) x))

-- ---- what the loop keeps

kept_step : (l : List Part) (x : Part) → all_kept (l ++ (x ∷ [])) ≡ all_kept l ++ kept_by x
kept_step l x = flat_append kept_by l (x ∷ []) ∙ ap (λ (m : List (List ℕ)). all_kept l ++ m) (append-nil (kept_by x))

span_step : (l : List Part) (x : Part) → span (l ++ (x ∷ [])) ≡ span l + length (bytes_in x)
span_step [] x = omega (arith, length-append (bytes_in x) [])
span_step (y ∷ l) x = omega (arith, span_step l x, length-append (bytes_in y) (join (map bytes_in (l ++ (x ∷ [])))), length-append (bytes_in y) (join (map bytes_in l)))

-- the parts up to a place are found: n sections are kept, their starts stand first in the places that held `old`, and so many parts are lost, whose records stand first in what held `rows`
pub record Dividing (s : List ℕ) (at n used lost t : ℕ) (first : Result (Unit {0}) Fault) (seen d old new rows recs : List ℕ) : Type 0 where
  pub done : List Part
  pub same : parts_of s ≡ done ++ parts_at (all_kept done) s at
  pub place : at ≡ 16 + span done
  pub inside : at ≤ length s
  pub marks : Marks seen (all_kept done) n
  pub sound : Sound (all_kept done)
  pub count : lost ≡ length (loss_rows 16 done)
  pub few : lost ≤ at
  pub firsts : FirstSo first (walked_from s) lost (sections_at (64 - n) (all_kept done) s at)
  pub seating : Seating done (length old) d
  pub starts : Wrote (kept (length old) (all_kept done)) old new used
  pub records : Wrote (loss_rows_in (length rows) (loss_rows 16 done)) rows recs t

pub dividing_start : (s d old rows : List ℕ) → 16 ≤ length s → d ≡ zeros directory_places → Dividing s 16 0 0 0 0 (Ok tt) (replicate 9 0) d old old rows rows
dividing_start s d old rows h z = record {
  done = [];
  same = refl;
  place = refl;
  inside = h;
  marks = none_marked;
  sound = record { few = omega arith; are = tt; once = tt };
  count = refl;
  few = omega arith;
  firsts = (refl, refl);
  seating = subst (Seating [] (length old)) (sym z) (seating_none (length old));
  starts = none old;
  records = none rows;
}

module _ {s : List ℕ} {at n used lost t : ℕ} {first : Result (Unit {0}) Fault} {seen d old new rows recs : List ℕ} (v : Dividing s at n used lost t first seen d old new rows recs) where
  abbrev tail : List ℕ
  tail = take (length new - used) (drop used new)

  abbrev pub Told : Result ℕ Fault → List ℕ → Type 0
  Told r last = Keeps (read_part (all_kept v.done) at (drop at s)) (whole (length tail) (starts_of (drop at s))) tail r last

  -- the starts as they come back
  abbrev back : List ℕ → List ℕ
  back last = take used new ++ (last ++ drop (length new - used) (drop used new))

  pub dividing_long : length new ≡ length old
  dividing_long = wrote_length v.starts (kept-fits (length old) (all_kept v.done))

  pub dividing_at : used ≤ length new
  dividing_at = omega (arith, dividing_long, v.starts.count, kept-fits (length old) (all_kept v.done))

  pub dividing_back : (last : List ℕ) → length last ≡ length tail → length (back last) ≡ length old
  dividing_back last h = rw (length-append, length-append, length-take, length-drop, length-drop) (omega (arith, h, length_tail used new, dividing_at, dividing_long))

  pub dividing_rows : length recs ≡ length rows
  dividing_rows = wrote_length v.records (rows_fit (length rows) (loss_rows 16 v.done))

  pub dividing_end : t ≤ length recs
  dividing_end = omega (arith, dividing_rows, v.records.count, rows_fit (length rows) (loss_rows 16 v.done))

  pub dividing_more : (r : List ℕ) {m : ℕ} → m ≡ length (whole (length (take (length recs - t) (drop t recs))) r) → t + m ≤ length recs
  dividing_more r q = omega (arith, q, whole-fits (length (take (length recs - t) (drop t recs))) r, length_tail t recs, dividing_end)

  -- the directory has room for the section's bytes
  pub dividing_few : n ≤ 64
  dividing_few = omega (arith, v.marks.count, v.sound.few)

  pub dividing_used : used ≤ 4864
  dividing_used = omega (arith, v.starts.count, kept_less (length old) (all_kept v.done), starts_most (all_kept v.done) v.sound.are v.sound.once)

  weigh_less : (g : List ℕ → ℕ) (l : List (List ℕ)) → ((e : List ℕ) → g e ≤ 1) → weigh g l ≤ length l
  weigh_less g [] h = omega arith
  weigh_less g (e ∷ l) h = omega (arith, h e, weigh_less g l h)

  weigh-bytes : (l : List Part) → weigh (λ e. cond (is_empty e) 0 (length e)) (all_kept l) ≤ span l
  weigh-bytes [] = omega arith
  weigh-bytes (keeps e ∷ l) = omega (arith, weigh-bytes l, length-append e (join (map bytes_in l)), go (is_empty e))
    where
      go : (b : Bool) → cond b 0 (length e) ≤ length e
      go true = omega arith
      go false = omega arith
  weigh-bytes (loses k e ∷ l) = omega (arith, weigh-bytes l, length-append e (join (map bytes_in l)))

  pub dividing_others : get_or d 0 0 ≤ 64
  dividing_others = omega (arith, v.seating.others, weigh_less (λ e. cond (known (id_of e)) 0 1) (all_kept v.done) (λ e. one (known (id_of e))), v.sound.few)
    where
      one : (b : Bool) → cond b 0 1 ≤ 1
      one true = omega arith
      one false = omega arith

  pub dividing_sections : get_or d 17 0 ≤ 64
  dividing_sections = omega (arith, v.seating.sections, tidied (all_kept v.done) v.sound.are, v.sound.few)
    where
      tidied : (l : List (List ℕ)) → Every IsSection l → weigh (λ e. length (tidy e)) l ≤ length l
      tidied [] h = omega arith
      tidied (e ∷ l) h = omega (arith, tidied l h.1, tidy_one e h.0, one (eqb (cond (is_empty e) 0 (length e)) 0))
        where
          one : (b : Bool) → cond b 0 1 ≤ 1
          one true = omega arith
          one false = omega arith

  pub dividing_bytes : get_or d 18 0 + 16 ≤ at
  dividing_bytes = omega (arith, v.seating.bytes, weigh-bytes v.done, v.place)

  -- where the file ends, all its parts are found
  module _ (h : length s ≤ at) (short : length s ≤ file_most) where
    all : v.done ≡ parts_of s
    all = sym (v.same ∙ ap (λ (l : List Part). v.done ++ l) (parts_end (all_kept v.done) s at h) ∙ append-nil v.done)

    valid : IsFile (all_kept v.done)
    valid = record {
      few = v.sound.few;
      short = omega (arith, kept_shorter v.done, v.place, v.inside, length-append header (join (all_kept v.done)));
      are = v.sound.are;
      once = v.sound.once;
    }

    pub dividing_done : {r : Option Losses} → r ≡ losses_by first lost → Parted s d old new rows recs r
    dividing_done {r} e = record {
      long = v.seating.long;
      others = v.seating.others ∙ ap (λ (l : List Part). others_in (all_kept l)) all;
      places = λ i a b. v.seating.places i a b ∙ ap (λ (l : List Part). seat_of (λ x. x.place) i (seats 16 directory_places (length old) l)) all;
      firsts = λ i a b. v.seating.firsts i a b ∙ ap (λ (l : List Part). seat_of (λ x. x.first) i (seats 16 directory_places (length old) l)) all;
      sections = v.seating.sections ∙ sym (secs-count (all_kept v.done) valid) ∙ ap (λ (l : List Part). length (secs (content_of (all_kept l)))) all;
      bytes = ap (λ (k : ℕ). 16 + k) v.seating.bytes ∙ sym (render_size (all_kept v.done) valid) ∙ ap (λ (l : List Part). length (render (content_of (all_kept l)))) all;
      starts = v.starts.bytes ∙ ap (λ (l : List Part). kept (length old) (all_kept l) ++ drop (length (kept (length old) (all_kept l))) old) all;
      records = v.records.bytes ∙ ap (λ (l : List Part). loss_rows_in (length rows) (loss_rows 16 l) ++ drop (length (loss_rows_in (length rows) (loss_rows 16 l))) rows) all;
      losses = ap lost_of e ∙ first_done s at (64 - n) lost (all_kept v.done) h first v.firsts (parts_of s) (v.count ∙ ap (λ (l : List Part). length (loss_rows 16 l)) all);
      small = omega (arith, dividing_bytes, v.inside);
    }

  -- ---- a turn

  module _ (h : at < length s) {w : ℕ} (z : w ≡ length_of_part (drop at s)) where
    abbrev b : List ℕ
    b = drop at s

    -- the walk goes on, and stays within the file
    pub dividing_goes : (at < at + w) × (at + w ≤ length s)
    dividing_goes = let p = part_inside b (rw length-drop (omega arith)) in (omega arith, omega (arith, length-drop at s))

    -- the part that was read
    abbrev bytes : List ℕ
    bytes = take (length_of_part b) b

    bytes_long : length bytes ≡ w
    bytes_long = length-take-le (length_of_part b) b (omega (arith, length-drop at s, dividing_goes.1)) ∙ sym z

    place_next : (x : Part) → bytes_in x ≡ bytes → at + w ≡ 16 + span (v.done ++ (x ∷ []))
    place_next x q = omega (arith, v.place, span_step v.done x, ap length q, bytes_long)

    -- the records' tail, and how it comes back
    abbrev rtail : List ℕ
    rtail = take (length recs - t) (drop t recs)

    pub dividing_lost : (f : Fault) {last : List ℕ} → Told (Err f) last → (r : Result (Unit {0}) Fault) → FirstOf first s at n f r → {more : List ℕ} {m : ℕ} → Wrote (whole (length rtail) (loss_bytes at w (number_of f.0))) rtail more m
        → Dividing s (at + w) n used (lost + 1) (t + m) r seen d old (back last) rows (take t recs ++ (more ++ drop (length recs - t) (drop t recs)))
    dividing_lost fault {last} k y' fo {more} {m} so =
        let r = made_stop (read_part (all_kept v.done) at b) _ k.answers in
        let e = parts_lost (all_kept v.done) s at h r in
        let x : Part = loses (number_of fault.0) bytes in
        let g : List Part = v.done ++ (x ∷ []) in
        let kk : all_kept g ≡ all_kept v.done = kept_step v.done x ∙ append-nil (all_kept v.done) in
        let y : List ℕ = loss_bytes at w (number_of fault.0) in
        let u : loss_rows 16 g ≡ loss_rows 16 v.done ++ (y ∷ []) = loss_last v.done 16 x ∙ cc (v.place, bytes_long) in
        let o : length rtail ≡ length rows - length (loss_rows_in (length rows) (loss_rows 16 v.done)) = length_tail t recs ∙ omega (arith, dividing_rows, v.records.count) in
        let c : loss_rows_in (length rows) (loss_rows 16 v.done) ++ whole (length rtail) y ≡ loss_rows_in (length rows) (loss_rows 16 g) = cc (o, rows_last (length rows) (loss_rows 16 v.done) y, u) in
        let f : back last ≡ new = ap back (k.stays (number_of fault.0) fault.1 r) ∙ restored in
        record {
          done = g;
          same =
              v.same
              ∙ ap (λ (l : List Part). v.done ++ l) e
              ∙ sym (append_assoc v.done (x ∷ []) (parts_at (all_kept v.done) s (at + length_of_part b)))
              ∙ ap (λ (l : List (List ℕ)). g ++ parts_at l s (at + length_of_part b)) (sym kk)
              ∙ ap (λ (j : ℕ). g ++ parts_at (all_kept g) s (at + j)) (sym z);
          place = place_next x refl;
          inside = dividing_goes.1;
          marks = subst (λ (l : List (List ℕ)). Marks seen l n) (sym kk) v.marks;
          sound = subst Sound (sym kk) v.sound;
          count = omega (arith, v.count, ap length u, length-append (loss_rows 16 v.done) (y ∷ []));
          few = omega (arith, v.few, dividing_goes.0);
          firsts = first_lost s at n lost (all_kept v.done) h v.marks.count first y' v.firsts fault fo r (sections_at (64 - n) (all_kept g) s (at + w));
          seating = seating_lost v.seating (number_of fault.0) bytes;
          starts = subst (λ (l : List (List ℕ)). Wrote (kept (length old) l) old (back last) used) (sym kk) (subst (λ (l : List ℕ). Wrote (kept (length old) (all_kept v.done)) old l used) (sym f) v.starts);
          records = subst (λ (l : List ℕ). Wrote l rows (take t recs ++ (more ++ drop (length recs - t) (drop t recs))) (t + m)) c (wrote_tail v.records so);
        }
      where
        restored : take used new ++ (take (length new - used) (drop used new) ++ drop (length new - used) (drop used new)) ≡ new
        restored = ap (λ (l : List ℕ). take used new ++ l) (take-append-drop (length new - used) (drop used new)) ∙ take-append-drop used new

    module _ {k : ℕ} {last : List ℕ} (ends : Told (Ok k) last) where
      told : (a : ℕ) × (read_part (all_kept v.done) at b ≡ taken a) × (k ≡ length (whole (length tail) (starts_of b)))
      told = made_taken (read_part (all_kept v.done) at b) _ ends.answers

      fine : (fits_in b ≡ true) × (section_of (all_kept v.done) at b ≡ taken told.0)
      fine = let c = checked-pass ((fits_in b, CUT, at) ∷ []) (section_of (all_kept v.done) at b) told.0 told.1 in (c.0.0, c.1)

      took : Took (all_kept v.done) at b told.0
      took = section_sound (all_kept v.done) at b fine.1

      -- the section that is kept
      abbrev pub sec : List ℕ
      sec = bytes

      sec_is : sec ≡ took.e
      sec_is =
          let i : length_of_part b ≡ 16 + length_of b = ap (λ (f : Bool). cond f (16 + length_of b) (length b)) fine.0 in
          let j : 16 + length_of b ≡ length took.e = (section_fits (all_kept v.done) at b fine.1).1 ∙ took.ends in
          ap (λ (i : ℕ). take i b) (i ∙ j) ∙ ap (take (length took.e)) took.cut ∙ take-append_seam took.e took.more

      pub sec_section : IsSection sec
      sec_section = subst IsSection (sym sec_is) took.is

      pub sec_id : {id : ℕ} → id ≡ le_at 4 s at → id_of sec ≡ id
      sec_id q = ap id_of sec_is ∙ sym (id_front took.e took.more took.is.whole) ∙ sym (ap id_of took.cut) ∙ le_at_here 4 s at ∙ sym q

      pub sec_room : n < 64
      sec_room = omega (arith, took.room, v.marks.count)

      told_is : told.0 ≡ w
      told_is = sym (section_fits (all_kept v.done) at b fine.1).1 ∙ sym (ap (λ (f : Bool). cond f (16 + length_of b) (length b)) fine.0) ∙ sym z

      sec_wrote : Wrote (whole (length tail) (starts_of b)) tail last k
      sec_wrote = record { count = told.2; bytes = ends.leaves _ told.1 }

      pub sec_fits : used + k ≤ length new
      sec_fits = omega (arith, told.2, whole-fits (length tail) (starts_of b), length_tail used new, dividing_at)

      sec_starts : starts_of b ≡ starts_of sec
      sec_starts = ap starts_of took.cut ∙ starts_front took.e took.is took.more ∙ sym (ap starts_of sec_is)

      pub dividing_kept : {id : ℕ} → id ≡ le_at 4 s at → {seen' : List ℕ} → Marks seen' (all_kept v.done ++ (sec ∷ [])) (n + 1)
          → Dividing s (at + w) (n + 1) (used + k) lost t first seen' (tallied (written_size id w) (seated id at (directory_places + used) d)) old (back last) rows recs
      dividing_kept {id} i {seen'} m =
          let e = parts_kept (all_kept v.done) s at h told.1 in
          let x : Part = keeps sec in
          let g : List Part = v.done ++ (x ∷ []) in
          let kk : all_kept g ≡ all_kept v.done ++ (sec ∷ []) = kept_step v.done x in
          let u : length tail ≡ length old - length (kept (length old) (all_kept v.done)) = length_tail used new ∙ omega (arith, dividing_long, v.starts.count) in
          let y : kept (length old) (all_kept v.done) ++ whole (length tail) (starts_of b) ≡ kept (length old) (all_kept v.done ++ (sec ∷ [])) = cc (u, sec_starts, kept_last (length old) (all_kept v.done) sec) in
          let r : loss_rows 16 g ≡ loss_rows 16 v.done = loss_last v.done 16 x ∙ append-nil (loss_rows 16 v.done) in
          let new-one : is_known_section sec ≡ true → Fresh slot_of (slot_of sec) (all_kept v.done) = subst (λ (q : List ℕ). is_known_section q ≡ true → Fresh slot_of (slot_of q) (all_kept v.done)) (sym sec_is) took.new in
          record {
            done = g;
            same =
                v.same
                ∙ ap (λ (l : List Part). v.done ++ l) e
                ∙ sym (append_assoc v.done (x ∷ []) (parts_at (all_kept v.done ++ (sec ∷ [])) s (at + length_of_part b)))
                ∙ ap (λ (l : List (List ℕ)). g ++ parts_at l s (at + length_of_part b)) (sym kk)
                ∙ ap (λ (j : ℕ). g ++ parts_at (all_kept g) s (at + j)) (sym z);
            place = place_next x refl;
            inside = dividing_goes.1;
            marks = subst (λ (l : List (List ℕ)). Marks seen' l (n + 1)) (sym kk) m;
            sound = subst Sound (sym kk) (record {
              few = omega (arith, sec_room, v.marks.count, length-append (all_kept v.done) (sec ∷ []));
              are = every_append IsSection (all_kept v.done) (sec ∷ []) v.sound.are (sec_section, tt);
              once = once_last sec (all_kept v.done) new-one v.sound.once;
            });
            count = v.count ∙ sym (ap length r);
            few = omega (arith, v.few, dividing_goes.0);
            firsts = subst (λ (l : List (List ℕ)). FirstSo first (walked_from s) lost (sections_at (64 - (n + 1)) l s (at + w))) (sym kk) (first-kept s at n lost (all_kept v.done) h v.marks.count first v.firsts sec_room fine.1 told_is (ap (λ (j : ℕ). take j b) (told_is ∙ z)));
            seating = seating_kept v.seating sec sec_section new-one (sym (sec_id i)) v.place (ap (λ (j : ℕ). directory_places + j) v.starts.count) (sym bytes_long);
            starts = subst (λ (l : List (List ℕ)). Wrote (kept (length old) l) old (back last) (used + k)) (sym kk) (subst (λ (bs : List ℕ). Wrote bs old (back last) (used + k)) y (wrote_tail v.starts sec_wrote));
            records = subst (λ (l : List (List ℕ)). Wrote (loss_rows_in (length rows) l) rows recs t) (sym r) v.records;
          }
