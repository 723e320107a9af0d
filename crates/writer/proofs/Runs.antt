-- Entries written from where they start: the one that is cut out at a place, and those of a list that is taken, which are its entries.
-- Assumes nothing.
use mathlib.Core.Path.{◌≡◌, refl, sym, ◌∙◌, ap}
use mathlib.Core.List.{List, [], ◌∷◌, ◌++◌, map}
use Prim.Native.Nat.{ℕ, ◌+◌, ◌-◌, ◌≤◌, ◌<◌}
use native.Mathlib.Numerals.{add-one}
use native.Mathlib.Omega.{arith}
use lib.ListN.{length, take, drop, get_or, drop_of_length-le, length-take, length-append, take-append-drop}
use lib.Seq.{drop-cons, take-take, take-length, take_at}
use Rattle.wire.specs.Parts.{Wrote}
use Rattle.wire.proofs.Parts.{wrote_tail, wrote_length, length_tail}
use Rattle.format.specs.Format.{span}
use Rattle.format.proofs.Meaning.{complete}
use Rattle.format.proofs.Spans.{span-read}
use Rattle.order.specs.Keyed.{Every}
use Rattle.order.specs.Entries.{join, first}
use Rattle.order.proofs.Folds.{append_every}
use Rattle.entries.specs.Kinds.{Description}
use Rattle.entries.proofs.Lawful.{Lawful}
use Rattle.lists.specs.Lists.{width_of}
use Rattle.lists.proofs.Taken.{self}
use Rattle.lists.proofs.Ordered.{index_every}
use Rattle.writer.specs.Runs.{entry_by, fits}
use Rattle.writer.specs.Steps.{Listed}
use Rattle.writer.proofs.Fits.{fits_all, Fitting, fitting_end}

-- the entry that starts at a place
abbrev pub entry_from : Description → List ℕ → ℕ → List ℕ
entry_from d s y = first (width_of d) (drop y s)

-- the entries that start at places, one after another
abbrev pub run : Description → List ℕ → List ℕ → List ℕ
run d s l = join (map (entry_from d s) l)

-- ---- behind what is written

-- there is room for so many bytes in the tail that is lent
pub room-behind : {w old l : List ℕ} {at : ℕ} → Wrote w old l at → (n : ℕ) → length w + n ≤ length old → n ≤ length (take (length l - at) (drop at l))
room-behind {l = l} {at = at} so n h = rw (length_tail at l) (omega (arith, so.count, wrote_length so (omega arith)))

pub at-behind : {w old l : List ℕ} {at : ℕ} → Wrote w old l at → length w ≤ length old → at ≤ length l
at-behind so h = omega (arith, so.count, wrote_length so h)

-- what is written stands there
pub wrote_within : {bs old new : List ℕ} {n : ℕ} → Wrote bs old new n → n ≤ length new
wrote_within {bs} {old} so = omega (arith, so.count, ap length so.bytes, length-append bs (drop (length bs) old))

pub wrote_front : {bs old new : List ℕ} {n : ℕ} → Wrote bs old new n → take n new ≡ bs
wrote_front {bs} {old} so = rw so.bytes (take_at bs (drop (length bs) old) _ (sym so.count))

-- ---- one entry

-- the front of a list, cut at its own length
take_own : (n : ℕ) (l : List ℕ) → take (length (take n l)) l ≡ take n l
take_own n l = sym (take-take (length (take n l)) n l (omega (arith, length-take n l))) ∙ take-length (take n l)

module _ (d : Description) (s : List ℕ) (y : ℕ) {n : ℕ} {b : List ℕ} (p : n ≡ length (entry_by d s y)) (q : b ≡ drop y s) where
  pub cut_within : n ≤ length b
  cut_within = rw q (omega (arith, length-take (span d.form (drop y s)) (drop y s)))

  pub cut_is : take n b ≡ entry_by d s y
  cut_is = rw (q, p) (take_own (span d.form (drop y s)) (drop y s))

-- ---- a run, entry by entry: those from the start with the number i on are to come

module _ (d : Description) (s l : List ℕ) {all old : List ℕ} {at i : ℕ} {new : List ℕ} (v : Fitting all old (map (entry_by d s) (drop i l)) at new) where
  pub run_turn : i < length l → Fitting all old (entry_by d s (get_or l i 0) ∷ map (entry_by d s) (drop (i + 1) l)) at new
  run_turn h = rw (add-one i) (rw (drop-cons l i 0 h) at v)

  pub run_end : length l ≤ i → Wrote all old new at
  run_end h = fitting_end (rw (drop_of_length-le l h) at v)

-- ---- the entries of a list that is taken

map_same : {A B : Type 0} (f g : A → B) (l : List A) → Every (λ x. f x ≡ g x) l → map f l ≡ map g l
map_same f g [] h = refl
map_same f g (x ∷ l) h = cc (h.0, map_same f g l h.1)

module _ {d : Description} (K : Lawful d) {s l : List ℕ} (h : Listed d s l) where
  -- each entry is as long as its lengths say
  alike : Every (λ y. entry_by d s y ≡ entry_from d s y) l
  alike = index_every K s h.list (λ b. take (span d.form b) b ≡ first (width_of d) b) (λ e rest i.
      ap (λ (n : ℕ). take n (e ++ rest)) (span-read d.form (e ++ rest) (complete d.form e rest i) ∙ sym ((self d).measured e rest i)))

  pub by_all : map (entry_by d s) l ≡ map (entry_from d s) l
  by_all = map_same (entry_by d s) (entry_from d s) l alike

  -- the first q of them, and the others
  module _ (q : ℕ) where
    apart : Every (λ y. entry_by d s y ≡ entry_from d s y) (take q l) × Every (λ y. entry_by d s y ≡ entry_from d s y) (drop q l)
    apart = append_every _ (take q l) (drop q l) (rw (take-append-drop q l) alike)

    pub by_take : map (entry_by d s) (take q l) ≡ map (entry_from d s) (take q l)
    by_take = map_same (entry_by d s) (entry_from d s) (take q l) apart.0

    pub by_drop : map (entry_by d s) (drop q l) ≡ map (entry_from d s) (drop q l)
    by_drop = map_same (entry_by d s) (entry_from d s) (drop q l) apart.1

-- where there is room for the run of such entries, it is what is written
module _ (d : Description) (s l : List ℕ) (e : map (entry_by d s) l ≡ map (entry_from d s) l) where
  pub run_fits : (have : ℕ) → length (run d s l) ≤ have → join (fits have (map (entry_by d s) l)) ≡ run d s l
  run_fits have h = rw e (ap join (fits_all have (map (entry_from d s) l) h))

  pub run_wrote : {old new : List ℕ} {n : ℕ} → length (run d s l) ≤ length old → Wrote (join (fits (length old) (map (entry_by d s) l))) old new n → Wrote (run d s l) old new n
  run_wrote {old} h w = rw (run_fits (length old) h) at w

-- bytes, and behind them parts as long as they fit
pub wrote_fits : {bs old l : List ℕ} {at : ℕ} → Wrote bs old l at → length bs ≤ length old → (parts : List (List ℕ)) {new : List ℕ} {n : ℕ}
    → Wrote (join (fits (length (take (length l - at) (drop at l))) parts)) (take (length l - at) (drop at l)) new n
    → Wrote (bs ++ join (fits (length old - length bs) parts)) old (take at l ++ (new ++ drop (length l - at) (drop at l))) (at + n)
wrote_fits {bs} {old} {l} {at} so h parts w =
    let e : length (take (length l - at) (drop at l)) ≡ length old - length bs = length_tail at l ∙ omega (arith, wrote_length so h, so.count) in
    wrote_tail so (rw e at w)
