-- Parts written one after another as long as they fit.
-- Assumes nothing.
use mathlib.Core.Path.{◌≡◌, refl, sym, ◌∙◌, ap}
use mathlib.Core.Bool.{Bool, true, false, cond}
use mathlib.Core.List.{List, [], ◌∷◌, ◌++◌, append_assoc, append-nil}
use Prim.Native.Nat.{ℕ, ◌+◌, ◌-◌, ◌≤◌, ◌<◌}
use native.Mathlib.Omega.{arith}
use lib.ListN.{length, take, drop, length-append}
use lib.Dec.{leb}
use borrow.Author.Tests.{le-leb, lt-leb, leb-true}
use Rattle.wire.specs.Parts.{put, Wrote}
use Rattle.wire.proofs.Parts.{none, put_not, wrote_put, wrote_tail, wrote_length, length_tail}
use Rattle.order.specs.Entries.{join}
use Rattle.writer.specs.Runs.{fits}

pub wrote_first : {bs old new : List ℕ} → length bs ≤ length old → new ≡ put 0 bs old → Wrote bs old new (length bs)
wrote_first {bs} {old} h e =
    let w = wrote_put (none old) bs (omega arith) e in
    record { count = refl; bytes = w.bytes }

-- where there is room for all, all of them fit
pub fits_all : (have : ℕ) (l : List (List ℕ)) → length (join l) ≤ have → fits have l ≡ l
fits_all have [] h = refl
fits_all have (e ∷ l) h =
    let n = length-append e (join l) in
    rw (le-leb (length e) have (omega arith)) (ap (λ (m : List (List ℕ)). e ∷ m) (fits_all (have - length e) l (omega arith)))

-- those that fit are within the room
module _ (have : ℕ) (e rest : List ℕ) where
  within : (b : Bool) → leb (length e) have ≡ b → length rest ≤ have - length e → length (cond b (e ++ rest) []) ≤ have
  within true h r = omega (arith, length-append e rest, leb-true (length e) have h)
  within false h r = omega arith

join-cond : (b : Bool) (e : List ℕ) (l : List (List ℕ)) → join (cond b (e ∷ l) []) ≡ cond b (e ++ join l) []
join-cond true e l = refl
join-cond false e l = refl

pub fits-within : (have : ℕ) (l : List (List ℕ)) → length (join (fits have l)) ≤ have
fits-within have [] = omega arith
fits-within have (e ∷ l) = rw (join-cond (leb (length e) have) e (fits (have - length e) l)) (within have e (join (fits (have - length e) l)) (leb (length e) have) refl (fits-within (have - length e) l))

-- of all that goes into old, the first parts, `at` bytes, stand in new; of the rest those come that fit
pub record Fitting (all old : List ℕ) (rest : List (List ℕ)) (at : ℕ) (new : List ℕ) : Type 0 where
  pub part : List ℕ
  pub whole : all ≡ part ++ join (fits (length old - at) rest)
  pub within : at ≤ length old
  pub wrote : Wrote part old new at

-- nothing is written yet
pub fitting-none : (l : List (List ℕ)) (old : List ℕ) → Fitting (join (fits (length old) l)) old l 0 old
fitting-none l old = record { part = []; whole = ap (λ (n : ℕ). join (fits n l)) (omega arith); within = omega arith; wrote = none old }

-- nothing is to come
pub fitting_end : {all old : List ℕ} {at : ℕ} {new : List ℕ} → Fitting all old [] at new → Wrote all old new at
fitting_end v = rw (v.whole ∙ append-nil v.part) v.wrote

pub fitting_long : {all old : List ℕ} {rest : List (List ℕ)} {at : ℕ} {new : List ℕ} → Fitting all old rest at new → length new ≡ length old
fitting_long v = wrote_length v.wrote (omega (arith, v.within, v.wrote.count))

-- the next part, n bytes, is put into the tail that is lent
module _ {all old e : List ℕ} {rest : List (List ℕ)} {at : ℕ} {new : List ℕ} (v : Fitting all old (e ∷ rest) at new)
    {last : List ℕ} {n : ℕ} (c : n ≡ length e) (p : last ≡ put 0 e (take (length new - at) (drop at new))) where
  -- where it fits, the others come behind it
  pub fitting_next : n ≤ length new - at → Fitting all old rest (at + n) (take at new ++ (last ++ drop (length new - at) (drop at new)))
  fitting_next h =
      let l = fitting_long v in
      let f = le-leb (length e) (length old - at) (omega arith) in
      let g : length old - at - length e ≡ length old - (at + n) = omega arith in
      let w = wrote_tail v.wrote (wrote_first (rw (length_tail at new) (omega arith)) p) in
      record {
        part = v.part ++ e;
        whole =
            v.whole
            ∙ ap (λ (b : Bool). v.part ++ join (cond b (e ∷ fits (length old - at - length e) rest) [])) f
            ∙ ap (λ (m : ℕ). v.part ++ (e ++ join (fits m rest))) g
            ∙ sym (append_assoc v.part e (join (fits (length old - (at + n)) rest)));
        within = omega (arith, v.within);
        wrote = rw (← c) at w;
      }

  -- where it does not, the tail is as it was
  pub fitting_stop : length new - at < n → Wrote all old (take at new ++ (last ++ drop (length new - at) (drop at new))) at
  fitting_stop h =
      let l = fitting_long v in
      let f = lt-leb (length e) (length old - at) (omega arith) in
      let q : last ≡ take (length new - at) (drop at new) = p ∙ put_not 0 e _ (rw (length_tail at new) (omega arith)) in
      let w : all ≡ v.part ++ [] = v.whole ∙ ap (λ (b : Bool). v.part ++ join (cond b (e ∷ fits (length old - at - length e) rest) [])) f in
      let so = wrote_tail v.wrote (none (take (length new - at) (drop at new))) in
      rw (w, q) (record { count = omega (arith, so.count); bytes = so.bytes })
