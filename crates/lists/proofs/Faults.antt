-- The entry at fault: those before it are entries with distinct keys, and it is the first that is none; or bytes are left over behind the last.
-- Assumes nothing.
use mathlib.Core.Path.{◌≡◌, refl, sym, ◌∙◌, ap}
use mathlib.Core.Logic.{◌⊎◌, inl, inr}
use mathlib.Core.List.Permᴰ
use mathlib.Core.List.{List, [], ◌∷◌, ◌++◌, append-nil, append_assoc, map}
use Prim.Native.Nat.{ℕ, zero, suc, ◌+◌, ◌≤◌, ◌<◌}
use native.Mathlib.Nat.{add-zero}
use native.Mathlib.Omega.{arith}
use lib.ListN.{length, drop, length-append}
use Rattle.answer.specs.Outcome.{Outcome, taken, refused, checked, after}
use Rattle.format.specs.Format.{Is}
use Rattle.order.specs.Keyed.{insert, inserts, has, Apart, Every}
use Rattle.order.specs.Entries.{join, starts_from}
use Rattle.order.proofs.Folds.{append_every}
use Rattle.order.proofs.Perms.{apart_perm, every_perm}
use Rattle.order.proofs.Keys.{has_fresh, fresh_has, apart_same}
use Rattle.order.proofs.Inserts.{apart_insert, inserts_perm}
use Rattle.order.proofs.Starts.{drop_past, past_le, map-starts}
use Rattle.entries.specs.Kinds.{Description}
use Rattle.entries.proofs.Lawful.{Lawful}
use Rattle.lists.specs.Lists.{key_at, entry_at, end_checks, walk}
use Rattle.lists.proofs.Walks.{Took, entry_taken, key_local, turn, entry_complete}
use Rattle.lists.proofs.Ordered.{same_test, fresh_same}

module _ {d : Description} (K : Lawful d) (s : List ℕ) where
  -- after m of n entries, at a place: the next one is at fault, or there is none and bytes are left over
  abbrev pub StopsAt : ℕ → ℕ → ℕ → List ℕ → ℕ → ℕ → Type 0
  StopsAt n m at seen k p = ((m < n) × (entry_at d s at seen ≡ refused k p)) ⊎ ((m ≡ n) × (checked (end_checks d s at) (taken seen) ≡ refused k p))

  -- what a walk over n entries stops at: entries that are fine, and what comes behind them
  pub record Stops (n at : ℕ) (seen : List ℕ) (k p : ℕ) : Type 0 where
    pub fine : List (List ℕ)
    pub rest : List ℕ
    pub cut : drop at s ≡ join fine ++ rest
    pub are : Every (Is d.form) fine
    pub apart : Apart (key_at d s) (starts_from at fine ++ seen)
    pub fault : StopsAt n (length fine) (at + length (join fine)) (inserts (key_at d s) seen (starts_from at fine)) k p

  stops_here : (n at : ℕ) (seen : List ℕ) {k p : ℕ} → Apart (key_at d s) seen → StopsAt n 0 at seen k p → Stops n at seen k p
  stops_here n at seen a h = record { fine = []; rest = drop at s; cut = refl; are = tt; apart = a; fault = rw (add-zero at) h }

  stops_later : (n at : ℕ) (seen : List ℕ) {e k p : ℕ} (t : Took d s at seen e) → Stops n (at + length t.e) (insert (key_at d s) at seen) k p → Stops (suc n) at seen k p
  stops_later n at seen {e} {k} {p} t v =
      let z : at + length t.e + length (join v.fine) ≡ at + length (t.e ++ join v.fine) = omega (arith, length-append t.e (join v.fine)) in
      record {
        fine = t.e ∷ v.fine;
        rest = v.rest;
        cut = t.cut ∙ ap (λ (l : List ℕ). t.e ++ l) (sym (drop_past s at t.e t.more t.cut) ∙ v.cut) ∙ sym (append_assoc t.e (join v.fine) v.rest);
        are = (t.is, v.are);
        apart = apart_perm (key_at d s) (Permᴰ.symm (turn K s at (starts_from (at + length t.e) v.fine) seen)) v.apart;
        fault = rw (← z) (next (length v.fine) (at + length t.e + length (join v.fine)) (inserts (key_at d s) (insert (key_at d s) at seen) (starts_from (at + length t.e) v.fine)) v.fault);
      }
    where
      next : (m j : ℕ) (l : List ℕ) → StopsAt n m j l k p → StopsAt (suc n) (suc m) j l k p
      next m j l (inl (i, h)) = inl (omega arith, h)
      next m j l (inr (i, h)) = inr (ap suc i, h)

  pub walk_stop : (n at : ℕ) (seen : List ℕ) {k p : ℕ} → at ≤ length s → Apart (key_at d s) seen → walk d s n at seen ≡ refused k p → Stops n at seen k p
  unfolding walk
  walk_stop zero at seen i a h = stops_here 0 at seen a (inr (refl, h))
  walk_stop (suc n) at seen {k} {p} i a h = go (entry_at d s at seen) refl h (λ j. walk_stop n j (insert (key_at d s) at seen))
    where
      later : {e : ℕ} → Took d s at seen e → walk d s n e (insert (key_at d s) at seen) ≡ refused k p
          → ((j : ℕ) → j ≤ length s → Apart (key_at d s) (insert (key_at d s) at seen) → walk d s n j (insert (key_at d s) at seen) ≡ refused k p → Stops n j (insert (key_at d s) at seen) k p)
          → Stops (suc n) at seen k p
      later t h ih =
          stops_later n at seen t (ih (at + length t.e) (past_le s at t.e t.more t.cut i) (apart_insert (key_at d s) at seen (has_fresh _ _ seen t.new) a) (rw t.ends at h))

      go : (o : Outcome ℕ) → entry_at d s at seen ≡ o → after o (λ e. walk d s n e (insert (key_at d s) at seen)) ≡ refused k p
          → ((j : ℕ) → j ≤ length s → Apart (key_at d s) (insert (key_at d s) at seen) → walk d s n j (insert (key_at d s) at seen) ≡ refused k p → Stops n j (insert (key_at d s) at seen) k p)
          → Stops (suc n) at seen k p
      go (refused m q) e h ih = stops_here (suc n) at seen a (inl (omega arith, e ∙ cc))
      go (taken j) e h ih = later (entry_taken d s at seen e) h ih

  pub stop_walk : (l : List (List ℕ)) (n at : ℕ) (seen rest : List ℕ) {k p : ℕ} → at ≤ length s → drop at s ≡ join l ++ rest → Every (Is d.form) l → Apart (key_at d s) (starts_from at l ++ seen)
      → StopsAt n (length l) (at + length (join l)) (inserts (key_at d s) seen (starts_from at l)) k p → walk d s n at seen ≡ refused k p
  unfolding walk
  stop_walk [] zero at seen rest i c a u (inl (j, h)) = absurd (omega arith)
  stop_walk [] zero at seen rest i c a u (inr (j, h)) = rw (add-zero at) at h
  stop_walk [] (suc n) at seen rest i c a u (inl (j, h)) = rw (rw (add-zero at) at h)
  stop_walk [] (suc n) at seen rest i c a u (inr (j, h)) = absurd (omega arith)
  stop_walk (e ∷ l) zero at seen rest i c a u (inl (j, h)) = absurd (omega arith)
  stop_walk (e ∷ l) zero at seen rest i c a u (inr (j, h)) = absurd (omega arith)
  stop_walk (e ∷ l) (suc n) at seen rest {k} {p} i c a u h =
      let g : drop at s ≡ e ++ (join l ++ rest) = c ∙ append_assoc e (join l) rest in
      let z : at + length e + length (join l) ≡ at + length (e ++ join l) = omega (arith, length-append e (join l)) in
      rw (entry_complete K s at e (join l ++ rest) seen g a.0 (append_every _ (starts_from (at + length e) l) seen u.0).1)
      (stop_walk l n (at + length e) (insert (key_at d s) at seen) rest (past_le s at e (join l ++ rest) g i) (drop_past s at e (join l ++ rest) g) a.1
      (apart_perm (key_at d s) (turn K s at (starts_from (at + length e) l) seen) u) (rw z (back (at + length (e ++ join l)) (inserts (key_at d s) seen (starts_from at (e ∷ l))) h)))
    where
      back : (j : ℕ) (m : List ℕ) → StopsAt (suc n) (suc (length l)) j m k p → StopsAt n (length l) j m k p
      back j m (inl (i, h)) = inl (omega arith, h)
      back j m (inr (i, h)) = inr (omega arith, h)

  -- ---- keys among the starts, and among the entries

  module _ (l : List (List ℕ)) (rest : List ℕ) (at : ℕ) (c : drop at s ≡ join l ++ rest) (a : Every (Is d.form) l) where
    same_keys : map (key_at d s) (starts_from at l) ≡ map d.key l
    same_keys = map-starts s d.key d.key (key_local K) at l rest c a

    pub starts_distinct : Apart d.key l → Apart (key_at d s) (starts_from at l ++ [])
    starts_distinct h = rw (append-nil (starts_from at l)) (apart_same d.key (key_at d s) l (starts_from at l) (sym same_keys) h)

    pub distinct_starts : Apart (key_at d s) (starts_from at l ++ []) → Apart d.key l
    distinct_starts h = apart_same (key_at d s) d.key (starts_from at l) l same_keys (rw (append-nil (starts_from at l)) at h)

    pub seen_has : (k : ℕ) → has (key_at d s) k (inserts (key_at d s) [] (starts_from at l)) ≡ has d.key k l
    seen_has k =
        let t : List ℕ = starts_from at l in
        let r : List ℕ = inserts (key_at d s) [] t in
        let q = rw (append-nil t) at (inserts_perm (key_at d s) [] t) in
        same_test _ _
        (λ f. fresh_has _ k l (fresh_same (key_at d s) d.key k t l same_keys (every_perm _ q (has_fresh _ k r f))))
        (λ f. fresh_has _ k r (every_perm _ (Permᴰ.symm q) (fresh_same d.key (key_at d s) k l t (sym same_keys) (has_fresh _ k l f))))
