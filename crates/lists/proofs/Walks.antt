-- The walk over the entries of a list: what it takes is so many entries one after another, no key twice and nothing left over, and it takes all such.
-- Assumes nothing.
use mathlib.Core.Path.{◌≡◌, refl, sym, ◌∙◌, ap}
use mathlib.Core.List.Permᴰ
use mathlib.Core.List.{List, [], ◌∷◌, ◌++◌, map, append_assoc, Permᴰ}
use mathlib.Core.Bool.{Bool, true, false, not, ◌||◌}
use Prim.Native.Nat.{ℕ, zero, suc, ◌+◌, ◌≤◌}
use native.Mathlib.Omega.{arith}
use lib.ListN.{length, take, drop, length-append, length-drop, drop_of_length-le, take-append-drop}
use lib.Seq.{length-take-le}
use lib.Dec.{leb}
use borrow.Author.Tests.{leb-true, le-leb, not-true}
use Rattle.answer.specs.Numbers.{KEY}
use Rattle.answer.specs.Outcome.{taken, checked}
use Rattle.answer.proofs.Checks.{checked-pass, pass-checked, pass-append, append-pass}
use Rattle.answer.proofs.Outcomes.{after_taken, shift_taken, taken_is}
use Rattle.format.specs.Format.{read, Is}
use Rattle.format.proofs.Meaning.{sound, complete}
use Rattle.order.specs.Keyed.{insert, inserts, has, Fresh, Apart, Every}
use Rattle.order.specs.Entries.{join, starts_from}
use Rattle.order.proofs.Folds.{append_every}
use Rattle.order.proofs.Perms.{apart_perm}
use Rattle.order.proofs.Keys.{has_fresh, fresh_has}
use Rattle.order.proofs.Inserts.{insert_perm, apart_insert}
use Rattle.order.proofs.Starts.{drop_past, past_le, map-starts}
use Rattle.entries.specs.Kinds.{Description, lead_checks}
use Rattle.lists.specs.Lists.{key_at, entry_checks, entry_at, ends_at, end_checks, walk}
use Rattle.entries.proofs.Lawful.{Lawful}

-- an entry that is taken at a place, after those that start at seen
pub record Took (d : Description) (s : List ℕ) (at : ℕ) (seen : List ℕ) (end : ℕ) : Type 0 where
  pub e : List ℕ
  pub more : List ℕ
  pub cut : drop at s ≡ e ++ more
  pub ends : end ≡ at + length e
  pub fits : d.fixed ≤ length (drop at s)
  pub is : Is d.form e
  pub new : has (key_at d s) (key_at d s at) seen ≡ false

pub entry_taken : (d : Description) (s : List ℕ) (at : ℕ) (seen : List ℕ) {end : ℕ} → entry_at d s at seen ≡ taken end → Took d s at seen end
unfolding entry_at
entry_taken d s at seen {end} h =
    let again = has (key_at d s) (key_at d s at) seen in
    let q = shift_taken at (checked (entry_checks d again (drop at s)) (read d.form (drop at s))) h in
    let p = checked-pass (entry_checks d again (drop at s)) (read d.form (drop at s)) q.0 q.1 in
    let u = append-pass (lead_checks d (drop at s)) ((not again, KEY, 0) ∷ []) p.0 in
    go (leb-true _ _ u.0.0) (not-true _ u.1.0) q.0 p.1 q.2
  where
    go : d.fixed ≤ length (drop at s) → has (key_at d s) (key_at d s at) seen ≡ false → (j : ℕ) → read d.form (drop at s) ≡ taken j → end ≡ at + j → Took d s at seen end
    go f n j r q =
        let u = sound d.form (drop at s) r in
        record {
          e = take j (drop at s);
          more = drop j (drop at s);
          cut = sym (take-append-drop j (drop at s));
          ends = rw (length-take-le j (drop at s) u.0) q;
          fits = f;
          is = u.1;
          new = n;
        }

-- a list that ends at a place has nothing behind it, where nothing may follow
pub fine_end : (d : Description) (s : List ℕ) (at : ℕ) → ends_at d s at ≡ true → d.closed ≡ true → drop at s ≡ []
fine_end d s at h c = drop_of_length-le s (leb-true (length s) at (rw c at h))

module _ {d : Description} (K : Lawful d) where
  -- the key sees nothing past the entry
  pub key_local : (e rest : List ℕ) → Is d.form e → d.key (e ++ rest) ≡ d.key e
  key_local e rest h = K.named e rest (K.wide e h)

module _ {d : Description} (K : Lawful d) (s : List ℕ) where
  -- the keys at the starts are the entries' keys
  pub keys : (at : ℕ) (l : List (List ℕ)) (rest : List ℕ) → drop at s ≡ join l ++ rest → Every (Is d.form) l → map (key_at d s) (starts_from at l) ≡ map d.key l
  keys at l rest h a = map-starts s d.key d.key (key_local K) at l rest h a

  -- where nothing may follow, nothing does
  end_fine : (at : ℕ) (rest : List ℕ) → at ≤ length s → drop at s ≡ rest → (d.closed ≡ true → rest ≡ []) → ends_at d s at ≡ true
  end_fine at rest i h c = go d.closed c
    where
      go : (b : Bool) → (b ≡ true → rest ≡ []) → (not b || leb (length s) at) ≡ true
      go true c = le-leb (length s) at (omega (arith, length-drop at s, ap length (h ∙ c refl)))
      go false c = refl

  -- one more start is seen
  pub turn : (at : ℕ) (l seen : List ℕ) → Permᴰ (at ∷ (l ++ seen)) (l ++ insert (key_at d s) at seen)
  turn at l seen = Permᴰ.trans (Permᴰ.symm (Permᴰ.middle at l seen)) (Permᴰ.append_left l (Permᴰ.symm (insert_perm (key_at d s) at seen)))

  -- an entry with a new key is taken
  pub entry_complete : (at : ℕ) (e rest seen : List ℕ) → drop at s ≡ e ++ rest → Is d.form e → Fresh (key_at d s) (key_at d s at) seen
      → entry_at d s at seen ≡ taken (at + length e)
  unfolding entry_at
  entry_complete at e rest seen h i f =
      let b : List ℕ = drop at s in
      let w : d.fixed ≤ length b = omega (arith, K.wide e i, ap length h, length-append e rest) in
      let n : has (key_at d s) (key_at d s at) seen ≡ false = fresh_has _ _ seen f in
      let r : read d.form b ≡ taken (length e) = ap (read d.form) h ∙ complete d.form e rest i in
      let c = pass-checked (entry_checks d (has (key_at d s) (key_at d s at) seen) b) (read d.form b)
      (pass-append (lead_checks d b) ((not (has (key_at d s) (key_at d s at) seen), KEY, 0) ∷ []) (le-leb _ _ w, rw h (K.passes e rest i)) (ap not n, tt)) in
      rw (c, r)

  pub walk_complete : (l : List (List ℕ)) (rest : List ℕ) (at : ℕ) (seen : List ℕ) → at ≤ length s → drop at s ≡ join l ++ rest → (d.closed ≡ true → rest ≡ []) → Every (Is d.form) l
      → Apart (key_at d s) (starts_from at l ++ seen) → walk d s (length l) at seen ≡ taken (inserts (key_at d s) seen (starts_from at l))
  unfolding walk
  walk_complete [] rest at seen i h c a k = rw (end_fine at rest i h c)
  walk_complete (e ∷ l) rest at seen i h c a k =
      let g : drop at s ≡ e ++ (join l ++ rest) = rw append_assoc at h in
      rw (entry_complete at e (join l ++ rest) seen g a.0 (append_every _ (starts_from (at + length e) l) seen k.0).1)
      (walk_complete l rest (at + length e) (insert (key_at d s) at seen) (past_le s at e (join l ++ rest) g i) (drop_past s at e (join l ++ rest) g) c a.1
      (apart_perm (key_at d s) (turn at (starts_from (at + length e) l) seen) k))

  -- what a walk that is taken found
  pub record Walked (n at : ℕ) (seen r : List ℕ) : Type 0 where
    pub found : List (List ℕ)
    pub tail : List ℕ
    pub number : length found ≡ n
    pub cut : drop at s ≡ join found ++ tail
    pub are : Every (Is d.form) found
    pub apart : Apart (key_at d s) (starts_from at found ++ seen)
    pub result : inserts (key_at d s) seen (starts_from at found) ≡ r
    pub ended : d.closed ≡ true → tail ≡ []

  pub walk_sound : (n at : ℕ) (seen : List ℕ) {r : List ℕ} → at ≤ length s → Apart (key_at d s) seen → walk d s n at seen ≡ taken r → Walked n at seen r
  unfolding walk
  walk_sound zero at seen {r} i k h =
      let p = checked-pass (end_checks d s at) (taken seen) r h in
      record { found = []; tail = drop at s; number = refl; cut = refl; are = tt; apart = k; result = taken_is p.1; ended = fine_end d s at p.0.0 }
  walk_sound (suc n) at seen {r} i k h =
      let p = after_taken (entry_at d s at seen) (λ e. walk d s n e (insert (key_at d s) at seen)) h in
      go (entry_taken d s at seen p.1) p.2 (λ j. walk_sound n j (insert (key_at d s) at seen))
    where
      go : {j : ℕ} → Took d s at seen j → walk d s n j (insert (key_at d s) at seen) ≡ taken r
          → ((j : ℕ) → j ≤ length s → Apart (key_at d s) (insert (key_at d s) at seen) → walk d s n j (insert (key_at d s) at seen) ≡ taken r → Walked n j (insert (key_at d s) at seen) r)
          → Walked (suc n) at seen r
      go {j} t w ih =
          let v = ih (at + length t.e) (past_le s at t.e t.more t.cut i) (apart_insert (key_at d s) at seen (has_fresh _ _ seen t.new) k) (rw t.ends at w) in
          record {
            found = t.e ∷ v.found;
            tail = v.tail;
            number = ap suc v.number;
            cut = t.cut ∙ ap (λ (l : List ℕ). t.e ++ l) (sym (drop_past s at t.e t.more t.cut) ∙ v.cut) ∙ sym (append_assoc t.e (join v.found) v.tail);
            are = (t.is, v.are);
            apart = apart_perm (key_at d s) (Permᴰ.symm (turn at (starts_from (at + length t.e) v.found) seen)) v.apart;
            result = v.result;
            ended = v.ended;
          }
