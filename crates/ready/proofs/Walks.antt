-- What the loops keep: the search of a section in the table of sections, the walk over the entries of a list, and the list of what is missing.
-- Assumes nothing.
use mathlib.Core.Path.{◌≡◌, refl, sym, ◌∙◌, ap, subst}
use mathlib.Core.List.{List, [], ◌∷◌, ◌++◌, append_assoc, append-nil}
use mathlib.Core.Bool.{Bool, true, false, cond}
use Prim.Native.Nat.{ℕ, ◌+◌, ◌*◌, ◌≤◌, ◌<◌}
use native.Mathlib.Omega.{arith}
use native.Mathlib.Numerals.{add-one}
use lib.ListN.{length, take, drop, get_or, set, length-append, length-drop, length-take}
use lib.Seq.{drop-cons, drop-append_seam, take-append_seam, get_or-set_same, get_or-set_other}
use lib.Dec.{ltb, eqb}
use borrow.Author.Tests.{eqb-true, eqb-false, eq-eqb, ne_eqb, ltb-false}
use Rattle.wire.specs.Numbers.{le_at, bytes_of}
use Rattle.wire.specs.Parts.{Wrote}
use Rattle.wire.proofs.Numbers.{le_at-append, le_at_here, length-bytes_of}
use Rattle.wire.proofs.Parts.{wrote_splice}
use Rattle.format.specs.Format.{Format, read, span, Is}
use Rattle.format.proofs.Meaning.{complete}
use Rattle.format.proofs.Spans.{span-read}
use Rattle.order.specs.Keyed.{Every}
use Rattle.order.specs.Entries.{join}
use Rattle.order.proofs.Starts.{drop_past}
use Rattle.entries.specs.declared.Kind.{Kind}
use Rattle.entries.specs.declared.Kind.TheVariants.{Devices, Disks, Cpus, Mmus, Controllers}
use Rattle.entries.specs.Kinds.{Description, id_key}
use Rattle.entries.specs.Code.{describe}
use Rattle.entries.proofs.Lawful.{lawful}
use Rattle.tables.specs.Named.{NamesFramed, Each}
use Rattle.aerosnap.specs.File.{id_of}
use Rattle.ready.specs.Steps.{NamesSections, payload_in, Stands, mark, noted, note_of, NotedAll, names, wanted_name, pair_for, pairs_for, PutAt}

-- ---- payload_of

-- the sections to come are named by the rest of the table, and the payload is theirs
pub record Seeks (id : ℕ) (s rest : List ℕ) (l : List (List ℕ)) : Type 0 where
  pub left : List (List ℕ)
  pub names : NamesSections s left rest
  pub same : payload_in id l ≡ payload_in id left

payload_here : (id : ℕ) (e : List ℕ) (l : List (List ℕ)) → id_of e ≡ id → payload_in id (e ∷ l) ≡ drop 16 e
unfolding payload_in
payload_here id e l h = rw (eq-eqb (id_of e) id h, payload_in)

payload-later : (id : ℕ) (e : List ℕ) (l : List (List ℕ)) → (id_of e ≡ id → ⊥) → payload_in id (e ∷ l) ≡ payload_in id l
unfolding payload_in
payload-later id e l h = rw (ne_eqb (id_of e) id h, payload_in)

module _ (id : ℕ) (s : List ℕ) (l : List (List ℕ)) where
  -- a row of the table names the next section, and what is behind it those that follow
  record Next (row rest : List ℕ) : Type 0 where
    e : List ℕ
    more : List (List ℕ)
    names : NamesFramed s row e
    others : NamesSections s more rest
    same : payload_in id l ≡ payload_in id (e ∷ more)

  next : {all : List ℕ} (row rest : List ℕ) → Seeks id s all l → all ≡ row ++ rest → length row ≡ 32 → Next row rest
  next row rest v c h = go v.names.rows v.left (sym c ∙ v.names.bytes) v.names.names v.same
    where
      go : (rows left : List (List ℕ)) → row ++ rest ≡ join rows → Each (NamesFramed s) rows left → payload_in id l ≡ payload_in id left → Next row rest
      go [] left b n q = absurd (omega (arith, length-append row rest, ap length b))
      go (r ∷ rows) [] b n q = absurd n
      go (r ∷ rows) (e ∷ left) b n q =
          let k : length r ≡ length row = n.0.long ∙ sym h in
          let f : row ≡ r = sym (take-append_seam row rest) ∙ ap (take (length row)) b ∙ ap (λ (j : ℕ). take j (r ++ join rows)) (sym k) ∙ take-append_seam r (join rows) in
          let d : rest ≡ join rows = sym (drop-append_seam row rest) ∙ ap (drop (length row)) b ∙ ap (λ (j : ℕ). drop j (r ++ join rows)) (sym k) ∙ drop-append_seam r (join rows) in
          record { e = e; more = left; names = subst (λ (x : List ℕ). NamesFramed s x e) (sym f) n.0; others = record { rows = rows; bytes = d; names = n.1 }; same = q }

  module _ {all : List ℕ} (row rest : List ℕ) (v : Seeks id s all l) (c : all ≡ row ++ rest) (h : length row ≡ 32) where
    pub seeks_found : {i p n : ℕ} → i ≡ le_at 4 row 0 → i ≡ id → p ≡ le_at 8 row 8 → n ≡ le_at 8 row 16 → {b : List ℕ} → b ≡ take n (drop p s) → b ≡ payload_in id l
    seeks_found {i} {p} {n} a b j k t =
        let x = next row rest v c h in
        t ∙ rw (j, k) x.names.payload ∙ sym (x.same ∙ payload_here id x.e x.more (sym x.names.id ∙ sym a ∙ b))

    pub seeks_next : {i : ℕ} → i ≡ le_at 4 row 0 → (i ≡ id → ⊥) → Seeks id s rest l
    seeks_next {i} a b =
        let x = next row rest v c h in
        record { left = x.more; names = x.others; same = x.same ∙ payload-later id x.e x.more (λ z. b (a ∙ x.names.id ∙ z)) }

  pub seeks_end : {rest : List ℕ} → Seeks id s rest l → length rest < 32 → [] ≡ payload_in id l
  unfolding payload_in
  seeks_end {rest} v h = go v.names.rows v.left v.names.bytes v.names.names v.same
    where
      go : (rows left : List (List ℕ)) → rest ≡ join rows → Each (NamesFramed s) rows left → payload_in id l ≡ payload_in id left → [] ≡ payload_in id l
      go [] [] b n q = sym q
      go [] (e ∷ left) b n q = absurd n
      go (r ∷ rows) [] b n q = absurd n
      go (r ∷ rows) (e ∷ left) b n q = absurd (omega (arith, ap length b, length-append r (join rows), n.0.long))

-- ---- note_all

-- what is noted of each id
pub noted-at : (l : List ℕ) (id at k : ℕ) → k < length l → get_or (noted l id at) k 0 ≡ cond (eqb id k) (mark (get_or l k 0) at) (get_or l k 0)
noted-at l id at k h = go (ltb id (length l)) (eqb id k) refl refl
  where
    go : (a b : Bool) → ltb id (length l) ≡ a → eqb id k ≡ b → get_or (cond a (set l id (mark (get_or l id 0) at)) l) k 0 ≡ cond b (mark (get_or l k 0) at) (get_or l k 0)
    go true true p q = let e : id ≡ k = eqb-true id k q in rw e (get_or-set_same l k (mark (get_or l k 0) at) 0 h)
    go true false p q = get_or-set_other l id k (mark (get_or l id 0) at) 0 (λ e. eqb-false id k q (sym e))
    go false true p q = absurd (omega (arith, eqb-true id k q, ltb-false id (length l) p))
    go false false p q = refl

-- every entry begins with a u32
fixed_id : (k : Kind) → 4 ≤ (describe k).fixed
fixed_id Devices = omega arith
fixed_id Disks = omega arith
fixed_id (Cpus v) = omega arith
fixed_id (Mmus v) = omega arith
fixed_id Controllers = omega arith

-- a walk by lengths stays within the bytes, but for the count that they may lack
pub pass-room : (n at : ℕ) (s : List ℕ) → at ≤ length s + 4 → at + length (take n (drop at s)) ≤ length s + 4
pass-room n at s h = omega (arith, length-take n (drop at s), length-drop at s)

-- i entries are behind, those to come stand from a place on, and what is noted at the end is what will be noted from here
pub record Passing (d : Description) (s : List ℕ) (m : List (List ℕ)) (n : ℕ) (old new : List ℕ) (at i : ℕ) : Type 0 where
  pub left : List (List ℕ)
  pub rest : List ℕ
  pub cut : drop at s ≡ join left ++ rest
  pub are : Every (Is d.form) left
  pub number : i + length left ≡ n
  pub same : (k : ℕ) → k < length old → note_of k (get_or old k 0) 4 m ≡ note_of k (get_or new k 0) at left

pub passing_start : {d : Description} {s : List ℕ} {m : List (List ℕ)} (old : List ℕ) {n : ℕ} → n ≡ le_at 4 s 0 → Stands d s m → Passing d s m n old old 4 0
passing_start {m = m} old e v = record { left = m; rest = v.rest; cut = v.cut; are = v.are; number = omega (arith, v.number); same = λ k h. refl }

module _ {d : Description} {s : List ℕ} {m : List (List ℕ)} {n : ℕ} {old new : List ℕ} {at i : ℕ} (v : Passing d s m n old new at i) where
  pub passing_end : n ≤ i → NotedAll m old new
  unfolding note_of
  passing_end h k lt = go v.left v.number (v.same k lt)
    where
      go : (left : List (List ℕ)) → i + length left ≡ n → note_of k (get_or old k 0) 4 m ≡ note_of k (get_or new k 0) at left → get_or new k 0 ≡ note_of k (get_or old k 0) 4 m
      go [] q e = sym e
      go (x ∷ left) q e = absurd (omega arith)

-- the entry at a place, and those behind it
record Entry (d : Description) (s : List ℕ) (at : ℕ) (left : List (List ℕ)) : Type 0 where
  e : List ℕ
  more : List (List ℕ)
  rest : List ℕ
  split : left ≡ e ∷ more
  cut : drop at s ≡ e ++ (join more ++ rest)
  is : Is d.form e
  are : Every (Is d.form) more

entry_next : {d : Description} {s : List ℕ} {at : ℕ} (left : List (List ℕ)) (rest : List ℕ) → 1 ≤ length left → drop at s ≡ join left ++ rest → Every (Is d.form) left → Entry d s at left
entry_next [] rest h c a = absurd (omega arith)
entry_next (e ∷ more) rest h c a = record { e = e; more = more; rest = rest; split = refl; cut = c ∙ append_assoc e (join more) rest; is = a.0; are = a.1 }

-- an entry is as long as its lengths say
entry_length : (f : Format) (b e more : List ℕ) → Is f e → b ≡ e ++ more → length (take (span f b) b) ≡ length e
entry_length f b e more h c =
    let q : span f b ≡ length e = span-read f b (ap (read f) c ∙ complete f e more h) in
    ap length (ap (λ (k : ℕ). take k b) q ∙ ap (take (length e)) c ∙ take-append_seam e more)

module _ (kind : Kind) {s : List ℕ} {m : List (List ℕ)} {n : ℕ} {old new : List ℕ} {at i : ℕ} (v : Passing (describe kind) s m n old new at i) where
  pub passing_next : i < n → length new ≡ length old → {id w : ℕ} → id ≡ le_at 4 s at → w ≡ length (take (span (describe kind).form (drop at s)) (drop at s))
      → Passing (describe kind) s m n old (noted new id at) (at + w) (i + 1)
  unfolding note_of
  passing_next h long {id} {w} a b =
      let x = entry_next {d = describe kind} {s = s} {at = at} v.left v.rest (omega (arith, v.number)) v.cut v.are in
      let e : List ℕ = x.e in
      let four : 4 ≤ length e = omega (arith, fixed_id kind, (lawful kind).wide e x.is) in
      let named : id ≡ id_key e = a ∙ sym (le_at_here 4 s at) ∙ ap (λ (t : List ℕ). le_at 4 t 0) x.cut ∙ le_at-append 4 e (join x.more ++ x.rest) 0 four in
      let wide : w ≡ length e = b ∙ entry_length (describe kind).form (drop at s) e (join x.more ++ x.rest) x.is x.cut in
      record {
        left = x.more;
        rest = x.rest;
        cut = ap (λ (k : ℕ). drop (at + k) s) wide ∙ drop_past s at e (join x.more ++ x.rest) x.cut;
        are = x.are;
        number = omega (arith, v.number, ap length x.split);
        same = λ k lt. v.same k lt ∙ ap (note_of k (get_or new k 0) at) x.split ∙ step k (omega arith) x.e x.more named wide;
      }
    where
      step : (k : ℕ) → k < length new → (e : List ℕ) (more : List (List ℕ)) → {id w : ℕ} → id ≡ id_key e → w ≡ length e → note_of k (get_or new k 0) at (e ∷ more) ≡ note_of k (get_or (noted new id at) k 0) (at + w) more
      step k lt e more {id} p q = rw (noted-at new id at k lt, p, q)

-- ---- put_missing

pair_most : (p : ℕ × ℕ) (x : Bool) → length (pair_for p x) ≤ 8
pair_most p true = omega arith
pair_most p false = omega (arith, length-append (bytes_of 4 p.0) (bytes_of 4 p.1), length-bytes_of 4 p.0, length-bytes_of 4 p.1)

-- the pairs of the first i things are written where these are missing
pub record Listing (found : List Bool) (old new : List ℕ) (at i : ℕ) : Type 0 where
  pub part : List ℕ
  pub split : pairs_for names found ≡ part ++ pairs_for (drop i names) (drop i found)
  pub wrote : Wrote part old new at
  pub most : at ≤ 8 * i

module _ {found : List Bool} {old new : List ℕ} {at i : ℕ} (v : Listing found old new at i) (room : 72 ≤ length old) where
  pub listing_end : i ≡ 9 → Wrote (pairs_for names found) old new at
  unfolding pairs_for
  listing_end h =
      let q : pairs_for names found ≡ v.part = v.split ∙ ap (λ (k : ℕ). v.part ++ pairs_for (drop k names) (drop k found)) h ∙ append-nil v.part in
      rw q v.wrote

  pub listing_next : i ≤ 8 → length found ≡ 9 → {out : List ℕ} {r : ℕ} → PutAt (pair_for (wanted_name i) (get_or found i false)) at new out r → Listing found old out r (i + 1)
  unfolding pairs_for
  listing_next h long {out} {r} p =
      let bs : List ℕ = pair_for (wanted_name i) (get_or found i false) in
      let w : Wrote (v.part ++ bs) old out (at + length bs) = wrote_splice v.wrote bs p.bytes in
      record {
        part = v.part ++ bs;
        split = v.split ∙ ap (λ (x : List ℕ). v.part ++ x) (step (omega arith)) ∙ sym (append_assoc v.part bs (pairs_for (drop (i + 1) names) (drop (i + 1) found)));
        wrote = rw p.ends w;
        most = omega (arith, p.ends, v.most, pair_most (wanted_name i) (get_or found i false));
      }
    where
      step : i < length names → pairs_for (drop i names) (drop i found) ≡ pair_for (wanted_name i) (get_or found i false) ++ pairs_for (drop (i + 1) names) (drop (i + 1) found)
      step k = rw (add-one i, drop-cons names i (0, 0) k, drop-cons found i false (omega arith))
