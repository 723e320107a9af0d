-- The starts of a file's lists: those that are kept for a buffer, how many they are, and where those of a section stand among them.
-- Assumes nothing.
use mathlib.Core.Path.{◌≡◌, refl, sym, ◌∙◌, ap, subst}
use mathlib.Core.Logic.{◌≢◌}
use mathlib.Core.List.{List, [], ◌∷◌, ◌++◌, append-nil, append_assoc}
use mathlib.Core.Bool.{Bool, true, false, cond, ◌||◌}
use Prim.Native.Nat.{ℕ, zero, suc, ◌+◌, ◌-◌, ◌≤◌}
use native.Mathlib.Omega.{arith}
use lib.ListN.{length, drop, length-append, length-drop}
use lib.Seq.{take_all, drop_at, drop-append-le, take-append-le}
use lib.Dec.{leb, eqb}
use borrow.Author.Tests.{leb-true, le-leb, eqb-true, ne_eqb}
use Rattle.answer.specs.Outcome.{Outcome, taken, refused}
use Rattle.wire.specs.Numbers.{le_at}
use Rattle.wire.proofs.Numbers.{le_at-append, le_at_here}
use Rattle.order.specs.Keyed.{weigh, flat, keep, Every}
use Rattle.order.specs.Entries.{join}
use Rattle.order.proofs.Folds.{every_imp, length-flat}
use Rattle.order.proofs.Keeps.{keep-none}
use Rattle.lists.specs.Lists.{IsList, whole}
use Rattle.lists.proofs.Taken.{list_complete}
use Rattle.lists.proofs.Ordered.{index_length}
use Rattle.entries.specs.Kinds.{Description, devices, disks, cpus, mmus}
use Rattle.entries.proofs.Lawful.{Lawful}
use Rattle.aerosnap.specs.Known.{known, slot}
use Rattle.aerosnap.specs.Payloads.{Body, meta, cpu, mmu, list, opaque, known_bodies, body_of}
use Rattle.aerosnap.specs.File.{id_of, version_of, length_of, payload_of, file_of}
use Rattle.aerosnap.specs.Rules.{IsBody, IsSection}
use Rattle.aerosnap.specs.Content.{is_id}
use Rattle.aerosnap.proofs.Bodies.{body_cases, Lawfully, lawful_body}
use Rattle.aerosnap.proofs.Copies.{is_list_body}
use Rattle.aerosnap.proofs.Sections.{id_front, length_front}
use Rattle.aerosnap.proofs.Slots.{Once, first_once, rest_once}
use Rattle.aerosnap.proofs.Standing.{stand_start}
use Rattle.aerosnap.proofs.Taken.{file_sound}
use Rattle.payloads.specs.Starts.{starts}
use Rattle.sections.specs.Index.{starts_of, kept, first_of, is_list_id, count_in, counts}

-- ---- those that are kept

pub whole-fits : (have : ℕ) (l : List ℕ) → length (whole have l) ≤ have
whole-fits have l = go (leb (length l) have) refl
  where
    go : (b : Bool) → leb (length l) have ≡ b → length (cond b l []) ≤ have
    go true q = leb-true (length l) have q
    go false q = omega arith

pub kept-fits : (have : ℕ) (l : List (List ℕ)) → length (kept have l) ≤ have
kept-fits have [] = omega arith
kept-fits have (e ∷ l) =
    let w : List ℕ = whole have (starts_of e) in
    omega (arith, length-append w (kept (have - length w) l), whole-fits have (starts_of e), kept-fits (have - length w) l)

-- one section more
pub kept_last : (have : ℕ) (l : List (List ℕ)) (e : List ℕ) → kept have (l ++ (e ∷ [])) ≡ kept have l ++ whole (have - length (kept have l)) (starts_of e)
kept_last have [] e = append-nil (whole have (starts_of e)) ∙ ap (λ (m : ℕ). whole m (starts_of e)) (omega arith)
kept_last have (x ∷ l) e =
    let w : List ℕ = whole have (starts_of x) in
    let k : List ℕ = kept (have - length w) l in
    let n : have - length w - length k ≡ have - length (w ++ k) = omega (arith, length-append w k) in
    ap (λ (t : List ℕ). w ++ t) (kept_last (have - length w) l e ∙ ap (λ (m : ℕ). k ++ whole m (starts_of e)) n)
    ∙ sym (append_assoc w k (whole (have - length (w ++ k)) (starts_of e)))

-- all of them, where there is room
pub kept_all : (have : ℕ) (l : List (List ℕ)) → length (flat starts_of l) ≤ have → kept have l ≡ flat starts_of l
kept_all have [] h = refl
kept_all have (e ∷ l) h =
    let n = length-append (starts_of e) (flat starts_of l) in
    let i : length (starts_of e) ≤ have = omega (arith, n) in
    let j : length (flat starts_of l) ≤ have - length (starts_of e) = omega (arith, n) in
    let q : whole have (starts_of e) ≡ starts_of e = rw (le-leb (length (starts_of e)) have i) in
    rw q (ap (λ (t : List ℕ). starts_of e ++ t) (kept_all (have - length (starts_of e)) l j))

-- ---- which sections are lists

pub listed_id : (id v : ℕ) → is_list_body (body_of id v) ≡ is_list_id id
listed_id id v =
    body_cases (λ i k. is_list_body k ≡ is_list_id i) id v known_bodies (refl, (refl, (refl, (refl, (refl, (refl, (refl, tt)))))))
    (λ n. sym (rw (n.1.1.1.0, n.1.1.1.1.0, n.1.1.1.1.1.0, n.1.1.1.1.1.1.0)))

pub not_list : (id : ℕ) → id ≢ 4 → id ≢ 5 → id ≢ 7 → id ≢ 8 → is_list_id id ≡ false
not_list id a b c d = rw (ne_eqb id 4 a, ne_eqb id 5 b, ne_eqb id 7 c, ne_eqb id 8 d)

-- of a section that is not known nothing is asked
pub body_other : (id v : ℕ) → known id ≡ false → body_of id v ≡ opaque
body_other id v k = rw (far 1 refl, far 2 refl, far 3 refl, far 4 refl, far 5 refl, far 7 refl, far 8 refl)
  where
    far : (n : ℕ) → known n ≡ true → eqb id n ≡ false
    far n q = ne_eqb id n (λ e. let z : known id ≡ true = ap known e ∙ q in let y : ◌≡◌ {A = ℕ} 0 1 = cc in omega arith)

-- ---- how many starts a section has

-- a list that is taken has as many starts as its count says, and room for the count
body_count : (k : Body) → Lawfully k → (p : List ℕ) → IsBody k p → length (starts k p) ≡ cond (is_list_body k) (le_at 4 p 0) 0
body_count meta K p h = refl
body_count (cpu v) K p h = refl
body_count (mmu v) K p h = refl
body_count (list d) K p h =
    let c = list_complete K p h in
    ap (λ (o : Outcome (List ℕ)). length {A = ℕ} (elim o as (λ _. List ℕ) [ taken l ↦ l | refused n q ↦ [] ])) c ∙ index_length K p c
body_count opaque K p h = refl

body_long : (k : Body) (p : List ℕ) → IsBody k p → is_list_body k ≡ true → 4 ≤ length p
body_long meta p h q = let z : ◌≡◌ {A = ℕ} 0 1 = cc in absurd (omega arith)
body_long (cpu v) p h q = let z : ◌≡◌ {A = ℕ} 0 1 = cc in absurd (omega arith)
body_long (mmu v) p h q = let z : ◌≡◌ {A = ℕ} 0 1 = cc in absurd (omega arith)
body_long (list d) p h q = h.count
body_long opaque p h q = let z : ◌≡◌ {A = ℕ} 0 1 = cc in absurd (omega arith)

module _ (e : List ℕ) (h : IsSection e) where
  pub its_body : (b : Bool) → known (id_of e) ≡ b → IsBody (body_of (id_of e) (version_of e)) (drop 16 e)
  its_body true k = (h.rules k).body
  its_body false k = subst (λ (y : Body). IsBody y (drop 16 e)) (sym (body_other (id_of e) (version_of e) k)) tt

  pub its_payload : payload_of e ≡ drop 16 e
  its_payload = take_all (length_of e) (drop 16 e) (omega (arith, length-drop 16 e, h.whole))

  pub starts-count : length (starts_of e) ≡ count_in e
  starts-count =
      ap (λ (p : List ℕ). length (starts (body_of (id_of e) (version_of e)) p)) its_payload
      ∙ body_count (body_of (id_of e) (version_of e)) (lawful_body (id_of e) (version_of e)) (drop 16 e) (its_body (known (id_of e)) refl)
      ∙ cc (listed_id (id_of e) (version_of e), le_at_here 4 e 16)

  -- what is asked of the section that begins some bytes, is asked of the section
  pub entries_front : (more : List ℕ) → count_in (e ++ more) ≡ count_in e
  entries_front more = ap (λ (i : ℕ). cond (is_list_id i) (le_at 4 (e ++ more) 16) 0) (id_front e more h.whole) ∙ go (is_list_id (id_of e)) refl
    where
      go : (b : Bool) → is_list_id (id_of e) ≡ b → cond b (le_at 4 (e ++ more) 16) 0 ≡ cond b (le_at 4 e 16) 0
      go true q =
          let n = body_long (body_of (id_of e) (version_of e)) (drop 16 e) (its_body (known (id_of e)) refl) (listed_id (id_of e) (version_of e) ∙ q) in
          le_at-append 4 e more 16 (omega (arith, n, length-drop 16 e))
      go false q = refl

  pub starts_front : (more : List ℕ) → starts_of (e ++ more) ≡ starts_of e
  starts_front more =
      let n : length (drop 16 e) ≡ length_of e = length-drop 16 e ∙ omega (arith, h.whole) in
      let p : payload_of (e ++ more) ≡ payload_of e =
      rw (length_front e more h.whole, drop-append-le 16 e more (omega (arith, h.whole))) (take-append-le (length_of e) (drop 16 e) more (omega arith))
      in
      cc (id_front e more h.whole, le_at-append 2 e more 4 (omega (arith, h.whole)), p)

-- ---- how many starts a file has

counts-join : (l : List (List ℕ)) (n : ℕ) → length l ≤ n → Every IsSection l → counts n (join l) ≡ length (flat starts_of l)
unfolding counts
counts-join [] zero h a = refl
counts-join [] (suc n) h a = refl
counts-join (e ∷ l) zero h a = absurd (omega arith)
counts-join (e ∷ l) (suc n) h a =
    let w : length e ≡ 16 + length_of e = a.0.whole in
    let f = length_front e (join l) w in
    let k = length-append e (join l) in
    let i : 16 ≤ length (e ++ join l) = omega (arith, k) in
    let j : length_of e ≤ length (e ++ join l) - 16 = omega (arith, k) in
    rw (le-leb 16 (length (e ++ join l)) i, f, le-leb (length_of e) (length (e ++ join l) - 16) j, drop_at e (join l) (16 + length_of e) w, entries_front e a.0 (join l), ← starts-count e a.0, counts-join l n (omega arith) a.1) (sym (length-append (starts_of e) (flat starts_of l)))

pub counts_all : (s : List ℕ) {l : List (List ℕ)} → file_of s ≡ taken l → counts 64 (drop 16 s) ≡ length (flat starts_of l)
counts_all s {l} h = ap (counts 64) (stand_start s h).cut ∙ counts-join l 64 (file_sound s h).1.few (file_sound s h).1.are

-- ---- at most 4864: each of the four lists stands at most once

abbrev many : List ℕ → ℕ
many e = length (starts_of e)

body_none : (k : Body) (p : List ℕ) → is_list_body k ≡ false → length (starts k p) ≡ 0
body_none meta p h = refl
body_none (cpu v) p h = refl
body_none (mmu v) p h = refl
body_none (list d) p h = let z : ◌≡◌ {A = ℕ} 0 1 = cc in absurd (omega arith)
body_none opaque p h = refl

weigh-first : (p : List ℕ → Bool) (e : List ℕ) (l : List (List ℕ)) → weigh many (keep p (e ∷ l)) ≡ cond (p e) (many e) 0 + weigh many (keep p l)
weigh-first p e l = go (p e)
  where
    go : (b : Bool) → weigh many (cond b (e ∷ keep p l) (keep p l)) ≡ cond b (many e) 0 + weigh many (keep p l)
    go true = refl
    go false = omega arith

-- the starts of all sections are those of the four lists
four_lists : (l : List (List ℕ)) → weigh many l ≤ weigh many (keep (is_id 4) l) + weigh many (keep (is_id 5) l) + weigh many (keep (is_id 7) l) + weigh many (keep (is_id 8) l)
four_lists [] = omega arith
four_lists (e ∷ l) =
    omega (arith, four_lists l, weigh-first (is_id 4) e l, weigh-first (is_id 5) e l, weigh-first (is_id 7) e l, weigh-first (is_id 8) e l, go (is_id 4 e) (is_id 5 e) (is_id 7 e) (is_id 8 e) refl)
  where
    go : (a b c d : Bool) → is_list_id (id_of e) ≡ (a || b || c || d) → many e ≤ cond a (many e) 0 + cond b (many e) 0 + cond c (many e) 0 + cond d (many e) 0
    go true b c d q = omega arith
    go false true c d q = omega arith
    go false false true d q = omega arith
    go false false false true q = omega arith
    go false false false false q = omega (arith, body_none (body_of (id_of e) (version_of e)) (payload_of e) (listed_id (id_of e) (version_of e) ∙ q))

-- one of them has no more starts than entries may be in it
module _ (i : ℕ) (d : ℕ → Description) (q : (v : ℕ) → body_of i v ≡ list (d v)) (m : ℕ) (n : (v : ℕ) → (d v).most ≤ m) (k : known i ≡ true) where
  one_most : (e : List ℕ) → IsSection e → id_of e ≡ i → many e ≤ m
  one_most e h j =
      let b : body_of (id_of e) (version_of e) ≡ list (d (version_of e)) = ap (λ (x : ℕ). body_of x (version_of e)) j ∙ q (version_of e) in
      let K : Lawful (d (version_of e)) = subst Lawfully b (lawful_body (id_of e) (version_of e)) in
      let y : IsList (d (version_of e)) (drop 16 e) = subst (λ (z : Body). IsBody z (drop 16 e)) b (its_body e h (known (id_of e)) refl) in
      let t : many e ≡ le_at 4 (drop 16 e) 0 = cc (b, its_payload e h) ∙ body_count (list (d (version_of e))) K (drop 16 e) y in
      omega (arith, y.few, n (version_of e))

  list_most : (l : List (List ℕ)) → Every IsSection l → Once l → weigh many (keep (is_id i) l) ≤ m
  list_most [] a o = omega arith
  list_most (e ∷ l) a o = go (is_id i e) refl (list_most l a.1 (rest_once e l o))
    where
      go : (b : Bool) → is_id i e ≡ b → weigh many (keep (is_id i) l) ≤ m → weigh many (cond b (e ∷ keep (is_id i) l) (keep (is_id i) l)) ≤ m
      go true t r =
          let j : id_of e ≡ i = eqb-true (id_of e) i t in
          let z : keep (is_id i) l ≡ [] = keep-none (is_id i) l (every_imp (λ y x. ne_eqb (id_of y) i (λ u. x (ap slot (j ∙ sym u)))) l (first_once e l o (ap known j ∙ k))) in
          omega (arith, one_most e a.0 j, ap (weigh many) z)
      go false t r = r

pub starts_most : (l : List (List ℕ)) → Every IsSection l → Once l → length (flat starts_of l) ≤ 4864
starts_most l are once =
    omega (
      arith,
      length-flat starts_of l,
      four_lists l,
      list_most 4 (λ _. devices) (λ v. refl) 4096 (λ v. omega arith) refl l are once,
      list_most 5 (λ _. disks) (λ v. refl) 256 (λ v. omega arith) refl l are once,
      list_most 7 cpus (λ v. refl) 256 (λ v. omega arith) refl l are once,
      list_most 8 mmus (λ v. refl) 256 (λ v. omega arith) refl l are once,
    )

pub starts_bound : (s : List ℕ) {l : List (List ℕ)} → file_of s ≡ taken l → length (flat starts_of l) ≤ 4864
starts_bound s {l} h = let v = (file_sound s h).1 in starts_most l v.are v.once

-- no more are kept than there are
pub kept_less : (have : ℕ) (l : List (List ℕ)) → length (kept have l) ≤ length (flat starts_of l)
kept_less have [] = omega arith
kept_less have (e ∷ l) =
    let w : List ℕ = whole have (starts_of e) in
    omega (arith, length-append w (kept (have - length w) l), length-append (starts_of e) (flat starts_of l), kept_less (have - length w) l, less (leb (length (starts_of e)) have))
  where
    less : (b : Bool) → length (cond b (starts_of e) []) ≤ length (starts_of e)
    less true = omega arith
    less false = omega arith

-- ---- how many stand before those of a section

pub first_most : (i : ℕ) (l : List (List ℕ)) → first_of i l ≤ length (flat starts_of l)
first_most i [] = omega arith
first_most i (e ∷ l) = go (is_id i e) (first_most i l)
  where
    go : (b : Bool) → first_of i l ≤ length (flat starts_of l) → cond b 0 (length (starts_of e) + first_of i l) ≤ length (starts_of e ++ flat starts_of l)
    go true r = omega arith
    go false r = omega (arith, length-append (starts_of e) (flat starts_of l))
