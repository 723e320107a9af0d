-- A section as the canonical form writes it: none for a list with no entries and no tail, else one that follows the rules, is as long and is written as it stands.
-- Assumes nothing.
use mathlib.Core.Path.{◌≡◌, refl, sym, ◌∙◌, ap, subst}
use mathlib.Core.List.{List, [], ◌∷◌, ◌++◌, append-nil}
use mathlib.Core.Bool.{Bool, true, false, cond, ◌&&◌, ◌||◌, false≢true, true≢false}
use Prim.Native.Nat.{ℕ, ◌+◌, ◌≤◌, ◌<◌}
use native.Mathlib.Omega.{arith}
use lib.ListN.{length, drop, length-append, length-drop}
use lib.Dec.{eqb}
use borrow.Author.Tests.{eqb-true, eq-eqb, ne_eqb}
use Rattle.format.specs.Format.{Is}
use Rattle.order.specs.Keyed.{weigh, sort, Asc, Every}
use Rattle.order.specs.Entries.{join}
use Rattle.order.proofs.Perms.{perm_weigh}
use Rattle.order.proofs.Sorts.{sort_perm, sort_asc, asc_sort}
use Rattle.entries.specs.Kinds.{Description}
use Rattle.entries.proofs.Lawful.{Lawful}
use Rattle.lists.specs.Lists.{entries, tail_of, list_bytes, IsList}
use Rattle.lists.proofs.Taken.{list_complete, closed_tail}
use Rattle.lists.proofs.Written.{Good, good_sort, good_entries, length_list, list_length, list_is, entries_list, tail_list}
use Rattle.aerosnap.specs.Known.{CPU, MMU, DEVICES, CPUS, MMUS, known, takes}
use Rattle.aerosnap.specs.Payloads.{Body, meta, cpu, mmu, list, opaque, known_bodies, body_of}
use Rattle.aerosnap.specs.File.{file_most, devices_most, id_of, version_of}
use Rattle.aerosnap.specs.Rules.{IsBody, IsSection}
use Rattle.aerosnap.specs.Content.{framed, is_absent, listed, tidied, tidy}
use Rattle.aerosnap.proofs.Bodies.{body_cases, Lawfully, lawful_body}
use Rattle.aerosnap.proofs.Slots.{known_range}
use Rattle.aerosnap.proofs.Framed.{ReadsFramed, length-framed, framed_reads}

takes-le : (id v : ℕ) → takes id v ≡ true → v ≤ 2
takes-le id v h = go (eqb v 1) (eqb v 2) refl refl h
  where
    go : (a b : Bool) → eqb v 1 ≡ a → eqb v 2 ≡ b → (a || (b && (eqb id CPU || eqb id MMU || eqb id CPUS || eqb id MMUS))) ≡ true → v ≤ 2
    go true b e f h = omega (arith, eqb-true v 1 e)
    go false true e f h = omega (arith, eqb-true v 2 f)
    go false false e f h = let z : ◌≡◌ {A = ℕ} 0 1 = cc in absurd (omega arith)

-- a list is one of the known sections
pub list_known : (id v : ℕ) (d : Description) → body_of id v ≡ list d → known id ≡ true
list_known id v d = body_cases (λ i k. k ≡ list d → known i ≡ true) id v known_bodies ((λ _. refl), ((λ _. refl), ((λ _. refl), ((λ _. refl), ((λ _. refl), ((λ _. refl), ((λ _. refl), tt))))))) (λ _ q. other q)
  where
    other : opaque ≡ list d → known id ≡ true
    other q = let z : ◌≡◌ {A = ℕ} 0 1 = cc in absurd (omega arith)

-- A section that is written as it stands
pub record Tidy (e : List ℕ) : Type 0 where
  pub is : IsSection e
  pub same : tidy e ≡ e ∷ []

-- ---- a list that counts as absent

pub absent_none : (l : List (List ℕ)) (t : List ℕ) → is_absent l t ≡ true → (l ≡ []) × (t ≡ [])
absent_none [] [] h = (refl, refl)
absent_none [] (b ∷ t) h = absurd (false≢true h)
absent_none (e ∷ l) t h = absurd (false≢true h)

-- one that does not has bytes behind its count
pub absent_not : {d : Description} → Lawful d → (l : List (List ℕ)) (t : List ℕ) → Every (Is d.form) l → is_absent l t ≡ false → 0 < weigh length l + length t
absent_not K [] [] a h = absurd (true≢false h)
absent_not K [] (b ∷ t) a h = omega arith
absent_not K (e ∷ l) t a h = omega (arith, K.some, K.wide e a.0)

-- ---- entries and a tail written as a section

module _ (id v : ℕ) {d : Description} (q : body_of id v ≡ list d) (t : takes id v ≡ true) (K : Lawful d) (l : List (List ℕ)) (g : Good d l) (w : List ℕ) (c : d.closed ≡ true → w ≡ [])
    (small : id ≡ DEVICES → length (list_bytes l ++ w) ≤ devices_most) (long : length (list_bytes l ++ w) ≤ file_most) where
  pub list_reads : ReadsFramed (framed id v 0 (list_bytes l ++ w)) id v 0 (list_bytes l ++ w)
  list_reads = framed_reads id v 0 (list_bytes l ++ w) (omega (arith, (known_range id (list_known id v d q)).1)) (omega (arith, takes-le id v t)) (omega arith) (omega arith)

  pub list_section : IsSection (framed id v 0 (list_bytes l ++ w))
  list_section =
      let r = list_reads in
      record {
        whole = r.whole;
        rules = λ _. rw (r.id_is, r.version_is, r.flags_is, r.payload_is)
            (record { version = t; flags = refl; small = small; body = subst (λ (k : Body). IsBody k (list_bytes l ++ w)) (sym q) (list_is K l g w c) });
      }

  pub list_tidy : tidy (framed id v 0 (list_bytes l ++ w)) ≡ listed id v (sort d.key l) w
  list_tidy =
      let e : List ℕ = framed id v 0 (list_bytes l ++ w) in
      let r = list_reads in
      let b : body_of (id_of e) (version_of e) ≡ list d = rw (r.id_is, r.version_is) q in
      ap (λ (k : Body). tidied k e) b ∙ rw (r.id_is, r.version_is, r.payload_is, tail_list K l g w c, entries_list K l g w c)

-- ---- what becomes of a section

-- nothing, or one of the same id and length that is written as it stands
pub data Tidied (e : List ℕ) : List (List ℕ) → Type 0 where
  gone : Tidied e []
  kept : {d : List ℕ} → Tidy d → id_of d ≡ id_of e → length d ≡ length e → Tidied e (d ∷ [])

-- a list's section: its entries are good, and fill it with its tail
pub record HoldsList (d : Description) (e : List ℕ) : Type 0 where
  pub good : Good d (entries d (drop 16 e))
  pub size : length e ≡ 20 + weigh length (entries d (drop 16 e)) + length (tail_of d (drop 16 e))
  pub small : id_of e ≡ DEVICES → length (drop 16 e) ≤ devices_most
  pub version : takes (id_of e) (version_of e) ≡ true
  pub ended : d.closed ≡ true → tail_of d (drop 16 e) ≡ []

pub lists_of : (e : List ℕ) {d : Description} → body_of (id_of e) (version_of e) ≡ list d → Lawful d → IsSection e → HoldsList d e
lists_of e {d} q K s =
    let u = s.rules (list_known (id_of e) (version_of e) d q) in
    let i : IsList d (drop 16 e) = subst (λ (k : Body). IsBody k (drop 16 e)) q u.body in
    record {
      good = good_entries d (drop 16 e) i;
      size = omega (arith, list_length K (drop 16 e) (list_complete K (drop 16 e) i), length-drop 16 e, s.whole);
      small = u.small;
      version = u.version;
      ended = λ c. closed_tail d (drop 16 e) c i;
    }

-- the entries of a section in the order of their keys, and its tail: as many bytes
listed-tidied : (e : List ℕ) (d : Description) (q : body_of (id_of e) (version_of e) ≡ list d) → Lawful d → length e ≤ file_most → takes (id_of e) (version_of e) ≡ true
    → (id_of e ≡ DEVICES → length (drop 16 e) ≤ devices_most) → (m : List (List ℕ)) → Good d m → Asc d.key 0 m → (w : List ℕ) → (d.closed ≡ true → w ≡ []) → length e ≡ 20 + weigh length m + length w
    → Tidied e (listed (id_of e) (version_of e) m w)
listed-tidied e d q K n t sm m g a w c z = go (is_absent m w) refl
  where
    same : length (list_bytes m ++ w) ≡ length (drop 16 e)
    same = omega (arith, length-append (list_bytes m) w, length_list m, length-drop 16 e)

    small : id_of e ≡ DEVICES → length (list_bytes m ++ w) ≤ devices_most
    small i = omega (arith, same, sm i)

    long : length (list_bytes m ++ w) ≤ file_most
    long = omega (arith, same, length-drop 16 e)

    go : (b : Bool) → is_absent m w ≡ b → Tidied e (cond b [] (framed (id_of e) (version_of e) 0 (list_bytes m ++ w) ∷ []))
    go true h = gone
    go false h =
        kept
        (record {
          is = list_section (id_of e) (version_of e) q t K m g w c small long;
          same = list_tidy (id_of e) (version_of e) q t K m g w c small long ∙ ap (λ (l : List (List ℕ)). listed (id_of e) (version_of e) l w) (asc_sort d.key 0 m a) ∙ rw h;
        })
        (list_reads (id_of e) (version_of e) q t K m g w c small long).id_is
        (omega (arith, length-framed (id_of e) (version_of e) 0 (list_bytes m ++ w), length-append (list_bytes m) w, length_list m))

pub tidied_is : (e : List ℕ) → IsSection e → length e ≤ file_most → Tidied e (tidy e)
tidied_is e s n = go (body_of (id_of e) (version_of e)) refl (lawful_body (id_of e) (version_of e))
  where
    copied : {k : Body} → body_of (id_of e) (version_of e) ≡ k → tidied k e ≡ e ∷ [] → Tidied e (e ∷ [])
    copied q r = kept (record { is = s; same = ap (λ (k : Body). tidied k e) q ∙ r }) refl refl

    go : (k : Body) → body_of (id_of e) (version_of e) ≡ k → Lawfully k → Tidied e (tidied k e)
    go meta q K = copied q refl
    go (cpu v) q K = copied q refl
    go (mmu v) q K = copied q refl
    go (list d) q K =
        let u = lists_of e q K s in
        let es : List (List ℕ) = entries d (drop 16 e) in
        let w : weigh length (sort d.key es) ≡ weigh length es = perm_weigh length (sort_perm d.key es) in
        listed-tidied e d q K n u.version u.small (sort d.key es) (good_sort d es u.good) (sort_asc d.key es u.good.apart) (tail_of d (drop 16 e)) u.ended (omega (arith, u.size))
    go opaque q K = copied q refl

-- ---- how many bytes are written of a section

-- a list whose payload is its count alone: no entries, no tail
abbrev pub is_empty_by : Body → List ℕ → Bool
is_empty_by meta e = false
is_empty_by (cpu v) e = false
is_empty_by (mmu v) e = false
is_empty_by (list d) e = eqb (length e) 20
is_empty_by opaque e = false

abbrev pub is_empty : List ℕ → Bool
is_empty e = is_empty_by (body_of (id_of e) (version_of e)) e

-- that is how the section of a list tells whether it is written
pub empty-absent : {d : Description} → Lawful d → (n : ℕ) (l : List (List ℕ)) (t : List ℕ) → Every (Is d.form) l → n ≡ 20 + weigh length l + length t → is_absent l t ≡ eqb n 20
empty-absent {d} K n l t a z = go (is_absent l t) refl
  where
    go : (b : Bool) → is_absent l t ≡ b → b ≡ eqb n 20
    go true h = let e = absent_none l t h in sym (eq-eqb n 20 (omega (arith, ap (weigh length) e.0, ap length e.1)))
    go false h = sym (ne_eqb n 20 (λ i. omega (arith, absent_not K l t a h)))

pub tidy_size : (e : List ℕ) → IsSection e → length (join (tidy e)) ≡ cond (is_empty e) 0 (length e)
tidy_size e s = go (body_of (id_of e) (version_of e)) refl (lawful_body (id_of e) (version_of e))
  where
    one : length (join (e ∷ [])) ≡ length e
    one = ap length (append-nil e)

    listed_size : (b : Bool) (m : List (List ℕ)) (w : List ℕ) → length e ≡ 20 + weigh length m + length w → length (join (cond b [] (framed (id_of e) (version_of e) 0 (list_bytes m ++ w) ∷ []))) ≡ cond b 0 (length e)
    listed_size true m w z = refl
    listed_size false m w z = rw append-nil (omega (arith, length-framed (id_of e) (version_of e) 0 (list_bytes m ++ w), length-append (list_bytes m) w, length_list m))

    go : (k : Body) → body_of (id_of e) (version_of e) ≡ k → Lawfully k → length (join (tidied k e)) ≡ cond (is_empty_by k e) 0 (length e)
    go meta q K = one
    go (cpu v) q K = one
    go (mmu v) q K = one
    go (list d) q K =
        let u = lists_of e q K s in
        let es : List (List ℕ) = entries d (drop 16 e) in
        let m : List (List ℕ) = sort d.key es in
        let w : List ℕ = tail_of d (drop 16 e) in
        let z : length e ≡ 20 + weigh length m + length w = omega (arith, perm_weigh length (sort_perm d.key es), u.size) in
        listed_size (is_absent m w) m w z ∙ ap (λ (b : Bool). cond b 0 (length e)) (empty-absent K (length e) m w (good_sort d es u.good).are z)
    go opaque q K = one

-- nothing is written of a section of which no byte is
pub tidy_one : (e : List ℕ) → IsSection e → cond (eqb (cond (is_empty e) 0 (length e)) 0) 0 1 ≡ length (tidy e)
tidy_one e s = ap (λ (n : ℕ). cond (eqb n 0) 0 1) (sym (tidy_size e s)) ∙ go (body_of (id_of e) (version_of e))
  where
    long : 16 ≤ length e
    long = omega (arith, s.whole)

    one : (d : List ℕ) → 0 < length d → cond (eqb (length (join (d ∷ []))) 0) 0 1 ≡ length (d ∷ [])
    one d h = rw (append-nil, ne_eqb (length d) 0 (λ z. omega arith))

    listed-one : (b : Bool) (p : List ℕ) → cond (eqb (length (join (cond b [] (framed (id_of e) (version_of e) 0 p ∷ [])))) 0) 0 1 ≡ length (cond b [] (framed (id_of e) (version_of e) 0 p ∷ []))
    listed-one true p = refl
    listed-one false p = one (framed (id_of e) (version_of e) 0 p) (omega (arith, length-framed (id_of e) (version_of e) 0 p))

    go : (k : Body) → cond (eqb (length (join (tidied k e))) 0) 0 1 ≡ length (tidied k e)
    go meta = one e (omega (arith, long))
    go (cpu v) = one e (omega (arith, long))
    go (mmu v) = one e (omega (arith, long))
    go (list d) = let m : List (List ℕ) = sort d.key (entries d (drop 16 e)) in let w : List ℕ = tail_of d (drop 16 e) in listed-one (is_absent m w) (list_bytes m ++ w)
    go opaque = one e (omega (arith, long))
