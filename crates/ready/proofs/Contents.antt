-- From a file that is taken to its content: the payloads of its lists, and what is noted of their entries.
-- Assumes nothing.
use mathlib.Core.Path.{◌≡◌, refl, sym, ◌∙◌, ap, subst}
use mathlib.Core.List.{List, [], ◌∷◌, ◌++◌, map, append-nil}
use mathlib.Core.Bool.{Bool, true, false, cond}
use Prim.Native.Nat.{ℕ, ◌≤◌}
use native.Mathlib.Omega.{arith}
use lib.ListN.{length, take, drop, length-append}
use lib.Seq.{take-append_seam}
use borrow.Author.Tests.{eqb-true, ne_eqb}
use Rattle.answer.specs.declared.Answer.{Answer}
use Rattle.answer.specs.Outcome.{Outcome, taken, refused, after, fitting}
use Rattle.answer.specs.Calls.{answer, memory, Writes, WritesCount}
use Rattle.std.proofs.Common.{Result}
use Rattle.answer.specs.declared.Fault.{Fault}
use Rattle.answer.proofs.Table.{fault_some}
use Rattle.wire.specs.Numbers.{Bytes, le, le_at}
use Rattle.order.specs.Keyed.{Every, flat, keep}
use Rattle.order.proofs.Folds.{every_imp, flat_append}
use Rattle.order.proofs.Keeps.{keep-none}
use Rattle.entries.specs.Kinds.{Description, devices, disks}
use Rattle.lists.specs.Lists.{entries, IsList}
use Rattle.lists.proofs.Taken.{list_entries}
use Rattle.aerosnap.specs.Known.{DEVICES, DISKS, known, slot}
use Rattle.aerosnap.specs.Payloads.{list, body_of}
use Rattle.aerosnap.specs.File.{id_of, version_of, file_of}
use Rattle.aerosnap.specs.Rules.{IsSection, IsFile}
use Rattle.aerosnap.specs.Content.{is_id, entries_in, Content, content_of}
use Rattle.aerosnap.specs.Tables.{section_rows}
use Rattle.aerosnap.specs.Calls.{sections_call}
use Rattle.aerosnap.proofs.Slots.{Once, first_once, rest_once}
use Rattle.aerosnap.proofs.Taken.{file_sound}
use Rattle.aerosnap.proofs.Canonical.{taken_fits}
use Rattle.aerosnap.proofs.Rows.{sections-length}
use Rattle.aerosnap.proofs.Records.{section-rows}
use Rattle.aerosnap.proofs.Named.{file_faulty}
use Rattle.ready.specs.Missing.{Need, wanted, name_in, lacking, missing, pair_bytes, pairs_bytes, ready_call, Tells}
use Rattle.ready.specs.Steps.{NamesSections, payload_in, Stands, found_in, names, pair_for, pairs_for}
use Rattle.ready.proofs.Present.{seen_sorted, either_sorted, wrapper_sorted}

-- ---- the list of a known id

module _ (i : ℕ) (d : Description) (k : known i ≡ true) (b : (v : ℕ) → body_of i v ≡ list d) where
  -- no other section has the id
  alone : (e : List ℕ) (l : List (List ℕ)) → Once (e ∷ l) → id_of e ≡ i → Every (λ x. is_id i x ≡ false) l
  alone e l o w = every_imp (λ x n. ne_eqb (id_of x) i (λ q. n (ap slot (w ∙ sym q)))) l (first_once e l o (rw w k))

  its_list : (e : List ℕ) → IsSection e → id_of e ≡ i → IsList d (drop 16 e)
  its_list e a w = rw (b (version_of e)) at (rw w at (a.rules (rw w k)).body)

  -- its payload begins with its entries
  pub payload-stands : (l : List (List ℕ)) → Every IsSection l → Once l → Stands d (payload_in i l) (entries_in i d l)
  unfolding payload_in le_at le
  payload-stands [] a o = record { number = refl; rest = []; cut = refl; are = tt }
  payload-stands (e ∷ l) a o = go (is_id i e) refl (payload-stands l a.1 (rest_once e l o))
    where
      go : (t : Bool) → is_id i e ≡ t → Stands d (payload_in i l) (entries_in i d l)
          → Stands d (elim t as (λ _. List ℕ) [ true ↦ drop 16 e | false ↦ payload_in i l ]) (flat (λ x. entries d (drop 16 x)) (cond t (e ∷ keep (is_id i) l) (keep (is_id i) l)))
      go false q r = r
      go true q r =
          let w : id_of e ≡ i = eqb-true (id_of e) i q in
          let v = its_list e a.0 w in
          rw (keep-none (is_id i) l (alone e l o w), append-nil, list_entries d (drop 16 e) v) (record { number = v.number; rest = v.tail; cut = v.cut; are = v.are })

-- ---- what is missing

-- each thing is told exactly where a content has it
abbrev Told : Content → List Need → List Bool → Type 0
Told c [] [] = Unit {0}
Told c [] (x ∷ l) = ⊥
Told c (n ∷ ns) [] = ⊥
Told c (n ∷ ns) (x ∷ l) = (x ≡ n.there c) × Told c ns l

pair-lacking : (c : Content) (n : Need) (x : Bool) → x ≡ n.there c → pair_for (name_in n) x ≡ pairs_bytes (lacking c n)
pair-lacking c n x h = rw h (go (n.there c))
  where
    go : (t : Bool) → cond t [] (pair_bytes (name_in n)) ≡ pairs_bytes (cond t [] (name_in n ∷ []))
    go true = refl
    go false = sym (append-nil (pair_bytes (name_in n)))

pairs-lacking : (c : Content) (ns : List Need) (l : List Bool) → Told c ns l → pairs_for (map name_in ns) l ≡ pairs_bytes (flat (lacking c) ns)
unfolding pairs_for
pairs-lacking c [] [] h = refl
pairs-lacking c [] (x ∷ l) h = absurd h
pairs-lacking c (n ∷ ns) [] h = absurd h
pairs-lacking c (n ∷ ns) (x ∷ l) h =
    ap (λ (y : List ℕ). y ++ pairs_for (map name_in ns) l) (pair-lacking c n x h.0)
    ∙ ap (λ (y : List ℕ). pairs_bytes (lacking c n) ++ y) (pairs-lacking c ns l h.1)
    ∙ sym (flat_append pair_bytes (lacking c n) (flat (lacking c) ns))

-- the sections l of a file, and bytes that stand for the payloads of its lists
module _ (l : List (List ℕ)) (f : IsFile l) where
  pub devices_stand : Stands devices (payload_in DEVICES l) (entries_in DEVICES devices l)
  devices_stand = payload-stands DEVICES devices refl (λ v. refl) l f.are f.once

  pub disks_stand : Stands disks (payload_in DISKS l) (entries_in DISKS disks l)
  disks_stand = payload-stands DISKS disks refl (λ v. refl) l f.are f.once

  pub pairs-missing : pairs_for names (found_in (payload_in DEVICES l) (entries_in DEVICES devices l) (entries_in DISKS disks l)) ≡ pairs_bytes (missing (content_of l))
  pairs-missing =
      let m : List (List ℕ) = entries_in DEVICES devices l in
      let k : List (List ℕ) = entries_in DISKS disks l in
      let v = devices_stand in
      let has = seen_sorted devices.key in
      let disk = seen_sorted disks.key in
      pairs-lacking (content_of l) wanted (found_in (payload_in DEVICES l) m k)
      (has 3 m, (has 4 m, (wrapper_sorted devices.key 6 (payload_in DEVICES l) m v.rest v.cut v.are, (has 13 m, (has 16 m, (has 17 m, (either_sorted devices.key 2 21 m, (disk 0 k, (disk 1 k, tt)))))))))

-- ---- the calls

-- the answer for a file that is refused
module _ (s old : List ℕ) where
  pub ready_refused : {n p : ℕ} → file_of s ≡ refused n p → Tells (ready_call (length old) s) old (record { number = n; ready = 0; place = p }) old
  unfolding ready_call
  ready_refused h = rw h (record { answers = refl; leaves = refl })

  -- and for one that is taken
  pub ready_taken : {l : List (List ℕ)} → file_of s ≡ taken l → ready_call (length old) s ≡ fitting (length old) (pairs_bytes (missing (content_of l)))
  unfolding ready_call
  ready_taken {l} h = ap (λ (o : Outcome (List (List ℕ))). after (after o (λ x. taken (content_of x))) (λ c. fitting (length old) (pairs_bytes (missing c)))) h

-- the file s is taken, and the table of so many bytes names its sections
pub record Tabled (s : List ℕ) (place : ℕ) (table : List ℕ) : Type 0 where
  pub sections : List (List ℕ)
  pub read : file_of s ≡ taken sections
  pub inside : place ≤ length table
  pub names : NamesSections s sections (take place table)

-- the table of the sections of a file, in an output that holds as many as there may be
module _ (s zero : List ℕ) (room : 2048 ≤ length zero) where
  call_taken : {l : List (List ℕ)} → file_of s ≡ taken l → sections_call (length zero) s ≡ taken (section_rows 16 0 l)
  call_taken {l} h =
      let few = (file_sound s h).1.few in
      ap (λ (o : Outcome (List (List ℕ))). after o (λ x. fitting (length zero) (section_rows 16 0 x))) h ∙ taken_fits (length zero) (section_rows 16 0 l) (omega (arith, sections-length 16 0 l))

  call_refused : {n p : ℕ} → file_of s ≡ refused n p → sections_call (length zero) s ≡ refused n p
  call_refused h = ap (λ (o : Outcome (List (List ℕ))). after o (λ x. fitting (length zero) (section_rows 16 0 x))) h

  module _ {r : Answer} {table : List ℕ} (w : Writes (sections_call (length zero) s) zero r table) where
    pub table_refused : (r.number ≡ 0 → ⊥) → (old : List ℕ) → Tells (ready_call (length old) s) old (record { number = r.number; ready = 0; place = r.place }) old
    table_refused h old = go (file_of s) refl
      where
        go : (o : Outcome (List (List ℕ))) → file_of s ≡ o → Tells (ready_call (length old) s) old (record { number = r.number; ready = 0; place = r.place }) old
        go (taken l) e = absurd (h (ap (λ (x : Answer). x.number) (w.answers ∙ ap answer (call_taken e))))
        go (refused n p) e = let q : r ≡ record { number = n; place = p } = w.answers ∙ ap answer (call_refused e) in rw q (ready_refused s old e)

    pub table_taken : r.number ≡ 0 → Bytes s → Tabled s r.place table
    table_taken h y = go (file_of s) refl
      where
        go : (o : Outcome (List (List ℕ))) → file_of s ≡ o → Tabled s r.place table
        go (refused n p) e =
            let q : r.number ≡ n = ap (λ (x : Answer). x.number) (w.answers ∙ ap answer (call_refused e)) in
            absurd (omega (arith, fault_some n (rw e at (file_faulty s))))
        go (taken l) e =
            let b : List ℕ = section_rows 16 0 l in
            let f = file_sound s e in
            let q : r.place ≡ length b = ap (λ (x : Answer). x.place) (w.answers ∙ ap answer (call_taken e)) in
            let t : table ≡ b ++ drop (length b) zero = w.leaves ∙ ap (λ (o : Outcome (List ℕ)). memory o zero) (call_taken e) in
            let part : take r.place table ≡ b = ap (λ (n : ℕ). take n table) q ∙ ap (take (length b)) t ∙ take-append_seam b (drop (length b) zero) in
            let v = section-rows s y (omega (arith, ap length f.0, f.1.short)) 16 0 l (omega (arith, f.1.few)) (ap (drop 16) f.0) f.1.are in
            record { sections = l; read = e; inside = omega (arith, ap length t, length-append b (drop (length b) zero)); names = record { rows = v.rows; bytes = part ∙ v.bytes; names = v.names } }

-- what is found in the payloads of a file that is taken is listed as the call says
pub judged : (s old : List ℕ) (l : List (List ℕ)) → file_of s ≡ taken l → (x y : List ℕ) → x ≡ payload_in DEVICES l → y ≡ payload_in DISKS l
    → {told : List Bool} → ((m k : List (List ℕ)) → Stands devices x m → Stands disks y k → told ≡ found_in x m k)
    → {r : Result ℕ Fault} {new : List ℕ} → WritesCount (fitting (length old) (pairs_for names told)) old r new → WritesCount (ready_call (length old) s) old r new
judged s old l h x y p q {told} n {r} {new} t =
    let f = (file_sound s h).1 in
    let m : List (List ℕ) = entries_in DEVICES devices l in
    let k : List (List ℕ) = entries_in DISKS disks l in
    let e : told ≡ found_in (payload_in DEVICES l) m k = n m k (rw p (devices_stand l f)) (rw q (disks_stand l f)) ∙ ap (λ (z : List ℕ). found_in z m k) p in
    subst (λ (o : Outcome (List ℕ)). WritesCount o old r new) (ap (λ (z : List Bool). fitting (length old) (pairs_for names z)) e ∙ ap (fitting (length old)) (pairs-missing l f) ∙ sym (ready_taken s old h)) t
