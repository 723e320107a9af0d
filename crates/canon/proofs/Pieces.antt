-- One section as it is written: by its starts, whatever they are; and that these are the bytes of the canonical form where they are the section's own.
-- Assumes nothing.
use mathlib.Core.Path.{◌≡◌, refl, sym, ◌∙◌, ap, subst}
use mathlib.Core.List.{List, [], ◌++◌, map, append_assoc}
use mathlib.Core.Bool.{Bool, true, false, cond}
use mathlib.Core.Logic.{◌≢◌, ◌⊎◌, inl, inr}
use Prim.Native.Nat.{ℕ, ◌+◌, ◌-◌, ◌≤◌, ◌<◌}
use native.Mathlib.Omega.{arith}
use lib.ListN.{length, take, drop, length-append, length-drop, take-append-drop}
use lib.Seq.{take-add, take_all, length-take-le, get_or-drop}
use lib.Dec.{eqb, leb}
use borrow.Author.Tests.{eq-eqb, ne_eqb, leb-true, leb-false, le-leb, lt-leb}
use Rattle.answer.specs.Outcome.{taken}
use Rattle.wire.specs.Numbers.{Bytes, le_at, bytes_of}
use Rattle.wire.specs.Parts.{put, Wrote}
use Rattle.wire.proofs.Numbers.{bytes_of-le_at}
use Rattle.wire.proofs.Parts.{none, tail_whole}
use Rattle.wire.proofs.Filling.{Filling, filling_room, filling_done}
use Rattle.order.specs.Entries.{join}
use Rattle.entries.specs.Kinds.{Description}
use Rattle.entries.proofs.Lawful.{Lawful}
use Rattle.lists.specs.Lists.{whole, tail_of}
use Rattle.lists.proofs.Ordered.{list_order}
use Rattle.writer.specs.Runs.{entry_by, fits, in_key_order, by_starts}
use Rattle.writer.specs.Steps.{Listed, sorted_bytes}
use Rattle.writer.proofs.Runs.{run}
use Rattle.writer.proofs.Fits.{wrote_first, fits-within}
use Rattle.writer.proofs.Straight.{straight_bytes}
use Rattle.writer.proofs.Whole.{sorted_is, by-starts}
use Rattle.aerosnap.specs.Payloads.{Body, meta, cpu, mmu, list, opaque, body_of}
use Rattle.aerosnap.specs.File.{id_of, version_of}
use Rattle.aerosnap.proofs.Bodies.{Lawfully, lawful_body}
use Rattle.aerosnap.proofs.Copies.{is_list_body, plain_written, list_written}
use Rattle.sections.specs.Index.{starts_of}
use Rattle.sections.proofs.Reading.{body_list, starts_list, starts_long}
use Rattle.canon.specs.Ranks.{list_by, section_by, bytes_by}
use Rattle.canon.specs.Steps.{bytes_for, WholeSection}

pub as_list : (e : List ℕ) {id v : ℕ} {d : Description} → id ≡ id_of e → v ≡ version_of e → body_of id v ≡ list d → body_of (id_of e) (version_of e) ≡ list d
as_list e {id} i j h = ap (λ (n : ℕ). body_of n (version_of e)) (sym i) ∙ ap (body_of id) (sym j) ∙ h

-- ---- as long as the section, or nothing

pub whole-none : (have : ℕ) → whole have [] ≡ []
whole-none have = rw (le-leb 0 have (omega arith)) refl

starts_size : (d : Description) (s l : List ℕ) → length (by_starts d s l) ≡ length s
starts_size d s l = go (leb 4 (length s)) refl
  where
    e : List ℕ
    e = join (fits (length s - 4) (map (entry_by d s) l))

    sum : length (by_starts d s l) ≡ length (take 4 s) + (length e + (length s - (4 + length e)))
    sum = omega (arith, length-append (take 4 s) (e ++ drop (4 + length e) s), length-append e (drop (4 + length e) s), length-drop (4 + length e) s)

    go : (b : Bool) → leb 4 (length s) ≡ b → length (by_starts d s l) ≡ length s
    go true h = let n = leb-true 4 (length s) h in omega (arith, sum, n, length-take-le 4 s n, fits-within (length s - 4) (map (entry_by d s) l))
    go false h = let n = leb-false 4 (length s) h in let k : length s ≤ 4 = omega (arith, n) in omega (arith, sum, n, ap length (take_all 4 s k), fits-within (length s - 4) (map (entry_by d s) l))

module _ (e l : List ℕ) (long : 16 ≤ length e) where
  around_size : (d : Description) → length (take 16 e ++ by_starts d (drop 16 e) l) ≡ length e
  around_size d = omega (arith, length-append (take 16 e) (by_starts d (drop 16 e) l), length-take-le 16 e long, starts_size d (drop 16 e) l, length-drop 16 e)

  section_size : (b : Body) → (section_by b e l ≡ []) ⊎ (length (section_by b e l) ≡ length e)
  section_size meta = inr refl
  section_size (cpu v) = inr refl
  section_size (mmu v) = inr refl
  section_size (list d) = go (eqb (length e) 20) (in_key_order l)
    where
      go : (a b : Bool) → (cond a [] (cond b e (take 16 e ++ by_starts d (drop 16 e) l)) ≡ []) ⊎ (length (cond a [] (cond b e (take 16 e ++ by_starts d (drop 16 e) l))) ≡ length e)
      go true b = inl refl
      go false true = inr refl
      go false false = inr (around_size d)
  section_size opaque = inr refl

  -- into so many bytes
  module _ (old : List ℕ) where
    pub section_none : length old < length e → Wrote (whole (length old) (bytes_by e l)) old old 0
    section_none h = go (section_size (body_of (id_of e) (version_of e)))
      where
        go : (bytes_by e l ≡ []) ⊎ (length (bytes_by e l) ≡ length e) → Wrote (whole (length old) (bytes_by e l)) old old 0
        go (inl q) = rw (q, whole-none (length old)) (none old)
        go (inr q) = rw (lt-leb (length (bytes_by e l)) (length old) (omega (arith, q))) (none old)

    pub section_wrote : length e ≤ length old → {b : Body} → body_of (id_of e) (version_of e) ≡ b → {new : List ℕ} {r : ℕ} → Wrote (section_by b e l) old new r → Wrote (whole (length old) (bytes_by e l)) old new r
    section_wrote h {b} q {new} {r} w = go (section_size b)
      where
        go : (section_by b e l ≡ []) ⊎ (length (section_by b e l) ≡ length e) → Wrote (whole (length old) (bytes_by e l)) old new r
        go (inl z) = let n : length (section_by b e l) ≤ length old = omega (arith, ap length z) in rw (q, le-leb (length (section_by b e l)) (length old) n) w
        go (inr z) = let n : length (section_by b e l) ≤ length old = omega (arith, z) in rw (q, le-leb (length (section_by b e l)) (length old) n) w

    -- one that is no list
    pub section_copied : length e ≤ length old → is_list_body (body_of (id_of e) (version_of e)) ≡ false → {new : List ℕ} → new ≡ put 0 e old → Wrote (whole (length old) (bytes_by e l)) old new (length e)
    section_copied h i {new} p = go (body_of (id_of e) (version_of e)) refl i
      where
        go : (b : Body) → body_of (id_of e) (version_of e) ≡ b → is_list_body b ≡ false → Wrote (whole (length old) (bytes_by e l)) old new (length e)
        go meta q i = section_wrote h q (wrote_first h p)
        go (cpu v) q i = section_wrote h q (wrote_first h p)
        go (mmu v) q i = section_wrote h q (wrote_first h p)
        go (list d) q i = let z : ◌≡◌ {A = ℕ} 0 1 = cc in absurd (omega arith)
        go opaque q i = section_wrote h q (wrote_first h p)

    -- a list
    module _ (d : Description) (room : length e ≤ length old) where
      pub listed-none : length e ≡ 20 → Wrote (list_by d e l) old old 0
      listed-none z = rw (eq-eqb (length e) 20 z) (none old)

      module _ (z : length e ≢ 20) where
        pub listed_straight : in_key_order l ≡ true → {new : List ℕ} → new ≡ put 0 e old → Wrote (list_by d e l) old new (length e)
        listed_straight o q = rw (ne_eqb (length e) 20 z, o) (wrote_first room q)

        module _ (o : in_key_order l ≡ false) {m : List ℕ} (q : m ≡ put 0 (take 16 e) old) where
          parts : list_by d e l ≡ take 16 e ++ by_starts d (drop 16 e) l
          parts = rw (ne_eqb (length e) 20 z, o) refl

          pub listed-head : Filling (list_by d e l) old (by_starts d (drop 16 e) l) 16 m
          listed-head =
              let n : length (take 16 e) ≡ 16 = length-take-le 16 e long in
              let f = wrote_first {bs = take 16 e} (omega (arith, n)) q in
              record { part = take 16 e; whole = parts; room = omega (arith, ap length parts, around_size d); wrote = record { count = sym n; bytes = f.bytes } }

          pub listed_wrote : {last : List ℕ} {n : ℕ}
              → Wrote (cond (leb (length (take (length e - 16) (drop 16 e))) (length (take (length m - 16) (drop 16 m)))) (by_starts d (take (length e - 16) (drop 16 e)) l) []) (take (length m - 16) (drop 16 m)) last n
              → Wrote (list_by d e l) old (take 16 m ++ (last ++ drop (length m - 16) (drop 16 m))) (length e)
          listed_wrote {last} {n} x =
              let fit : length (drop 16 e) ≤ length (take (length m - 16) (drop 16 m)) = omega (arith, filling_room listed-head, starts_size d (drop 16 e) l) in
              let w : Wrote (by_starts d (drop 16 e) l) (take (length m - 16) (drop 16 m)) last n = rw (le-leb (length (drop 16 e)) (length (take (length m - 16) (drop 16 m))) fit) at (rw (tail_whole 16 e) at x) in
              record { count = sym (ap length parts ∙ around_size d); bytes = (filling_done listed-head w).bytes }

-- ---- where the starts are the section's own

module _ {e l : List ℕ} (w : WholeSection e) (own : l ≡ starts_of e) (y : Bytes e) where
  module _ {d : Description} (form : body_of (id_of e) (version_of e) ≡ list d) where
    K : Lawful d
    K = subst Lawfully form (lawful_body (id_of e) (version_of e))

    list_long : 20 ≤ length e
    list_long = omega (arith, (body_list e w.is form).count, length-drop 16 e)

    abbrev p : List ℕ
    p = drop 16 e

    listed : Listed d p l
    listed = record { short = omega (arith, w.small, length-drop 16 e); list = starts_list e w.is form ∙ ap taken (sym own) }

    payload-bytes : Bytes p
    payload-bytes j = rw (get_or-drop 16 e j 0) (y (16 + j))

    written : bytes_for e ≡ cond (eqb (length e) 20) [] (take 20 e ++ (run d p l ++ tail_of d p))
    written = list_written e form K w.is y ∙ ap (λ (m : List (List ℕ)). cond (eqb (length e) 20) [] (take 20 e ++ (join m ++ tail_of d p))) (sym (list_order K p listed.list))

    -- the count, the run and the tail are the list in the order of its keys
    head_and_list : take 20 e ++ (run d p l ++ tail_of d p) ≡ take 16 e ++ sorted_bytes d p
    head_and_list =
        let n : length l ≡ le_at 4 e 16 = ap length own ∙ starts_long e w.is form in
        let c : bytes_of 4 (length l) ≡ take 4 p = ap (bytes_of 4) n ∙ bytes_of-le_at 4 e 16 y (omega (arith, list_long)) in
        ap (λ (t : List ℕ). t ++ (run d p l ++ tail_of d p)) (take-add 16 4 e)
        ∙ append_assoc (take 16 e) (take 4 p) (run d p l ++ tail_of d p)
        ∙ ap (λ (t : List ℕ). take 16 e ++ (t ++ (run d p l ++ tail_of d p))) (sym c)
        ∙ ap (λ (t : List ℕ). take 16 e ++ t) (sym (append_assoc (bytes_of 4 (length l)) (run d p l) (tail_of d p)) ∙ sym (sorted_is K listed))

    list_is : list_by d e l ≡ bytes_for e
    list_is = go (eqb (length e) 20) (in_key_order l) refl ∙ sym written
      where
        go : (a b : Bool) → in_key_order l ≡ b → cond a [] (cond b e (take 16 e ++ by_starts d p l)) ≡ cond a [] (take 20 e ++ (run d p l ++ tail_of d p))
        go true b o = refl
        go false true o = sym (head_and_list ∙ ap (λ (t : List ℕ). take 16 e ++ t) (straight_bytes K listed o payload-bytes) ∙ take-append-drop 16 e)
        go false false o = ap (λ (t : List ℕ). take 16 e ++ t) (by-starts K listed payload-bytes) ∙ sym head_and_list

  pub section_is : bytes_by e l ≡ bytes_for e
  section_is = go (body_of (id_of e) (version_of e)) refl
    where
      plain : is_list_body (body_of (id_of e) (version_of e)) ≡ false → e ≡ bytes_for e
      plain h = sym (plain_written e h)

      go : (b : Body) → body_of (id_of e) (version_of e) ≡ b → section_by b e l ≡ bytes_for e
      go meta q = plain (ap is_list_body q)
      go (cpu v) q = plain (ap is_list_body q)
      go (mmu v) q = plain (ap is_list_body q)
      go (list d) q = list_is q
      go opaque q = plain (ap is_list_body q)
