-- The parts of a file by the word of `check`: what is kept is taken after those kept before, and what is lost though it is there whole is refused there with its number. CUT is the stop's alone, and a record starts where its part does.
-- Assumes nothing.
use mathlib.Core.Path.{◌≡◌, refl, sym, ◌∙◌, ap, subst}
use mathlib.Core.Logic.{◌≢◌}
use mathlib.Core.List.{List, [], ◌∷◌, ◌++◌, map, append-nil, append_assoc}
use mathlib.Core.Bool.{Bool, true, false, not, ◌||◌, cond}
use Prim.Native.Nat.{ℕ, zero, suc, ◌+◌, ◌-◌, ◌≤◌, ◌<◌}
use native.Mathlib.Omega.{arith}
use lib.ListN.{length, take, drop, length-append, length-drop, take-append-drop}
use lib.Seq.{take-append_seam, drop-append_seam, take_all, drop-drop}
use lib.Dec.{leb, ltb, eqb}
use borrow.Author.Tests.{le-leb, eq-eqb}
use Rattle.answer.specs.Numbers.{CUT, MANY, is_fault}
use Rattle.answer.specs.Outcome.{Outcome, taken, refused, checked, after, moved}
use Rattle.answer.proofs.Checks.{and_true, pass-checked}
use Rattle.order.specs.Keyed.{Every, has}
use Rattle.order.specs.Entries.{join}
use Rattle.order.proofs.Entries.{join-append}
use Rattle.wire.specs.Numbers.{le_at, le}
use Rattle.wire.proofs.Numbers.{le_at-append}
use Rattle.aerosnap.specs.Known.{DEVICES, known, takes, slot}
use Rattle.aerosnap.specs.Payloads.{body_of, payload}
use Rattle.aerosnap.specs.File.{file_most, sections_most, devices_most, header, header_checks, id_of, version_of, flags_of, length_of, payload_of, slot_of, fits_in, known_checks, ruled, section_of, sections, file_of}
use Rattle.aerosnap.specs.Rules.{IsSection}
use Rattle.aerosnap.specs.Salvage.{Part, keeps, loses, bytes_in, kept_by, length_of_part, read_part, part_by, part_of, parts_from, parts_of, all_kept, loss_bytes, loss_row, loss_rows}
use Rattle.aerosnap.proofs.Refusals.{Refuses, after_refuses}
use Rattle.aerosnap.proofs.Named.{is_inner, ruled_inside}
use Rattle.aerosnap.proofs.Sections.{section_complete, ruled_front}
use Rattle.aerosnap.proofs.Slots.{Once, once_middle}
use Rattle.aerosnap.proofs.Taken.{file_complete}
use Rattle.aerosnap.proofs.Rescued.{kept_shorter}
use Rattle.aerosnap.proofs.Parts.{Sound, part_sound, part_stop, part_inside, part_bytes, part_length, parts_cover}

-- ---- outcomes with the same number

-- both are taken, or both refused with the same number
abbrev Alike : {A : Type 0} → Outcome A → Outcome A → Type 0
Alike (taken a) (taken b) = Unit {0}
Alike (taken a) (refused m q) = ⊥
Alike (refused n p) (taken b) = ⊥
Alike (refused n p) (refused m q) = n ≡ m

alike_moved : {A : Type 0} (j k : ℕ) (o : Outcome A) → Alike (moved j o) (moved k o)
alike_moved j k (taken a) = tt
alike_moved j k (refused n p) = refl

alike_stop : {A : Type 0} (o u : Outcome A) → Alike o u → {n p : ℕ} → o ≡ refused n p → (q : ℕ) × (u ≡ refused n q)
alike_stop (taken a) (taken b) h e = let z : ◌≡◌ {A = ℕ} 0 1 = cc in absurd (omega arith)
alike_stop (taken a) (refused m q) h e = elim h [ ]
alike_stop (refused n p) (taken b) h e = elim h [ ]
alike_stop (refused n p) (refused m q) h e = (q, cc (e, h))

alike_after : {A : Type 0} (o u : Outcome (Unit {0})) (a b : A) → Alike o u → Alike (after o (λ _. taken a)) (after u (λ _. taken b))
alike_after (taken x) (taken y) a b h = tt
alike_after (taken x) (refused m q) a b h = elim h [ ]
alike_after (refused n p) (taken y) a b h = elim h [ ]
alike_after (refused n p) (refused m q) a b h = h

-- where a section stands has no part in its number
ruled_alike : (before : List (List ℕ)) (at there id v f : ℕ) (p : List ℕ) → Alike (ruled before at id v f p) (ruled before there id v f p)
unfolding ruled
ruled_alike before at there id v f p = go (known id)
  where
    rows : (a b c d : Bool) → Alike (checked ((a, 10, at + 4) ∷ (b, 5, at + 6) ∷ (c, 9, at) ∷ (d, 12, at + 8) ∷ []) (moved (at + 16) (payload (body_of id v) p)))
        (checked ((a, 10, there + 4) ∷ (b, 5, there + 6) ∷ (c, 9, there) ∷ (d, 12, there + 8) ∷ []) (moved (there + 16) (payload (body_of id v) p)))
    rows false b c d = refl
    rows true false c d = refl
    rows true true false d = refl
    rows true true true false = refl
    rows true true true true = alike_moved (at + 16) (there + 16) (payload (body_of id v) p)

    go : (k : Bool) → Alike {A = Unit {0}} (elim k as (λ _. Outcome (Unit {0})) [ true ↦ checked (known_checks before at id v f p) (moved (at + 16) (payload (body_of id v) p)) | false ↦ taken tt ])
        (elim k as (λ _. Outcome (Unit {0})) [ true ↦ checked (known_checks before there id v f p) (moved (there + 16) (payload (body_of id v) p)) | false ↦ taken tt ])
    go true = rows (takes id v) (eqb f 0) (not (has slot_of (slot id) before)) (not (eqb id DEVICES) || leb (length p) devices_most)
    go false = tt

module _ (before : List (List ℕ)) (e more : List ℕ) (w : length e ≡ 16 + length_of e) where
  fits_front : (fits_in (e ++ more) ≡ true) × (fits_in e ≡ true)
  fits_front =
      let n : length_of (e ++ more) ≡ length_of e = le_at-append 8 e more 8 (omega arith) in
      let l : length (e ++ more) ≡ length e + length more = length-append e more in
      let a : 16 ≤ length (e ++ more) = omega arith in
      let b : length_of (e ++ more) ≤ length (e ++ more) - 16 = omega arith in
      let c : 16 ≤ length e = omega arith in
      let d : length_of e ≤ length e - 16 = omega arith in
      (rw (le-leb 16 (length (e ++ more)) a, le-leb (length_of (e ++ more)) (length (e ++ more) - 16) b), rw (le-leb 16 (length e) c, le-leb (length_of e) (length e - 16) d))

  -- nor what follows it
  section_alike : (at there : ℕ) → Alike (section_of before at (e ++ more)) (section_of before there e)
  unfolding section_of
  section_alike at there =
      let b : List ℕ = e ++ more in
      let f = and_true (leb 16 (length b)) (leb (length_of b) (length b - 16)) fits_front.0 in
      let g = and_true (leb 16 (length e)) (leb (length_of e) (length e - 16)) fits_front.1 in
      let x : Outcome (Unit {0}) = ruled before at (id_of b) (version_of b) (flags_of b) (payload_of b) in
      let y : Outcome (Unit {0}) = ruled before there (id_of e) (version_of e) (flags_of e) (payload_of e) in
      let q : payload_of e ≡ drop 16 e = take_all (length_of e) (drop 16 e) (omega (arith, length-drop 16 e)) in
      let r : Alike x y =
      subst (λ (o : Outcome (Unit {0})). Alike o y) (sym (ruled_front e more w before at))
      (subst (λ (z : List ℕ). Alike (ruled before at (id_of e) (version_of e) (flags_of e) (drop 16 e)) (ruled before there (id_of e) (version_of e) (flags_of e) z)) (sym q) (ruled_alike before at there (id_of e) (version_of e) (flags_of e) (drop 16 e)))
      in
      rw (f.0, f.1, g.0, g.1) (go (ltb (length before) sections_most) x y (alike_after x y (16 + length_of b) (16 + length_of e) r))
    where
      go : (t : Bool) (x y : Outcome (Unit {0})) → Alike (after x (λ _. taken (16 + length_of (e ++ more)))) (after y (λ _. taken (16 + length_of e)))
          → Alike (checked ((true, CUT, at) ∷ (t, MANY, at) ∷ (true, CUT, at) ∷ []) (after x (λ _. taken (16 + length_of (e ++ more))))) (checked ((true, CUT, there) ∷ (t, MANY, there) ∷ (true, CUT, there) ∷ []) (after y (λ _. taken (16 + length_of e))))
      go true x y h = h
      go false x y h = refl

-- a section that is there whole is not refused with CUT
whole_inner : (before : List (List ℕ)) (at : ℕ) (b : List ℕ) → fits_in b ≡ true → {n p : ℕ} → section_of before at b ≡ refused n p → n ≢ CUT
unfolding section_of
whole_inner before at b h {n} {p} e =
    let f = and_true (leb 16 (length b)) (leb (length_of b) (length b - 16)) h in
    let x : Outcome (Unit {0}) = ruled before at (id_of b) (version_of b) (flags_of b) (payload_of b) in
    let r = after_refuses (λ m. is_inner m ≡ true) x (λ _. taken (16 + length_of b)) (ruled_inside before at (id_of b) (version_of b) (flags_of b) (payload_of b)) (λ _. tt) in
    go (ltb (length before) sections_most) (after x (λ _. taken (16 + length_of b))) r (rw (f.0, f.1) at e)
  where
    no : (m : ℕ) → is_inner m ≡ true → m ≢ CUT
    no m q z = let y : not (eqb m CUT) ≡ true = (and_true (is_fault m) (not (eqb m CUT)) q).1 in let u : ◌≡◌ {A = ℕ} 0 1 = cc (eq-eqb m CUT z) in omega arith

    go : (t : Bool) (o : Outcome ℕ) → Refuses (λ m. is_inner m ≡ true) o → checked ((true, CUT, at) ∷ (t, MANY, at) ∷ (true, CUT, at) ∷ []) o ≡ refused n p → n ≢ CUT
    go true (taken w) r q = let z : ◌≡◌ {A = ℕ} 0 1 = cc in absurd (omega arith)
    go true (refused m k) r q = let z : m ≡ n = cc in λ u. no m r (z ∙ u)
    go false o r q = let z : MANY ≡ n = cc in λ u. omega arith

-- ---- a part among those of its file

-- how many bytes parts have
abbrev pub span : List Part → ℕ
span l = length (join (map bytes_in l))

-- the part behind others: what was kept before it may stand in a file, and it begins the bytes that are left
pub record Follows (before : List (List ℕ)) (at : ℕ) (x : Part) (more : List Part) : Type 0 where
  pub rest : List ℕ
  pub cut : rest ≡ bytes_in x ++ join (map bytes_in more)
  pub some : 0 < length rest
  pub is : x ≡ part_of before at rest
  pub sound : Sound before

parts_split : (done : List Part) (n : ℕ) (before : List (List ℕ)) (at : ℕ) (b : List ℕ) (x : Part) (more : List Part) → length b ≤ n → Sound before → parts_from n before at b ≡ done ++ (x ∷ more)
    → Follows (before ++ all_kept done) (at + span done) x more
unfolding parts_from
parts_split done zero before at b x more i v e = absurd (omega (arith, ap length e, length-append done (x ∷ more)))
parts_split done (suc n) before at [] x more i v e = absurd (omega (arith, ap length e, length-append done (x ∷ more)))
parts_split [] (suc n) before at (c ∷ b) x more i v e =
    let q : part_of before at (c ∷ b) ≡ x = cc in
    let k : join (map bytes_in (x ∷ more)) ≡ c ∷ b = ap (λ (l : List Part). join (map bytes_in l)) (sym e) ∙ parts_cover (suc n) before at (c ∷ b) i in
    let z : at + 0 ≡ at = omega arith in
    rw (append-nil before, z) (record { rest = c ∷ b; cut = sym k; some = omega arith; is = sym q; sound = v })
parts_split (y ∷ done) (suc n) before at (c ∷ b) x more i v e =
    let p : Part = part_of before at (c ∷ b) in
    let q : p ≡ y = cc in
    let l : length (bytes_in p) ≡ length_of_part (c ∷ b) = part_length before at (c ∷ b) (omega arith) in
    let m = part_inside (c ∷ b) (omega arith) in
    let r : parts_from n (before ++ kept_by p) (at + length (bytes_in p)) (drop (length (bytes_in p)) (c ∷ b)) ≡ done ++ (x ∷ more) = cc in
    let u = parts_split done n (before ++ kept_by p) (at + length (bytes_in p)) (drop (length (bytes_in p)) (c ∷ b)) x more (omega (arith, length-drop (length (bytes_in p)) (c ∷ b))) (part_sound before at (c ∷ b) (omega arith) v) r in
    let z : (before ++ kept_by p) ++ all_kept done ≡ before ++ all_kept (y ∷ done) = append_assoc before (kept_by p) (all_kept done) ∙ ap (λ (t : Part). before ++ (kept_by t ++ all_kept done)) q in
    let w : at + length (bytes_in p) + span done ≡ at + span (y ∷ done) = omega (arith, length-append (bytes_in y) (join (map bytes_in done)), ap (λ (t : Part). length (bytes_in t)) q) in
    subst (λ (k : List (List ℕ)). Follows k (at + span (y ∷ done)) x more) z (subst (λ (k : ℕ). Follows ((before ++ kept_by p) ++ all_kept done) k x more) w u)

-- ---- what `check` says of it

-- past sections that follow the rules the walk goes on behind them
sections_past : (l : List (List ℕ)) (n : ℕ) (before : List (List ℕ)) (at : ℕ) (more : List ℕ) → length l ≤ n → length before + length l ≤ sections_most → Every IsSection l → Once (before ++ l)
    → sections n before at (join l ++ more) ≡ sections (n - length l) (before ++ l) (at + length (join l)) more
unfolding sections
sections_past [] n before at more i j a d = let z : at + 0 ≡ at = omega arith in let y : n - 0 ≡ n = omega arith in rw (append-nil before, z, y)
sections_past (e ∷ l) zero before at more i j a d = absurd (omega arith)
sections_past ([] ∷ l) (suc n) before at more i j a d = absurd (omega (arith, a.0.whole))
sections_past ((c ∷ e) ∷ l) (suc n) before at more i j a d =
    let x : List (List ℕ) = before ++ ((c ∷ e) ∷ []) in
    let q : x ++ l ≡ before ++ ((c ∷ e) ∷ l) = append_assoc before ((c ∷ e) ∷ []) l in
    let k : (c ∷ e) ++ join l ++ more ≡ (c ∷ e) ++ (join l ++ more) = append_assoc (c ∷ e) (join l) more in
    let u : sections (suc n) before at ((c ∷ e) ++ (join l ++ more)) ≡ sections n x (at + length (c ∷ e)) (join l ++ more) =
    rw (section_complete before at (c ∷ e) (join l ++ more) (omega arith) a.0 (once_middle (c ∷ e) before l d), drop-append_seam (c ∷ e) (join l ++ more), take-append_seam (c ∷ e) (join l ++ more)) refl
    in
    let r = sections_past l n x (at + length (c ∷ e)) more (omega arith) (omega (arith, length-append before ((c ∷ e) ∷ []))) a.1 (subst Once (sym q) d) in
    let w : at + length (c ∷ e) + length (join l) ≡ at + length ((c ∷ e) ++ join l) = omega (arith, length-append (c ∷ e) (join l)) in
    let y : n - length l ≡ suc n - length ((c ∷ e) ∷ l) = omega arith in
    ap (sections (suc n) before at) k ∙ u ∙ r ∙ ap (λ (t : List (List ℕ)). sections (n - length l) t (at + length (c ∷ e) + length (join l)) more) q ∙ cc (w, y)

-- a section that is refused after others is refused in the file of these and it
refused_behind : (before : List (List ℕ)) (e : List ℕ) → Sound before → length e ≡ 16 + length_of e → length (header ++ join (before ++ (e ∷ []))) ≤ file_most
    → {n p : ℕ} → section_of before (16 + length (join before)) e ≡ refused n p → file_of (header ++ join (before ++ (e ∷ []))) ≡ refused n p
unfolding file_of sections le_at le
refused_behind before e v w short {n} {p} h =
    let b : List ℕ = join (before ++ (e ∷ [])) in
    let q : b ≡ join before ++ e = join-append before (e ∷ []) ∙ ap (λ (t : List ℕ). join before ++ t) (append-nil e) in
    pass-checked (header_checks (header ++ b)) (sections sections_most [] 16 b)
    (le-leb (length (header ++ b)) file_most short, (le-leb 16 (length (header ++ b)) (omega arith), (refl, (refl, (refl, (refl, (refl, tt)))))))
    ∙ ap (sections sections_most [] 16) q
    ∙ sections_past before sections_most [] 16 e v.few (omega (arith, v.few)) v.are v.once
    ∙ stop (sections_most - length before) e (omega arith) h
  where
    stop : (k : ℕ) (e : List ℕ) → 0 < length e → section_of before (16 + length (join before)) e ≡ refused n p → sections k before (16 + length (join before)) e ≡ refused n p
    stop k [] i r = absurd (omega arith)
    stop zero (c ∷ e) i r = rw r
    stop (suc k) (c ∷ e) i r = rw r

-- ---- the parts of a file

-- how many bytes parts have together
span-append : (l m : List Part) → span (l ++ m) ≡ span l + span m
span-append [] m = omega arith
span-append (x ∷ l) m = omega (arith, span-append l m, length-append (bytes_in x) (join (map bytes_in (l ++ m))), length-append (bytes_in x) (join (map bytes_in l)))

-- no part is empty
never_empty : (n : ℕ) (before : List (List ℕ)) (at : ℕ) (b : List ℕ) → Every (λ x. 0 < length (bytes_in x)) (parts_from n before at b)
unfolding parts_from
never_empty zero before at b = tt
never_empty (suc n) before at [] = tt
never_empty (suc n) before at (c ∷ b) =
    let x : Part = part_of before at (c ∷ b) in
    (omega (arith, part_length before at (c ∷ b) (omega arith), (part_inside (c ∷ b) (omega arith)).0), never_empty n (before ++ kept_by x) (at + length (bytes_in x)) (drop (length (bytes_in x)) (c ∷ b)))

-- a part fits exactly if what it begins does
module _ (before : List (List ℕ)) (at : ℕ) (b : List ℕ) (i : 0 < length b) where
  pub part_whole : fits_in b ≡ true → length (bytes_in (part_of before at b)) ≡ 16 + length_of (bytes_in (part_of before at b))
  part_whole f =
      let e : List ℕ = bytes_in (part_of before at b) in
      let l : length e ≡ 16 + length_of b = part_length before at b i ∙ ap (λ (t : Bool). cond t (16 + length_of b) (length b)) f in
      let q : e ≡ take (16 + length_of b) b = part_bytes before at b ∙ ap (λ (t : Bool). take (cond t (16 + length_of b) (length b)) b) f in
      let s : b ≡ e ++ drop (16 + length_of b) b = sym (take-append-drop (16 + length_of b) b) ∙ ap (λ (t : List ℕ). t ++ drop (16 + length_of b) b) (sym q) in
      let n : length_of b ≡ length_of e = ap length_of s ∙ le_at-append 8 e (drop (16 + length_of b) b) 8 (omega arith) in
      l ∙ ap (λ (x : ℕ). 16 + x) n

  part_all : fits_in b ≡ false → bytes_in (part_of before at b) ≡ b
  part_all f = ap bytes_in (part_stop before at b f)

  part_fits : fits_in (bytes_in (part_of before at b)) ≡ fits_in b
  part_fits = go (fits_in b) refl
    where
      go : (t : Bool) → fits_in b ≡ t → fits_in (bytes_in (part_of before at b)) ≡ fits_in b
      go true f = (fits_front before (bytes_in (part_of before at b)) [] (part_whole f)).1 ∙ sym f
      go false f = ap fits_in (part_all f)

  part_number : {n : ℕ} {e : List ℕ} → part_of before at b ≡ loses n e → fits_in b ≡ true → (p : ℕ) × (section_of before at b ≡ refused n p)
  unfolding part_of
  part_number {n} {e} q f = go (section_of before at b) refl
    where
      go : (o : Outcome ℕ) → section_of before at b ≡ o → (p : ℕ) × (section_of before at b ≡ refused n p)
      go (taken w) h =
          let z : part_by (read_part before at b) (take (length_of_part b) b) ≡ keeps (take (length_of_part b) b) = rw (f, h) refl in
          let u : keeps (take (length_of_part b) b) ≡ loses n e = sym z ∙ q in
          let y : ◌≡◌ {A = ℕ} 0 1 = cc in absurd (omega arith)
      go (refused m p) h =
          let z : part_by (read_part before at b) (take (length_of_part b) b) ≡ loses m (take (length_of_part b) b) = rw (f, h) refl in
          let u : loses m (take (length_of_part b) b) ≡ loses n e = sym z ∙ q in
          let k : m ≡ n = cc in (p, h ∙ ap (λ (y : ℕ). refused y p) k)

module _ (s : List ℕ) (short : length s ≤ file_most) (long : 16 ≤ length s) where
  follows : (done : List Part) (x : Part) (more : List Part) → parts_of s ≡ done ++ (x ∷ more) → Follows (all_kept done) (16 + span done) x more
  follows done x more e = parts_split done (length s) [] 16 (drop 16 s) x more (omega (arith, length-drop 16 s)) (record { few = omega arith; are = tt; once = tt }) e

  spans : (done : List Part) (x : Part) (more : List Part) → parts_of s ≡ done ++ (x ∷ more) → length (header ++ join (all_kept done ++ (bytes_in x ∷ []))) ≤ file_most
  spans done x more e =
      let k = ap (λ (l : List Part). span l) e in
      let c = ap length (parts_cover (length s) [] 16 (drop 16 s) (omega (arith, length-drop 16 s))) in
      omega (
        arith,
        k,
        c,
        length-drop 16 s,
        kept_shorter done,
        span-append done (x ∷ more),
        length-append (bytes_in x) (join (map bytes_in more)),
        ap length (join-append (all_kept done) (bytes_in x ∷ [])),
        length-append (join (all_kept done)) (bytes_in x ++ []),
        length-append (bytes_in x) [],
        length-append header (join (all_kept done ++ (bytes_in x ∷ []))),
      )

  -- A part stands in the file behind those before it.
  pub part_stands : (done : List Part) (x : Part) (more : List Part) → parts_of s ≡ done ++ (x ∷ more) → (take (length (bytes_in x)) (drop (16 + span done) s) ≡ bytes_in x) × (16 + span done + length (bytes_in x) ≤ length s)
  part_stands done x more h =
      let c = parts_cover (length s) [] 16 (drop 16 s) (omega (arith, length-drop 16 s)) in
      let q : drop 16 s ≡ join (map bytes_in done) ++ (bytes_in x ++ join (map bytes_in more)) = sym c ∙ ap (λ (l : List Part). join (map bytes_in l)) h ∙ parted done in
      let r : drop (16 + span done) s ≡ bytes_in x ++ join (map bytes_in more) = sym (drop-drop (span done) 16 s) ∙ ap (drop (span done)) q ∙ drop-append_seam (join (map bytes_in done)) (bytes_in x ++ join (map bytes_in more)) in (
        ap (take (length (bytes_in x))) r ∙ take-append_seam (bytes_in x) (join (map bytes_in more)),
        omega (arith, ap length q, length-append (join (map bytes_in done)) (bytes_in x ++ join (map bytes_in more)), length-append (bytes_in x) (join (map bytes_in more)), length-drop 16 s),
      )
    where
      parted : (l : List Part) → join (map bytes_in (l ++ (x ∷ more))) ≡ join (map bytes_in l) ++ (bytes_in x ++ join (map bytes_in more))
      parted [] = refl
      parted (y ∷ l) = ap (λ (t : List ℕ). bytes_in y ++ t) (parted l) ∙ sym (append_assoc (bytes_in y) (join (map bytes_in l)) (bytes_in x ++ join (map bytes_in more)))

  -- What is kept is taken by `check`, after those kept before.
  pub kept_taken : (done more : List Part) (e : List ℕ) → parts_of s ≡ done ++ (keeps e ∷ more) → file_of (header ++ join (all_kept done ++ (e ∷ []))) ≡ taken (all_kept done ++ (e ∷ []))
  kept_taken done more e h =
      let v = follows done (keeps e) more h in
      let w = subst (λ (x : Part). Sound (all_kept done ++ kept_by x)) (sym v.is) (part_sound (all_kept done) (16 + span done) v.rest v.some v.sound) in
      file_complete (all_kept done ++ (e ∷ [])) (record { few = w.few; short = spans done (keeps e) more h; are = w.are; once = w.once })

  module _ (done more : List Part) (n : ℕ) (e : List ℕ) (h : parts_of s ≡ done ++ (loses n e ∷ more)) where
    here : Follows (all_kept done) (16 + span done) (loses n e) more
    here = follows done (loses n e) more h

    same_fit : fits_in e ≡ fits_in here.rest
    same_fit = ap (λ (x : Part). fits_in (bytes_in x)) here.is ∙ part_fits (all_kept done) (16 + span done) here.rest here.some

    -- A whole section that is lost is refused by `check` with its number, after those kept before; and that is not CUT.
    pub lost_refused : fits_in e ≡ true → (n ≢ CUT) × ((p : ℕ) × (file_of (header ++ join (all_kept done ++ (e ∷ []))) ≡ refused n p))
    lost_refused f =
        let g : fits_in here.rest ≡ true = sym same_fit ∙ f in
        let w : length e ≡ 16 + length_of e = subst (λ (x : Part). length (bytes_in x) ≡ 16 + length_of (bytes_in x)) (sym here.is) (part_whole (all_kept done) (16 + span done) here.rest here.some g) in
        let r = part_number (all_kept done) (16 + span done) here.rest here.some (sym here.is) g in
        let u = subst (λ (b : List ℕ). section_of (all_kept done) (16 + span done) b ≡ refused n r.0) here.cut r.1 in
        let y = alike_stop (section_of (all_kept done) (16 + span done) (e ++ join (map bytes_in more))) (section_of (all_kept done) (16 + length (join (all_kept done))) e)
        (section_alike (all_kept done) e (join (map bytes_in more)) w (16 + span done) (16 + length (join (all_kept done)))) u
        in
        (whole_inner (all_kept done) (16 + span done) here.rest g r.1, (y.0, refused_behind (all_kept done) e here.sound w (spans done (loses n e) more h) y.1))

    -- What is not there whole is the stop: its number is CUT, and nothing comes behind it.
    pub lost_stop : fits_in e ≡ false → (n ≡ CUT) × (more ≡ [])
    lost_stop f =
        let g : fits_in here.rest ≡ false = sym same_fit ∙ f in
        let q : loses n e ≡ loses CUT here.rest = here.is ∙ part_stop (all_kept done) (16 + span done) here.rest g in
        let a : n ≡ CUT = cc in
        let b : e ≡ here.rest = cc in
        (a, none more (omega (arith, ap length here.cut, length-append e (join (map bytes_in more)), ap length b)) some)
      where
        some : Every (λ x. 0 < length (bytes_in x)) more
        some = behind done (loses n e) more (subst (Every (λ x. 0 < length (bytes_in x))) h (never_empty (length s) [] 16 (drop 16 s)))
          where
            behind : (l : List Part) (x : Part) (m : List Part) → Every (λ x. 0 < length (bytes_in x)) (l ++ (x ∷ m)) → Every (λ x. 0 < length (bytes_in x)) m
            behind [] x m h = h.1
            behind (y ∷ l) x m h = behind l x m h.1

        none : (l : List Part) → span l ≡ 0 → Every (λ x. 0 < length (bytes_in x)) l → l ≡ []
        none [] i a = refl
        none (x ∷ l) i a = absurd (omega (arith, a.0, length-append (bytes_in x) (join (map bytes_in l))))

    -- Its bytes stand in the file where its record says.
    pub lost_stands : take (length e) (drop (16 + span done) s) ≡ e
    lost_stands = (part_stands done (loses n e) more h).0

-- The record of a loss among those of its file: it starts where the part does.
pub row_stands : (done more : List Part) (n : ℕ) (e : List ℕ) (at : ℕ) → loss_rows at (done ++ (loses n e ∷ more)) ≡ loss_rows at done ++ (loss_bytes (at + span done) (length e) n ∷ loss_rows (at + span done + length e) more)
row_stands [] more n e at = let z : at + 0 ≡ at = omega arith in rw z refl
row_stands (x ∷ l) more n e at =
    let k : at + length (bytes_in x) + span l ≡ at + span (x ∷ l) = omega (arith, length-append (bytes_in x) (join (map bytes_in l))) in
    ap (λ (t : List (List ℕ)). loss_row at x ++ t) (row_stands l more n e (at + length (bytes_in x)) ∙ ap (λ (j : ℕ). loss_rows (at + length (bytes_in x)) l ++ (loss_bytes j (length e) n ∷ loss_rows (j + length e) more)) k)
    ∙ sym (append_assoc (loss_row at x) (loss_rows (at + length (bytes_in x)) l) (loss_bytes (at + span (x ∷ l)) (length e) n ∷ loss_rows (at + span (x ∷ l) + length e) more))
