-- TEXT of a whole file points at the byte at which one of its texts breaks: through formats, lists, payloads and sections, as the place is counted on the way.
-- Assumes nothing.
use mathlib.Core.Path.{◌≡◌, refl, ◌∙◌, ap}
use mathlib.Core.Logic.{◌≢◌, ◌⊎◌, inl, inr}
use mathlib.Core.Bool.{Bool, true, false, not, ◌&&◌}
use mathlib.Core.List.{List, [], ◌∷◌, ◌++◌}
use Prim.Native.Nat.{ℕ, zero, suc, ◌+◌, ◌-◌, ◌≤◌}
use native.Mathlib.Omega.{arith}
use lib.Dec.{leb, eqb}
use lib.ListN.{length, take, drop, length-drop, length-append, take-append-drop}
use lib.Seq.{drop-drop, drop-append-le, take-append-le}
use borrow.Author.Tests.{leb-true}
use Rattle.answer.specs.Numbers.{SHAPE, KEY, TEXT, VALUE}
use Rattle.answer.specs.Outcome.{Outcome, taken, refused, Checks, checked, Pass, after, moved, shift}
use Rattle.answer.specs.Calls.{asked}
use Rattle.answer.proofs.Checks.{append-pass}
use Rattle.answer.proofs.Outcomes.{taken_refused}
use Rattle.wire.specs.Numbers.{le_at}
use Rattle.wire.proofs.Numbers.{le_at-drop, le_at-append}
use Rattle.utf8.specs.Scan.{is_text, break_at}
use Rattle.utf8.proofs.Reading.{breaks_at}
use Rattle.format.specs.Format.{Format, block, sized, option, pair, sized_checks, option_checks, utf8, text, values, read}
use Rattle.order.specs.Keyed.{insert, has, Every}
use Rattle.order.proofs.Folds.{every_append}
use Rattle.entries.specs.States.{cpu_values, cpu_state, cpu_sized, extends, held_checks, mmu_length}
use Rattle.format.specs.Format as form
use Rattle.entries.specs.Kinds.{Description, lead_checks, devices, disks, cpus, mmus}
use Rattle.lists.specs.Lists.{key_at, entry_checks, entry_at, end_checks, walk, count_checks, list_at}
use Rattle.aerosnap.specs.Known.{known}
use Rattle.aerosnap.proofs.Bodies.{body_cases}
use Rattle.aerosnap.specs.Payloads.{meta_form, Body, meta, cpu, mmu, list, opaque, known_bodies, body_of, payload}
use Rattle.aerosnap.specs.File.{sections_most, header_checks, id_of, version_of, flags_of, length_of, payload_of, frame_checks, known_checks, ruled, section_of, sections, file_of}
use Rattle.demands.specs.Text.{Pointer}

-- ---- outcomes
-- no row is TEXT; what is refused is not TEXT; what is refused as TEXT is refused where a text of s breaks
abbrev Quiet : Checks → Type 0
Quiet = Every (λ c. c.1 ≢ TEXT)

abbrev Silent : {A : Type 0} → Outcome A → Type 0
Silent (taken a) = Unit {0}
Silent (refused n p) = n ≢ TEXT

abbrev Pointed : {A : Type 0} → List ℕ → Outcome A → Type 0
Pointed s (taken a) = Unit {0}
Pointed s (refused n p) = n ≡ TEXT → Pointer s p

-- rows one behind another, where brackets would nest
infixr 5 ◌also◌
◌also◌ : {A B : Type 0} → A → B → A × B
x also y = (x, y)

module _ (s : List ℕ) where
  checked_pointed : {A : Type 0} (l : Checks) (a : Outcome A) → Quiet l → (Pass l → Pointed s a) → Pointed s (checked l a)
  checked_pointed [] a q k = k tt
  checked_pointed {A} (c ∷ l) a q k = go c.0 refl (checked_pointed l a q.1)
    where
      go : (b : Bool) → c.0 ≡ b → ((Pass l → Pointed s a) → Pointed s (checked l a)) → Pointed {A = A} s (checked ((b, c.1, c.2) ∷ l) a)
      go true e r = r (λ p. k (e, p))
      go false e r = λ h. absurd (q.0 h)

  after_pointed : {A B : Type 0} (r : Outcome A) (f : A → Outcome B) → Pointed s r → ((a : A) → Pointed s (f a)) → Pointed s (after r f)
  after_pointed (taken a) f h k = k a
  after_pointed (refused n p) f h k = h

  silent_pointed : {A : Type 0} (o : Outcome A) → Silent o → Pointed s o
  silent_pointed (taken a) h = tt
  silent_pointed (refused n p) h = λ e. absurd (h e)

  pointed_at : {A : Type 0} (o : Outcome A) {p : ℕ} → Pointed s o → o ≡ refused TEXT p → Pointer s p
  pointed_at (taken a) h e = absurd (taken_refused e)
  pointed_at (refused n q) {p} h e = let i : n ≡ TEXT = cc in let j : q ≡ p = cc in rw j at (h i)

silent-moved : {A : Type 0} (k : ℕ) (o : Outcome A) → Silent o → Silent (moved k o)
silent-moved k (taken a) h = tt
silent-moved k (refused n p) h = h

-- ---- parts of the bytes
pointer_drop : (s : List ℕ) (k : ℕ) {p : ℕ} → Pointer (drop k s) p → Pointer s (k + p)
pointer_drop s k {p} t =
    let n : le_at 4 (drop k s) t.field ≡ le_at 4 s (k + t.field) = le_at-drop 4 s k t.field in
    let j : k + (t.field + 4) ≡ k + t.field + 4 = omega arith in
    let d : drop (t.field + 4) (drop k s) ≡ drop (k + t.field + 4) s = drop-drop (t.field + 4) k s ∙ ap (λ (j : ℕ). drop j s) j in
    record {
      field = k + t.field;
      fits = omega (arith, n, t.fits, length-drop k s);
      points = record { offset = t.points.offset; place = omega (arith, t.points.place); breaks = rw (n, d) at t.points.breaks };
    }

pointer_append : (x y : List ℕ) {p : ℕ} → Pointer x p → Pointer (x ++ y) p
pointer_append x y t =
    let m : ℕ = le_at 4 x t.field in
    let j : ℕ = t.field + 4 in
    let f : j + m ≤ length x = t.fits in
    let n : le_at 4 (x ++ y) t.field ≡ le_at 4 x t.field = le_at-append 4 x y t.field (omega (arith, f)) in
    let l : m ≤ length (drop j x) = rw length-drop (omega (arith, f)) in
    let d : take m (drop j (x ++ y)) ≡ take m (drop j x) = ap (take m) (drop-append-le j x y (omega (arith, f))) ∙ take-append-le m (drop j x) y l in
    record {
      field = t.field;
      fits = omega (arith, n, f, length-append x y);
      points = record { offset = t.points.offset; place = t.points.place; breaks = rw (n, d) t.points.breaks };
    }

moved_pointed : {A : Type 0} (s : List ℕ) (k : ℕ) (o : Outcome A) → Pointed (drop k s) o → Pointed s (moved k o)
moved_pointed s k (taken a) h = tt
moved_pointed s k (refused n p) h = λ e. pointer_drop s k (h e)

shift_pointed : (s : List ℕ) (k : ℕ) (o : Outcome ℕ) → Pointed (drop k s) o → Pointed s (shift k o)
shift_pointed s k (taken a) h = tt
shift_pointed s k (refused n p) h = λ e. pointer_drop s k (h e)

take_pointed : {A : Type 0} (s : List ℕ) (m : ℕ) (o : Outcome A) → Pointed (take m s) o → Pointed s o
take_pointed s m (taken a) h = tt
take_pointed s m (refused n p) h = λ e. rw (take-append-drop m s) at (pointer_append (take m s) (drop m s) (h e))

pointed_same : {A : Type 0} (s t : List ℕ) (o : Outcome A) → s ≡ t → Pointed s o → Pointed t o
pointed_same s t o e h = rw e at h

-- ---- formats
-- a format whose texts are sized by 4 bytes, and which asks TEXT of nothing else
abbrev Texty : Format → Type 0
Texty (block n ask) = (e : List ℕ) → Silent (ask e)
Texty (sized w checks ask) = ((n : ℕ) → Quiet (checks n)) × (((w ≡ 4) × ((e : List ℕ) → ask e ≡ utf8 e)) ⊎ ((e : List ℕ) → Silent (ask e)))
Texty (option f) = Texty f
Texty (pair f g) = Texty f × Texty g
Texty (form.also f ask) = Texty f × ((e : List ℕ) → Silent (ask e))

sized_quiet : (w : ℕ) (checks : ℕ → Checks) (b : List ℕ) → ((n : ℕ) → Quiet (checks n)) → Quiet (sized_checks w checks b)
sized_quiet w checks b q = (λ e. omega arith) also every_append _ (checks (le_at w b 0)) ((leb (le_at w b 0) (length b - w), SHAPE, w) ∷ []) (q (le_at w b 0)) ((λ e. omega arith) also tt)

text_pointed : (checks : ℕ → Checks) (ask : List ℕ → Outcome (Unit {0})) (b : List ℕ) → ((n : ℕ) → Quiet (checks n)) → ((e : List ℕ) → ask e ≡ utf8 e) → Pointed b (read (sized 4 checks ask) b)
unfolding read
text_pointed checks ask b q k =
    let n : ℕ = le_at 4 b 0 in
    let y : List ℕ = take n (drop 4 b) in
    checked_pointed b (sized_checks 4 checks b) (after (moved 4 (ask y)) (λ _. taken (4 + n))) (sized_quiet 4 checks b q)
    (λ p. rw (k y) (go (leb-true 4 (length b) p.0) (leb-true n (length b - 4) (append-pass (checks n) ((leb n (length b - 4), SHAPE, 4) ∷ []) p.1).1.0) (is_text y) refl))
  where
    go : 4 ≤ length b → le_at 4 b 0 ≤ length b - 4 → (t : Bool) → is_text (take (le_at 4 b 0) (drop 4 b)) ≡ t
        → Pointed b (after (moved 4 (asked ((t, TEXT, break_at (take (le_at 4 b 0) (drop 4 b))) ∷ []))) (λ _. taken (4 + le_at 4 b 0)))
    go i j true e = tt
    go i j false e = λ _. record { field = 0; fits = omega arith; points = record { offset = break_at (take (le_at 4 b 0) (drop 4 b)); place = refl; breaks = breaks_at (take (le_at 4 b 0) (drop 4 b)) e } }

read_pointed : (f : Format) (b : List ℕ) → Texty f → Pointed b (read f b)
unfolding read
read_pointed (block n ask) b h =
    checked_pointed b ((leb n (length b), SHAPE, 0) ∷ []) (after (ask (take n b)) (λ _. taken n)) ((λ e. omega arith) also tt)
    (λ _. after_pointed b (ask (take n b)) (λ _. taken n) (silent_pointed b (ask (take n b)) (h (take n b))) (λ _. tt))
read_pointed (sized w checks ask) b (q, inl (e, k)) = rw e (text_pointed checks ask b q k)
read_pointed (sized w checks ask) b (q, inr k) =
    let y : List ℕ = take (le_at w b 0) (drop w b) in
    checked_pointed b (sized_checks w checks b) (after (moved w (ask y)) (λ _. taken (w + le_at w b 0))) (sized_quiet w checks b q)
    (λ _. after_pointed b (moved w (ask y)) (λ _. taken (w + le_at w b 0)) (silent_pointed b (moved w (ask y)) (silent-moved w (ask y) (k y))) (λ _. tt))
read_pointed (option f) b h =
    checked_pointed b (option_checks b) (elim (eqb (le_at 1 b 0) 0) [ true ↦ taken 1 | false ↦ shift 1 (read f (drop 1 b)) ]) ((λ e. omega arith) also (λ e. omega arith) also tt)
    (λ _. go (eqb (le_at 1 b 0) 0) (read_pointed f (drop 1 b) h))
  where
    go : (c : Bool) → Pointed (drop 1 b) (read f (drop 1 b)) → Pointed {A = ℕ} b (elim c as (λ _. Outcome ℕ) [ true ↦ taken 1 | false ↦ shift 1 (read f (drop 1 b)) ])
    go true k = tt
    go false k = shift_pointed b 1 (read f (drop 1 b)) k
read_pointed (pair f g) b h =
    after_pointed b (read f b) (λ k. shift k (read g (drop k b))) (read_pointed f b h.0) (λ k. shift_pointed b k (read g (drop k b)) (read_pointed g (drop k b) h.1))
read_pointed (form.also f ask) b h =
    after_pointed b (read f b) (λ k. after (ask (take k b)) (λ _. taken k)) (read_pointed f b h.0) (λ k. after_pointed b (ask (take k b)) (λ _. taken k) (silent_pointed b (ask (take k b)) (h.1 (take k b))) (λ _. tt))

values-silent : (l : List (ℕ × ℕ × ℕ × ℕ)) (e : List ℕ) → Silent (values l e)
unfolding values
values-silent [] e = tt
values-silent (r ∷ l) e = go (leb r.2 (le_at r.1 e r.0) && leb (le_at r.1 e r.0) r.3) (values-silent l e)
  where
    go : (t : Bool) → Silent (values l e) → Silent (checked ((t, VALUE, r.0) ∷ []) (values l e))
    go true k = k
    go false k = λ q. omega arith

text_texty : (most : ℕ) → Texty (text most)
text_texty most = ((λ n. (λ e. omega arith) also tt), inl (refl, λ e. refl))

-- ---- lists
record Entries (d : Description) : Type 0 where
  early : (b : List ℕ) → Quiet (d.early b)
  form : Texty d.form

module _ {d : Description} (K : Entries d) (s : List ℕ) where
  entry_pointed : (at : ℕ) (seen : List ℕ) → Pointed s (entry_at d s at seen)
  unfolding entry_at
  entry_pointed at seen =
      let b : List ℕ = drop at s in
      let again : Bool = has (key_at d s) (key_at d s at) seen in
      shift_pointed s at (checked (entry_checks d again b) (read d.form b))
      (checked_pointed b (entry_checks d again b) (read d.form b) (every_append _ (lead_checks d b) ((not again, KEY, 0) ∷ []) ((λ e. omega arith) also K.early b) ((λ e. omega arith) also tt)) (λ _. read_pointed d.form b K.form))

  walk_pointed : (n at : ℕ) (seen : List ℕ) → Pointed s (walk d s n at seen)
  unfolding walk
  walk_pointed zero at seen = checked_pointed s (end_checks d s at) (taken seen) ((λ e. omega arith) also tt) (λ _. tt)
  walk_pointed (suc n) at seen = after_pointed s (entry_at d s at seen) (λ e. walk d s n e (insert (key_at d s) at seen)) (entry_pointed at seen) (λ e. walk_pointed n e (insert (key_at d s) at seen))

  list_pointed : Pointed s (list_at d s)
  unfolding list_at
  list_pointed = checked_pointed s (count_checks d s) (walk d s (le_at 4 s 0) 4 []) ((λ e. omega arith) also (λ e. omega arith) also tt) (λ _. walk_pointed (le_at 4 s 0) 4 [])

-- ---- payloads
abbrev Bodies : Body → Type 0
Bodies meta = Unit {0}
Bodies (cpu v) = Unit {0}
Bodies (mmu v) = Unit {0}
Bodies (list d) = Entries d
Bodies opaque = Unit {0}

bodies : (id v : ℕ) → Bodies (body_of id v)
bodies id v = body_cases (λ i k. Bodies k) id v known_bodies (tt, (tt, (tt, (of_devices, (of_disks, (of_cpus, (of_mmus, tt))))))) (λ _. tt)
  where
    held-silent : (e : List ℕ) → Silent (held_checks v e)
    held-silent e = go (extends (drop 4 e)) (silent-moved 4 (cpu_state v (drop 4 e)) (values-silent (cpu_values v (length (drop 4 e))) (drop 4 e)))
      where
        go : (t : Bool) → Silent (moved 4 (cpu_state v (drop 4 e))) → Silent (checked ((t, SHAPE, 0) ∷ []) (moved 4 (cpu_state v (drop 4 e))))
        go true k = k
        go false k = λ q. omega arith

    of_devices : Bodies (list devices)
    of_devices = record { early = λ b. tt; form = ((λ e. tt), ((λ n. (λ e. omega arith) also tt), inr (λ e. tt))) }

    of_disks : Bodies (list disks)
    of_disks = record { early = λ b. tt; form = ((λ e. tt), (text_texty 65536, text_texty 65536)) }

    of_cpus : Bodies (list (cpus v))
    of_cpus = record { early = λ b. tt; form = ((λ e. tt), ((((λ n. (λ e. omega arith) also tt), inr (λ e. tt)), held-silent), ((λ n. (λ e. omega arith) also tt), inr (λ e. tt)))) }

    of_mmus : Bodies (list (mmus v))
    of_mmus = record { early = λ b. tt; form = λ e. tt }

payload_pointed : (k : Body) → Bodies k → (p : List ℕ) → Pointed p (payload k p)
unfolding payload
payload_pointed meta K p =
    after_pointed p (read meta_form p) (λ _. taken tt) (read_pointed meta_form p ((λ e. tt), ((λ e. tt), ((λ e. tt), text_texty 4096)))) (λ _. tt)
payload_pointed (cpu v) K p =
    checked_pointed p ((cpu_sized v p, SHAPE, 0) ∷ []) (cpu_state v p) ((λ e. omega arith) also tt) (λ _. silent_pointed p (cpu_state v p) (values-silent (cpu_values v (length p)) p))
payload_pointed (mmu v) K p = checked_pointed p ((eqb (length p) (mmu_length v), SHAPE, 0) ∷ []) (taken tt) ((λ e. omega arith) also tt) (λ _. tt)
payload_pointed (list d) K p = after_pointed p (list_at d p) (λ _. taken tt) (list_pointed K p) (λ _. tt)
payload_pointed opaque K p = tt

-- ---- sections
module _ (s : List ℕ) where
  ruled_pointed : (before : List (List ℕ)) (at id v f n : ℕ) → Pointed s (ruled before at id v f (take n (drop 16 (drop at s))))
  unfolding ruled
  ruled_pointed before at id v f n = go (known id)
    where
      p : List ℕ
      p = take n (drop 16 (drop at s))

      here : Pointed (drop (at + 16) s) (payload (body_of id v) p)
      here = pointed_same (drop 16 (drop at s)) (drop (at + 16) s) (payload (body_of id v) p) (drop-drop 16 at s)
          (take_pointed (drop 16 (drop at s)) n (payload (body_of id v) p) (payload_pointed (body_of id v) (bodies id v) p))

      go : (t : Bool) → Pointed {A = Unit {0}} s (elim t as (λ _. Outcome (Unit {0})) [ true ↦ checked (known_checks before at id v f p) (moved (at + 16) (payload (body_of id v) p)) | false ↦ taken tt ])
      go true =
          checked_pointed s (known_checks before at id v f p) (moved (at + 16) (payload (body_of id v) p)) ((λ e. omega arith) also (λ e. omega arith) also (λ e. omega arith) also (λ e. omega arith) also tt)
          (λ _. moved_pointed s (at + 16) (payload (body_of id v) p) here)
      go false = tt

  section_pointed : (before : List (List ℕ)) (at : ℕ) → Pointed s (section_of before at (drop at s))
  unfolding section_of
  section_pointed before at =
      let b : List ℕ = drop at s in
      let r : Outcome (Unit {0}) = ruled before at (id_of b) (version_of b) (flags_of b) (payload_of b) in
      checked_pointed s (frame_checks before at b) (after r (λ _. taken (16 + length_of b))) ((λ e. omega arith) also (λ e. omega arith) also (λ e. omega arith) also tt)
      (λ _. after_pointed s r (λ _. taken (16 + length_of b)) (ruled_pointed before at (id_of b) (version_of b) (flags_of b) (length_of b)) (λ _. tt))

  sections_pointed : (n : ℕ) (before : List (List ℕ)) (at : ℕ) (b : List ℕ) → b ≡ drop at s → Pointed s (sections n before at b)
  unfolding sections
  sections_pointed zero before at [] e = tt
  sections_pointed (suc n) before at [] e = tt
  sections_pointed zero before at (c ∷ b) e = after_pointed s (section_of before at (c ∷ b)) (λ _. taken before) (rw e (section_pointed before at)) (λ _. tt)
  sections_pointed (suc n) before at (c ∷ b) e =
      after_pointed s (section_of before at (c ∷ b)) (λ w. sections n (before ++ (take w (c ∷ b) ∷ [])) (at + w) (drop w (c ∷ b))) (rw e (section_pointed before at))
      (λ w. sections_pointed n (before ++ (take w (c ∷ b) ∷ [])) (at + w) (drop w (c ∷ b)) (ap (drop w) e ∙ drop-drop w at s))

pub file_pointed : (s : List ℕ) (p : ℕ) → file_of s ≡ refused TEXT p → Pointer s p
unfolding file_of
file_pointed s p h =
    pointed_at s (checked (header_checks s) (sections sections_most [] 16 (drop 16 s)))
    (checked_pointed s (header_checks s) (sections sections_most [] 16 (drop 16 s))
    ((λ e. omega arith) also (λ e. omega arith) also (λ e. omega arith) also (λ e. omega arith) also (λ e. omega arith) also (λ e. omega arith) also (λ e. omega arith) also tt)
    (λ _. sections_pointed s sections_most [] 16 (drop 16 s) refl)) h
