-- Every fault of a file has a number of the table other than ROOM and HAVE; and no refusal of a call has the number 0, so that the number of an answer tells whether it is one.
-- Assumes nothing.
use mathlib.Core.Path.{◌≡◌, refl, sym, ap}
use mathlib.Core.List.{List, [], ◌∷◌, ◌++◌}
use mathlib.Core.Bool.{Bool, true, false, not, ◌&&◌}
use Prim.Native.Nat.{ℕ, zero, suc, ◌+◌, ◌≤◌}
use native.Mathlib.Omega.{arith}
use lib.ListN.{length, take, drop}
use lib.Seq.{take-append_seam}
use lib.Dec.{leb, eqb}
use Rattle.answer.specs.Numbers.{SIZE, CUT, MANY, SHAPE, LIMIT, KEY, TEXT, VALUE, ROOM, HAVE, ABSENT, is_fault}
use Rattle.answer.specs.Outcome.{Outcome, taken, refused, Faulty, Checks, checked, after, moved, shift, room, fitting}
use Rattle.answer.specs.Calls.{asked, verdict, answer, memory, Writes}
use Rattle.answer.specs.declared.Answer.{Answer}
use Rattle.answer.proofs.Checks.{and_true}
use Rattle.answer.proofs.Table.{fault_some}
use Rattle.wire.specs.Numbers.{le_at}
use Rattle.utf8.specs.Scan.{is_text, break_at}
use Rattle.format.specs.Format.{Format, block, sized, option, pair, also, read, sized_checks, option_checks, values, text}
use Rattle.order.specs.Keyed.{Every, insert, has}
use Rattle.order.proofs.Folds.{every_append}
use Rattle.entries.specs.States.{cpu_sized, extends, cpu_values, cpu_state, held_checks, mmu_length}
use Rattle.entries.specs.Kinds.{Description, lead_checks, devices, disks, cpus, mmus}
use Rattle.lists.specs.Lists.{key_at, entry_checks, entry_at, end_checks, walk, count_checks, list_at}
use Rattle.aerosnap.specs.Known.{known}
use Rattle.aerosnap.specs.Payloads.{meta_form, Body, meta, cpu, mmu, list, opaque, known_bodies, body_of, payload}
use Rattle.aerosnap.specs.File.{sections_most, header_checks, id_of, version_of, flags_of, length_of, payload_of, frame_checks, known_checks, ruled, section_of, sections, file_of}
use Rattle.aerosnap.specs.Content.{Content, content_of, render, content_at, canonical}
use Rattle.aerosnap.specs.Adding.{Item, device, disk, own_checks, add_checks}
use Rattle.aerosnap.specs.Edits.{Edit, add, remove, replace, apply, edit_checks, edit_to, edit_file}
use Rattle.aerosnap.proofs.Bodies.{body_cases}
use Rattle.aerosnap.proofs.Refusals.{Refuses, checked_refuses, after_refuses, refuses_more}

-- ---- outcomes and checks

-- each of the checks has the number of a fault
abbrev pub Numbered : Checks → Type 0
Numbered = Every (λ c. is_fault c.1 ≡ true)

pub checked_faulty : {A : Type 0} (l : Checks) (a : Outcome A) → Numbered l → Faulty a → Faulty (checked l a)
checked_faulty l a h k = checked_refuses (λ n. is_fault n ≡ true) l a h k

pub after_faulty : {A B : Type 0} (r : Outcome A) (f : A → Outcome B) → Faulty r → ((a : A) → Faulty (f a)) → Faulty (after r f)
after_faulty r f h k = after_refuses (λ n. is_fault n ≡ true) r f h k

pub moved_faulty : {A : Type 0} (k : ℕ) (r : Outcome A) → Faulty r → Faulty (moved k r)
moved_faulty k (taken a) h = tt
moved_faulty k (refused n p) h = h

-- a fault of a section that is there whole: any but CUT
abbrev pub is_inner : ℕ → Bool
is_inner n = is_fault n && not (eqb n CUT)

abbrev Inner : ℕ → Type 0
Inner n = is_inner n ≡ true

abbrev pub FaultyInside : {A : Type 0} → Outcome A → Type 0
FaultyInside o = Refuses Inner o

abbrev pub NumberedInside : Checks → Type 0
NumberedInside = Every (λ c. Inner c.1)

inside_faulty : {A : Type 0} (o : Outcome A) → FaultyInside o → Faulty o
inside_faulty (taken a) h = tt
inside_faulty (refused n p) h = (and_true (is_fault n) (not (eqb n CUT)) h).0

pub checked_inside : {A : Type 0} (l : Checks) (a : Outcome A) → NumberedInside l → FaultyInside a → FaultyInside (checked l a)
checked_inside l a h k = checked_refuses Inner l a h k

after_inside : {A B : Type 0} (r : Outcome A) (f : A → Outcome B) → FaultyInside r → ((a : A) → FaultyInside (f a)) → FaultyInside (after r f)
after_inside r f h k = after_refuses Inner r f h k

moved_inside : {A : Type 0} (k : ℕ) (r : Outcome A) → FaultyInside r → FaultyInside (moved k r)
moved_inside k (taken a) h = tt
moved_inside k (refused n p) h = h

shift_inside : (k : ℕ) (r : Outcome ℕ) → FaultyInside r → FaultyInside (shift k r)
shift_inside k (taken a) h = tt
shift_inside k (refused n p) h = h

one_inside : (b : Bool) (n p : ℕ) → Inner n → FaultyInside (asked ((b, n, p) ∷ []))
one_inside b n p h = checked_inside ((b, n, p) ∷ []) (taken tt) (h, tt) tt

-- ---- formats

abbrev pub FormFaults : Format → Type 0
FormFaults (block n ask) = (e : List ℕ) → FaultyInside (ask e)
FormFaults (sized w checks ask) = ((n : ℕ) → NumberedInside (checks n)) × ((e : List ℕ) → FaultyInside (ask e))
FormFaults (option f) = FormFaults f
FormFaults (pair f g) = FormFaults f × FormFaults g
FormFaults (also f ask) = FormFaults f × ((e : List ℕ) → FaultyInside (ask e))

read_inside : (f : Format) (b : List ℕ) → FormFaults f → FaultyInside (read f b)
unfolding read
read_inside (block n ask) b h = checked_inside ((leb n (length b), SHAPE, 0) ∷ []) (after (ask (take n b)) (λ _. taken n)) (refl, tt) (after_inside (ask (take n b)) (λ _. taken n) (h (take n b)) (λ _. tt))
read_inside (sized w checks ask) b h =
    let y : List ℕ = take (le_at w b 0) (drop w b) in
    checked_inside (sized_checks w checks b) (after (moved w (ask y)) (λ _. taken (w + le_at w b 0))) (refl, every_append _ (checks (le_at w b 0)) _ (h.0 (le_at w b 0)) (refl, tt))
    (after_inside (moved w (ask y)) (λ _. taken (w + le_at w b 0)) (moved_inside w (ask y) (h.1 y)) (λ _. tt))
read_inside (option f) b h =
    checked_inside (option_checks b) (elim (eqb (le_at 1 b 0) 0) [ true ↦ taken 1 | false ↦ shift 1 (read f (drop 1 b)) ]) (refl, (refl, tt)) (go (eqb (le_at 1 b 0) 0) (read_inside f (drop 1 b) h))
  where
    go : (c : Bool) → FaultyInside (read f (drop 1 b)) → FaultyInside {A = ℕ} (elim c as (λ _. Outcome ℕ) [ true ↦ taken 1 | false ↦ shift 1 (read f (drop 1 b)) ])
    go true k = tt
    go false k = shift_inside 1 (read f (drop 1 b)) k
read_inside (pair f g) b h = after_inside (read f b) (λ k. shift k (read g (drop k b))) (read_inside f b h.0) (λ k. shift_inside k (read g (drop k b)) (read_inside g (drop k b) h.1))
read_inside (also f ask) b h =
    after_inside (read f b) (λ k. after (ask (take k b)) (λ _. taken k)) (read_inside f b h.0) (λ k. after_inside (ask (take k b)) (λ _. taken k) (h.1 (take k b)) (λ _. tt))

values_inside : (l : List (ℕ × ℕ × ℕ × ℕ)) (e : List ℕ) → FaultyInside (values l e)
unfolding values
values_inside [] e = tt
values_inside (r ∷ l) e = checked_inside ((leb r.2 (le_at r.1 e r.0) && leb (le_at r.1 e r.0) r.3, VALUE, r.0) ∷ []) (values l e) (refl, tt) (values_inside l e)

text-faults : (most : ℕ) → FormFaults (text most)
text-faults most = ((λ n. (refl, tt)), λ e. one_inside (is_text e) TEXT (break_at e) refl)

-- ---- lists

-- what is asked of the entries of a kind
pub record EntryFaults (d : Description) : Type 0 where
  pub early : (b : List ℕ) → NumberedInside (d.early b)
  pub form : FormFaults d.form

module _ {d : Description} (K : EntryFaults d) (s : List ℕ) where
  entry_inside : (at : ℕ) (seen : List ℕ) → FaultyInside (entry_at d s at seen)
  unfolding entry_at
  entry_inside at seen =
      let b : List ℕ = drop at s in
      let again : Bool = has (key_at d s) (key_at d s at) seen in
      shift_inside at (checked (entry_checks d again b) (read d.form b))
      (checked_inside (entry_checks d again b) (read d.form b) (every_append _ (lead_checks d b) ((not again, KEY, 0) ∷ []) (refl, K.early b) (refl, tt)) (read_inside d.form b K.form))

  walk_inside : (n at : ℕ) (seen : List ℕ) → FaultyInside (walk d s n at seen)
  unfolding walk
  walk_inside zero at seen = checked_inside (end_checks d s at) (taken seen) (refl, tt) tt
  walk_inside (suc n) at seen = after_inside (entry_at d s at seen) (λ e. walk d s n e (insert (key_at d s) at seen)) (entry_inside at seen) (λ e. walk_inside n e (insert (key_at d s) at seen))

  list_inside : FaultyInside (list_at d s)
  unfolding list_at
  list_inside = checked_inside (count_checks d s) (walk d s (le_at 4 s 0) 4 []) (refl, (refl, tt)) (walk_inside (le_at 4 s 0) 4 [])

  pub list_faulty : Faulty (list_at d s)
  list_faulty = inside_faulty (list_at d s) list_inside

-- ---- payloads

abbrev BodyFaults : Body → Type 0
BodyFaults meta = Unit {0}
BodyFaults (cpu v) = Unit {0}
BodyFaults (mmu v) = Unit {0}
BodyFaults (list d) = EntryFaults d
BodyFaults opaque = Unit {0}

body_faults : (id v : ℕ) → BodyFaults (body_of id v)
body_faults id v = body_cases (λ i k. BodyFaults k) id v known_bodies (tt, (tt, (tt, (of_devices, (of_disks, (of_cpus, (of_mmus, tt))))))) (λ _. tt)
  where
    blob-faults : ((n : ℕ) → NumberedInside ((leb n 67108864, LIMIT, 0) ∷ [])) × ((e : List ℕ) → FaultyInside {A = Unit {0}} (taken tt))
    blob-faults = ((λ n. (refl, tt)), λ e. tt)

    held_inside : (e : List ℕ) → FaultyInside (held_checks v e)
    held_inside e =
        let y : List ℕ = drop 4 e in
        checked_inside ((extends y, SHAPE, 0) ∷ []) (moved 4 (cpu_state v y)) (refl, tt) (moved_inside 4 (cpu_state v y) (values_inside (cpu_values v (length y)) y))

    of_devices : BodyFaults (list devices)
    of_devices = record { early = λ b. tt; form = ((λ e. tt), blob-faults) }

    of_disks : BodyFaults (list disks)
    of_disks = record { early = λ b. tt; form = ((λ e. tt), (text-faults 65536, text-faults 65536)) }

    of_cpus : BodyFaults (list (cpus v))
    of_cpus = record { early = λ b. tt; form = ((λ e. tt), ((((λ n. (refl, tt)), λ e. tt), held_inside), blob-faults)) }

    of_mmus : BodyFaults (list (mmus v))
    of_mmus = record { early = λ b. tt; form = λ e. tt }

payload_inside : (k : Body) → BodyFaults k → (p : List ℕ) → FaultyInside (payload k p)
unfolding payload
payload_inside meta K p =
    after_inside (read meta_form p) (λ _. taken tt) (read_inside meta_form p ((λ e. tt), ((λ e. tt), ((λ e. tt), text-faults 4096)))) (λ e. tt)
payload_inside (cpu v) K p = checked_inside ((cpu_sized v p, SHAPE, 0) ∷ []) (cpu_state v p) (refl, tt) (values_inside (cpu_values v (length p)) p)
payload_inside (mmu v) K p = one_inside (eqb (length p) (mmu_length v)) SHAPE 0 refl
payload_inside (list d) K p = after_inside (list_at d p) (λ _. taken tt) (list_inside K p) (λ _. tt)
payload_inside opaque K p = tt

-- ---- the file

pub ruled_inside : (before : List (List ℕ)) (at id v f : ℕ) (p : List ℕ) → FaultyInside (ruled before at id v f p)
unfolding ruled
ruled_inside before at id v f p = go (known id)
  where
    go : (k : Bool) → FaultyInside {A = Unit {0}} (elim k as (λ _. Outcome (Unit {0})) [ true ↦ checked (known_checks before at id v f p) (moved (at + 16) (payload (body_of id v) p)) | false ↦ taken tt ])
    go true = checked_inside (known_checks before at id v f p) (moved (at + 16) (payload (body_of id v) p)) (refl, (refl, (refl, (refl, tt)))) (moved_inside (at + 16) (payload (body_of id v) p) (payload_inside (body_of id v) (body_faults id v) p))
    go false = tt

section_faulty : (before : List (List ℕ)) (at : ℕ) (b : List ℕ) → Faulty (section_of before at b)
unfolding section_of
section_faulty before at b =
    let r : Outcome (Unit {0}) = ruled before at (id_of b) (version_of b) (flags_of b) (payload_of b) in
    checked_faulty (frame_checks before at b) (after r (λ _. taken (16 + length_of b))) (refl, (refl, (refl, tt)))
    (after_faulty r (λ _. taken (16 + length_of b)) (inside_faulty r (ruled_inside before at (id_of b) (version_of b) (flags_of b) (payload_of b))) (λ _. tt))

sections_faulty : (n : ℕ) (before : List (List ℕ)) (at : ℕ) (b : List ℕ) → Faulty (sections n before at b)
unfolding sections
sections_faulty zero before at [] = tt
sections_faulty (suc n) before at [] = tt
sections_faulty zero before at (c ∷ b) = after_faulty (section_of before at (c ∷ b)) (λ _. taken before) (section_faulty before at (c ∷ b)) (λ _. tt)
sections_faulty (suc n) before at (c ∷ b) =
    after_faulty (section_of before at (c ∷ b)) (λ w. sections n (before ++ (take w (c ∷ b) ∷ [])) (at + w) (drop w (c ∷ b))) (section_faulty before at (c ∷ b))
    (λ w. sections_faulty n (before ++ (take w (c ∷ b) ∷ [])) (at + w) (drop w (c ∷ b)))

pub file_faulty : (s : List ℕ) → Faulty (file_of s)
unfolding file_of
file_faulty s = checked_faulty (header_checks s) (sections sections_most [] 16 (drop 16 s)) (refl, (refl, (refl, (refl, (refl, (refl, (refl, tt))))))) (sections_faulty sections_most [] 16 (drop 16 s))

-- ---- refusals of calls

abbrev Nonzero : ℕ → Type 0
Nonzero n = 1 ≤ n

abbrev pub Named : {A : Type 0} → Outcome A → Type 0
Named o = Refuses Nonzero o

pub content_faulty : (s : List ℕ) → Faulty (content_at s)
content_faulty s = after_faulty (file_of s) (λ l. taken (content_of l)) (file_faulty s) (λ _. tt)

-- what holds of the number of every fault, and of ROOM, HAVE and ABSENT, holds of the number with which an edit is refused
module _ (P : ℕ → Type 0) (faulty : (n : ℕ) → is_fault n ≡ true → P n) where
  own_numbered : (x : Item) → Every (λ c. P c.1) (own_checks x)
  own_numbered (device id v f p) = (faulty LIMIT refl, tt)
  own_numbered (disk id x y) = (faulty LIMIT refl, (faulty TEXT refl, tt))

  pub edit_numbered : P HAVE → P ABSENT → (e : Edit) (c u : Content) → Every (λ c. P c.1) (edit_checks e c u)
  edit_numbered h a (add x) c u = every_append _ (own_checks x) (add_checks x c u) (own_numbered x) (h, (faulty LIMIT refl, (faulty LIMIT refl, (faulty MANY refl, (faulty SIZE refl, tt)))))
  edit_numbered h a (remove n) c u = (a, tt)
  edit_numbered h a (replace id v f p) c u = (faulty LIMIT refl, (a, (faulty LIMIT refl, (faulty SIZE refl, tt))))

  pub fitting_refuses : P ROOM → (have : ℕ) (b : List ℕ) → Refuses P (fitting have b)
  fitting_refuses r have b = checked_refuses P (room have (length b)) (taken b) (r, tt) tt

  pub content_refuses : (s : List ℕ) → Refuses P (content_at s)
  content_refuses s = refuses_more (λ n. is_fault n ≡ true) P faulty (content_at s) (content_faulty s)

  pub edit_to_refuses : P ROOM → P HAVE → P ABSENT → (have : ℕ) (c : Content) (e : Edit) → Refuses P (edit_to have c e)
  unfolding edit_to
  edit_to_refuses r h a have c e = checked_refuses P (edit_checks e c (apply e c)) (fitting have (render (apply e c))) (edit_numbered h a e c (apply e c)) (fitting_refuses r have (render (apply e c)))

  pub edit_refuses : P ROOM → P HAVE → P ABSENT → (have : ℕ) (s : List ℕ) (e : Edit) → Refuses P (edit_file have s e)
  unfolding edit_file
  edit_refuses r h a have s e = after_refuses P (content_at s) (λ c. edit_to have c e) (content_refuses s) (λ c. edit_to_refuses r h a have c e)

  pub canonical_refuses : P ROOM → (have : ℕ) (s : List ℕ) → Refuses P (canonical have s)
  unfolding canonical
  canonical_refuses r have s = after_refuses P (content_at s) (λ c. fitting have (render c)) (content_refuses s) (λ c. fitting_refuses r have (render c))

pub canonical_named : (have : ℕ) (s : List ℕ) → Named (canonical have s)
canonical_named = canonical_refuses Nonzero fault_some (omega arith)

pub edit_named : (have : ℕ) (s : List ℕ) (e : Edit) → Named (edit_file have s e)
edit_named = edit_refuses Nonzero fault_some (omega arith) (omega arith) (omega arith)

-- ---- what a number says

-- a call that checks: number 0 exactly where the definition takes its input
pub verdict-zero : {A : Type 0} (o : Outcome A) → Named o → (verdict o).number ≡ 0 → (a : A) × (o ≡ taken a)
verdict-zero (taken a) h e = (a, refl)
verdict-zero (refused n p) h e = absurd (omega arith)

-- a call that writes: number 0, and the first `place` bytes of the lent memory are what was to be written
pub writes_zero : {o : Outcome (List ℕ)} {old new : List ℕ} {r : Answer} → Named o → Writes o old r new → r.number ≡ 0 → o ≡ taken (take r.place new)
writes_zero {o} {old} {new} {r} h w e = go o h w.answers w.leaves
  where
    go : (o : Outcome (List ℕ)) → Named o → r ≡ answer o → new ≡ memory o old → o ≡ taken (take r.place new)
    go (taken b) h i j = rw (i, j) (ap taken (sym (take-append_seam b (drop (length b) old))))
    go (refused n p) h i j = absurd (omega (arith, ap (λ (a : Answer). a.number) i))
