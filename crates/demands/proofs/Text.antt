-- Texts are those of RFC 3629, and TEXT points at the byte at which one breaks.
-- Assumes nothing.
use mathlib.Core.Path.{◌≡◌, refl, sym, ◌∙◌, ap}
use mathlib.Core.Logic.{◌≢◌, ◌⊎◌, inl, inr}
use mathlib.Core.Bool.{Bool, true, false}
use mathlib.Core.List.{List, [], ◌∷◌, ◌++◌}
use Prim.Native.Nat.{ℕ, ◌+◌}
use native.Mathlib.Omega.{arith}
use lib.ListN.{length, take, drop}
use lib.Seq.{drop-drop}
use lib.Dec.{leb}
use Rattle.answer.specs.Numbers.{SHAPE, LIMIT, TEXT, TAG}
use Rattle.answer.specs.Outcome.{Outcome, taken, refused, Checks, checked, after, moved, shift, room, fitting}
use Rattle.answer.specs.Calls.{asked}
use Rattle.answer.proofs.Checks.{pass-checked, checked-pass, Refused, row, later, behind, checked_refused, checked-append}
use Rattle.answer.proofs.Outcomes.{taken_refused}
use Rattle.wire.specs.Numbers.{le_at}
use Rattle.wire.specs.Parts.{left_over_checks}
use Rattle.wire.proofs.Numbers.{le_at_here}
use Rattle.format.specs.Format.{at_most, sized_checks, utf8, text, read}
use Rattle.format.specs.Places.{read_at}
use Rattle.utf8.specs.Grammar.{Text, Breaks, Reads, whole, broken}
use Rattle.utf8.specs.Scan.{is_text, break_at}
use Rattle.utf8.proofs.Broken.{stops_longest, longest_stops, longest_once}
use Rattle.utf8.proofs.Reading.{text_is, is-text, breaks_at}
use Rattle.kinds.specs.declared.Message.{Message}
use Rattle.kinds.specs.declared.Body.{Body}
use Rattle.kinds.specs.declared.Body.TheVariants.{Empty, Bytes, Text as TextBody}
use Rattle.kinds.specs.declared.Cell.{Cell}
use Rattle.kinds.specs.declared.Form.{Form}
use Rattle.kinds.specs.Kinds.{paper, cells, ok_of}
use Rattle.messages.specs.Fields.{field_width, message_at}
use Rattle.messages.specs.Reading.{MessageAndData, message_most, message_content, data_fits, data_length, data_in, cell_checks, body_checks, numbers_end, read_checks, read_message}
use Rattle.messages.specs.Writing.{value_checks, data_checks, form_bytes, write_checks, written, write_message}
use Rattle.aerosnap.specs.Content.{Content, render, content_at}
use Rattle.aerosnap.specs.Adding.{Item, device, disk, own_checks, add_checks}
use Rattle.aerosnap.proofs.Items.{with_item}
use Rattle.aerosnap.specs.Edits.{add_to, add_item, edit_file, edit_to}
use Rattle.demands.specs.Text.{Texts, Points, BrokenTexts}
use Rattle.demands.proofs.Pointed.{file_pointed}

-- ---- texts are those of the grammar
reads_taken : {s : List ℕ} {o : Outcome (Unit {0})} → Reads s o → o ≡ taken tt → Text s
reads_taken (whole t) e = t
reads_taken (broken b) e = absurd (taken_refused (sym e))

taken_reads : {s : List ℕ} {o : Outcome (Unit {0})} → Reads s o → Text s → o ≡ taken tt
taken_reads (whole _) t = refl
taken_reads (broken b) t = absurd (b.wrong t)

pub texts : Texts
texts = record {
  fields = λ s. (
    λ e. is-text s (checked-pass ((is_text s, TEXT, break_at s) ∷ []) (taken tt) tt e).0.0,
    λ t. pass-checked ((is_text s, TEXT, break_at s) ∷ []) (taken tt) (text_is t, tt),
  );
  tests = λ s. (is-text s, text_is);
  calls = λ s r h. (reads_taken h, taken_reads h);
}

-- ---- rows of a number, and rows of others
-- a pair: rows one behind another, where brackets would nest
infixr 5 ◌also◌
◌also◌ : {A B : Type 0} → A → B → A × B
x also y = (x, y)

-- no row has the number n
abbrev Others : ℕ → Checks → Type 0
Others n [] = Unit {0}
Others n (c ∷ l) = (c.1 ≢ n) × Others n l

-- each row that has the number n has the place 0
abbrev Zeroed : ℕ → Checks → Type 0
Zeroed n [] = Unit {0}
Zeroed n (c ∷ l) = (c.1 ≡ n → c.2 ≡ 0) × Zeroed n l

module _ {A : Type 0} {n p : ℕ} where
  passed_on : (l : Checks) (a : Outcome A) → Others n l → checked l a ≡ refused n p → a ≡ refused n p
  passed_on l a o e = go (checked_refused l a n p e) o
    where
      go : {l : Checks} → Refused a n p l → Others n l → a ≡ refused n p
      go (row q) o = absurd (o.0 refl)
      go (later q r) o = go r o.1
      go (behind q) o = q

  zeroed : (l : Checks) (a : Outcome A) → Zeroed n l → checked l a ≡ refused n p → (p ≡ 0) ⊎ (a ≡ refused n p)
  zeroed l a z e = go (checked_refused l a n p e) z
    where
      go : {l : Checks} → Refused a n p l → Zeroed n l → (p ≡ 0) ⊎ (a ≡ refused n p)
      go (row q) z = inl (z.0 refl)
      go (later q r) z = go r z.1
      go (behind q) z = inr q

zeroed_append : (n : ℕ) (l m : Checks) → Zeroed n l → Zeroed n m → Zeroed n (l ++ m)
zeroed_append n [] m y z = z
zeroed_append n (c ∷ l) m y z = (y.0, zeroed_append n l m y.1 z)

shift_refused : (k : ℕ) (r : Outcome ℕ) {n p : ℕ} → shift k r ≡ refused n p → (q : ℕ) × (r ≡ refused n q) × (p ≡ k + q)
shift_refused k (taken a) h = absurd (taken_refused h)
shift_refused k (refused m q) {n} {p} h = let i : m ≡ n = cc in let j : p ≡ k + q = cc in (q, ap (λ (x : ℕ). refused x q) i, j)

-- ---- a text field
-- what is asked of the text itself
asked-text : (t : List ℕ) (w e : ℕ) {q : ℕ} → after (moved w (utf8 t)) (λ _. taken e) ≡ refused TEXT q → (q ≡ w + break_at t) × (is_text t ≡ false)
asked-text t w e {q} h = go (is_text t) refl h
  where
    go : (b : Bool) → is_text t ≡ b → ◌≡◌ {A = Outcome ℕ} (after (moved w (asked ((b, TEXT, break_at t) ∷ []))) (λ _. taken e)) (refused TEXT q) → (q ≡ w + break_at t) × (is_text t ≡ false)
    go true i k = absurd (taken_refused k)
    go false i k = let j : q ≡ w + break_at t = cc in (j, i)

read_points : (message_most : ℕ) (b : List ℕ) (q : ℕ) → read (text message_most) b ≡ refused TEXT q → Points b 4 (le_at 4 b 0) q
unfolding read
read_points message_most b q h =
    let t : List ℕ = take (le_at 4 b 0) (drop 4 b) in
    let k = asked-text t 4 (4 + le_at 4 b 0) (passed_on (sized_checks 4 (at_most message_most) b) (after (moved 4 (utf8 t)) (λ _. taken (4 + le_at 4 b 0))) ((λ e. omega arith) also (λ e. omega arith) also (λ e. omega arith) also tt) h) in
    record { offset = break_at t; place = k.0; breaks = breaks_at t k.1 }

field_points : (message_most : ℕ) (s : List ℕ) (at p : ℕ) → read_at (text message_most) s at ≡ refused TEXT p → Points s (at + 4) (le_at 4 s at) p
field_points message_most s at p h =
    let (q, e, i) = shift_refused at (read (text message_most) (drop at s)) h in
    let r = read_points message_most (drop at s) q e in
    record { offset = r.offset; place = omega (arith, i, r.place); breaks = rw (le_at_here 4 s at, drop-drop) at r.breaks }

-- ---- Log and Panic
field_others : (ok : ℕ) (cs : List Cell) (at : ℕ) (m : List ℕ) → Others TEXT (cell_checks ok cs at m)
unfolding cell_checks
field_others ok [] at m = tt
field_others ok (c ∷ cs) at m = ((λ e. omega arith) also (λ e. omega arith) also field_others ok cs (at + field_width ok c.0) m)

body_points : {A : Type 0} (b : Body) (at : ℕ) (m : List ℕ) (a : A) (p : ℕ) → checked (body_checks b at m) (taken a) ≡ refused TEXT p → Points m (at + 4) (le_at 4 m at) p
unfolding body_checks
body_points Empty at m a p h = absurd (taken_refused (passed_on (left_over_checks m at) (taken a) ((λ e. omega arith) also tt) h))
body_points Bytes at m a p h =
    absurd (taken_refused (passed_on (data_fits at m ++ left_over_checks m (at + 4 + data_length at m)) (taken a) ((λ e. omega arith) also (λ e. omega arith) also (λ e. omega arith) also tt) h))
body_points {A} TextBody at m a p h =
    go (is_text (data_in at m)) refl (passed_on (data_fits at m) (checked ((is_text (data_in at m), TEXT, at + 4 + break_at (data_in at m)) ∷ left_over_checks m (at + 4 + data_length at m)) (taken a)) ((λ e. omega arith) also (λ e. omega arith) also tt) h)
  where
    go : (t : Bool) → is_text (data_in at m) ≡ t
        → ◌≡◌ {A = Outcome A} (checked ((t, TEXT, at + 4 + break_at (data_in at m)) ∷ left_over_checks m (at + 4 + data_length at m)) (taken a)) (refused TEXT p) → Points m (at + 4) (le_at 4 m at) p
    go true i k = absurd (taken_refused (passed_on (left_over_checks m (at + 4 + data_length at m)) (taken a) ((λ e. omega arith) also tt) k))
    go false i k = let j : p ≡ at + 4 + break_at (data_in at m) = cc in record { offset = break_at (data_in at m); place = j; breaks = breaks_at (data_in at m) i }

message_points : (m : List ℕ) (p : ℕ) → read_message m ≡ refused TEXT p → let at = numbers_end (paper (message_at m)) in Points m (at + 4) (le_at 4 m at) p
unfolding read_message read_checks
message_points m p h =
    let f = paper (message_at m) in
    let fields : Checks = cell_checks (ok_of f) (cells f) 2 m in
    let body : Checks = body_checks f.body (numbers_end f) m in
    let c : MessageAndData = message_content (message_at m) f.body (numbers_end f) m in
    let head : Checks = (leb (length m) message_most, LIMIT, 0) ∷ (leb 2 (length m), SHAPE, 0) ∷ (f.known, TAG, 0) ∷ [] in
    let g : checked (fields ++ body) (taken c) ≡ refused TEXT p = passed_on head (checked (fields ++ body) (taken c)) ((λ e. omega arith) also (λ e. omega arith) also (λ e. omega arith) also tt) h in
    body_points f.body (numbers_end f) m c p
    (passed_on fields (checked body (taken c)) (field_others (ok_of f) (cells f) 2 m) (sym (checked-append fields body (taken c)) ∙ g))

-- ---- what keeps place 0
add-zero : (have : ℕ) (s : List ℕ) (x : Item) (p : ℕ) → add_item have s x ≡ refused TEXT p → (content_at s ≡ refused TEXT p) ⊎ (p ≡ 0)
unfolding edit_file edit_to
add-zero have s x p h = go (content_at s) refl h
  where
    own : (x : Item) (c u : Content) → Zeroed TEXT (own_checks x ++ add_checks x c u)
    own (device id v f y) c u = ((λ _. refl) also (λ _. refl) also (λ _. refl) also (λ _. refl) also (λ _. refl) also (λ _. refl) also tt)
    own (disk id y z) c u = ((λ _. refl) also (λ _. refl) also (λ _. refl) also (λ _. refl) also (λ _. refl) also (λ _. refl) also (λ _. refl) also tt)

    last : (c : Content) → (p ≡ 0) ⊎ (fitting have (render (with_item x c)) ≡ refused TEXT p) → p ≡ 0
    last c (inl e) = e
    last c (inr e) = absurd (taken_refused (passed_on (room have (length (render (with_item x c)))) (taken (render (with_item x c))) ((λ q. omega arith) also tt) e))

    go : (o : Outcome Content) → content_at s ≡ o → after o (λ c. add_to have c x) ≡ refused TEXT p → (content_at s ≡ refused TEXT p) ⊎ (p ≡ 0)
    go (taken c) e k = inr (last c (zeroed (own_checks x ++ add_checks x c (with_item x c)) (fitting have (render (with_item x c))) (own x c (with_item x c)) k))
    go (refused n q) e k = let i : n ≡ TEXT = cc in let j : q ≡ p = cc in inl (e ∙ ap (λ (m : ℕ). refused m q) i ∙ ap (refused TEXT) j)

values_zeroed : (ok : ℕ) (cs : List Cell) → Zeroed TEXT (value_checks ok cs)
unfolding value_checks
values_zeroed ok [] = tt
values_zeroed ok (c ∷ cs) = ((λ _. refl) also values_zeroed ok cs)

data_zeroed : (b : Body) (d : List ℕ) → Zeroed TEXT (data_checks b d)
data_zeroed Empty d = ((λ _. refl) also tt)
data_zeroed Bytes d = tt
data_zeroed TextBody d = ((λ _. refl) also tt)

write_zeroed : (f : Form) (d : List ℕ) (have need : ℕ) → Zeroed TEXT (write_checks f d ++ room have need)
unfolding write_checks
write_zeroed f d have need =
    let values : Checks = value_checks (ok_of f) (cells f) in
    let limit : Checks = (leb (length (form_bytes f d)) message_most, LIMIT, 0) ∷ [] in
    let rest : Checks = data_checks f.body d ++ limit in (
      λ _. refl,
      zeroed_append TEXT (values ++ rest) (room have need)
          (zeroed_append TEXT values rest (values_zeroed (ok_of f) (cells f)) (zeroed_append TEXT (data_checks f.body d) limit (data_zeroed f.body d) ((λ _. refl) also tt)))
          ((λ e. absurd (omega arith)), tt),
    )

writing-zero : (k : Message) (d : List ℕ) (have p : ℕ) → write_message k d have ≡ refused TEXT p → p ≡ 0
unfolding write_message
writing-zero k d have p h = go (zeroed (write_checks (paper k) d ++ room have (length (written k d))) (taken (written k d)) (write_zeroed (paper k) d have (length (written k d))) h)
  where
    go : (p ≡ 0) ⊎ (taken (written k d) ≡ refused TEXT p) → p ≡ 0
    go (inl e) = e
    go (inr e) = absurd (taken_refused e)

-- ---- the call
reads_breaks : {s : List ℕ} {o : Outcome (Unit {0})} {k : ℕ} → Reads s o → o ≡ refused TEXT k → Breaks s k
reads_breaks (whole t) e = absurd (taken_refused e)
reads_breaks {k = k} (broken {k = j} b) e = let i : j ≡ k = cc in rw i at b

breaks_reads : {s : List ℕ} {o : Outcome (Unit {0})} {k : ℕ} → Reads s o → Breaks s k → o ≡ refused TEXT k
breaks_reads (whole t) b = absurd (b.wrong t)
breaks_reads (broken a) b = ap (refused TEXT) (longest_once a.prefix b.prefix)

breaks_somewhere : (s : List ℕ) → (Text s → ⊥) → (k : ℕ) × Breaks s k
breaks_somewhere s h = go (is_text s) refl
  where
    go : (b : Bool) → is_text s ≡ b → (k : ℕ) × Breaks s k
    go true e = absurd (h (is-text s e))
    go false e = (break_at s, breaks_at s e)

-- ---- all of it
pub broken_texts : BrokenTexts
broken_texts = record {
  broken = λ s. (breaks_somewhere s, λ (k, b). b.wrong);
  continues = λ s k b. b.prefix.continues;
  stops = λ s k b. longest_stops b.prefix;
  only = λ s k b j w c h. longest_once (stops_longest w c h) b.prefix;
  calls = λ s r h k. (reads_breaks h, breaks_reads h);
  files = file_pointed;
  fields = field_points;
  messages = message_points;
  adds = add-zero;
  writing = writing-zero;
}
