-- What was written is read back: numbers, data, the whole message.
-- Assumes nothing.
use mathlib.Core.Path.{◌≡◌, refl, sym, ap, ◌∙◌}
use mathlib.Core.Bool.{true}
use mathlib.Core.List.{List, [], ◌∷◌, ◌++◌, append_assoc, append-nil}
use Prim.Native.Nat.{ℕ, ◌+◌, ◌^◌, ◌≤◌, ◌<◌}
use native.Mathlib.Omega.{arith}
use borrow.Author.Tests.{le-leb, leb-true}
use lib.Dec.{leb}
use lib.ListN.{length, take, drop, length-append}
use lib.Seq.{drop_at, take-length}
use Rattle.answer.specs.Numbers.{TEXT, LIMIT}
use Rattle.answer.specs.Outcome.{taken, Checks, Pass}
use Rattle.answer.proofs.Checks.{pass-checked, pass-append, append-pass}
use Rattle.wire.specs.Numbers.{le_at, bytes_of}
use Rattle.wire.proofs.Numbers.{length-bytes_of, le_at_here, le_at-bytes_of}
use Rattle.utf8.specs.Scan.{is_text, break_at}
use Rattle.kinds.specs.declared.Message.{Message}
use Rattle.kinds.specs.declared.Body.{Body}
use Rattle.kinds.specs.declared.Body.TheVariants.{Empty, Bytes, Text}
use Rattle.kinds.specs.declared.Cell.{Cell}
use Rattle.kinds.specs.declared.Form.{Form}
use Rattle.kinds.specs.Kinds.{paper, cells, ok_of}
use Rattle.messages.specs.Fields.{field_width, numbers_at, message_at}
use Rattle.messages.specs.Reading.{message_most, cell_checks, data_length, data_fits, data_in, left_over_checks, body_checks, numbers_end, read_checks, MessageAndData, message_content, read_message}
use Rattle.messages.specs.Writing.{field_bytes, with_length, body_bytes, form_bytes, value_checks, data_checks, write_checks, written}
use Rattle.messages.proofs.Cells.{fields_in, numbers_in, Fit, Allowed, Typed, widths}
use Rattle.messages.proofs.Table.{found}
use Rattle.messages.proofs.Lengths.{length_fields, length_sized, length_form}

-- a number that stands behind other bytes
le_at-behind : (p q : List ℕ) (n v at : ℕ) → at ≡ length p → v < 256 ^ n → le_at n (p ++ (bytes_of n v ++ q)) at ≡ v
le_at-behind p q n v at a h =
    sym (le_at_here n (p ++ (bytes_of n v ++ q)) at) ∙ rw (drop_at p (bytes_of n v ++ q) at (sym a)) (le_at-bytes_of n v q h)

-- ---- the numbers

pub record Back (ok : ℕ) (cs : List Cell) (at : ℕ) (m : List ℕ) : Type 0 where
  pub passes : Pass (cell_checks ok cs at m)
  pub numbers : numbers_at ok (fields_in cs) at m ≡ numbers_in cs

pub back : (ok : ℕ) (cs : List Cell) (p q m : List ℕ) (at : ℕ) → Fit ok cs → Allowed ok cs → m ≡ p ++ (field_bytes ok cs ++ q) → at ≡ length p → Back ok cs at m
unfolding cell_checks numbers_at field_bytes
back ok [] p q m at f h e a = record { passes = tt; numbers = refl }
back ok (c ∷ cs) p q m at f h e a =
    let n = field_width ok c.0 in
    let b = bytes_of n c.1 in
    let r = field_bytes ok cs ++ q in
    let e₁ : m ≡ p ++ (b ++ r) = e ∙ rw append_assoc in
    let e₂ : m ≡ (p ++ b) ++ r = e₁ ∙ sym (append_assoc p b r) in
    let z : length b ≡ n = length-bytes_of n c.1 in
    let a₂ : at + n ≡ length (p ++ b) = rw length-append (omega arith) in
    let l : length m ≡ length p + (length b + length r) = ap length e₁ ∙ rw (length-append, length-append) in
    let k = back ok cs (p ++ b) q m (at + n) f.1 h.1 e₂ a₂ in
    let x : le_at n m at ≡ c.1 = rw e₁ (le_at-behind p r n c.1 at a f.0) in
    record { passes = (le-leb (at + n) (length m) (omega arith), (h.0, k.passes)); numbers = rw (x, k.numbers) }

-- numbers of their types that are among the values of their fields fit the bytes of them
pub fit : (ok : ℕ) (cs : List Cell) → Fit 0 cs → Allowed ok cs → Fit ok cs
fit ok [] f h = tt
fit ok (c ∷ cs) f h = ((widths ok c.0 c.1).fits h.0 f.0, fit ok cs f.1 h.1)

pub values-allowed : (ok : ℕ) (cs : List Cell) → Pass (value_checks ok cs) → Allowed ok cs
unfolding value_checks
values-allowed ok [] h = tt
values-allowed ok (c ∷ cs) h = (h.0, values-allowed ok cs h.1)

-- ---- the data

-- where the data of a message starts: 0 for a kind that has none
abbrev pub start_of : Body → ℕ → ℕ
start_of Empty at = 0
start_of Bytes at = at + 4
start_of Text at = at + 4

nil : (d : List ℕ) → length d ≤ 0 → d ≡ []
nil [] h = refl
nil (x ∷ d) h = absurd (omega arith)

record Sized (at : ℕ) (d m : List ℕ) : Type 0 where
  len : data_length at m ≡ length d
  bytes : data_in at m ≡ d
  fits : Pass (data_fits at m)
  ends : Pass (left_over_checks m (at + 4 + data_length at m))

sized_back : (d p m : List ℕ) (at : ℕ) → m ≡ p ++ with_length d → at ≡ length p → length d < 256 ^ 4 → Sized at d m
sized_back d p m at e a h =
    let b = bytes_of 4 (length d) in
    let z : length b ≡ 4 = length-bytes_of 4 (length d) in
    let n : data_length at m ≡ length d = rw e (le_at-behind p d 4 (length d) at a h) in
    let l : length m ≡ length p + (length b + length d) = ap length e ∙ rw (length-append, length-append) in
    let r : drop (at + 4) m ≡ d = rw (e, ← append_assoc p b d) (drop_at (p ++ b) d (at + 4) (rw length-append (omega arith))) in
    record { len = n; bytes = rw (n, r) (take-length d); fits = (le-leb (at + 4) (length m) (omega arith), (le-leb (at + 4 + data_length at m) (length m) (omega arith), tt)); ends = (le-leb (length m) (at + 4 + data_length at m) (omega arith), tt) }

pub record Behind (b : Body) (k : Message) (d : List ℕ) (at : ℕ) (m : List ℕ) : Type 0 where
  pub passes : Pass (body_checks b at m)
  pub content : message_content k b at m ≡ record { message = k; start = start_of b at; len = length d }
  pub bytes : take (length d) (drop (start_of b at) m) ≡ d

pub body_back : (b : Body) (k : Message) (d p m : List ℕ) (at : ℕ) → Pass (data_checks b d) → m ≡ p ++ body_bytes b d → at ≡ length p → length d < 256 ^ 4 → Behind b k d at m
unfolding body_checks
body_back Empty k d p m at c e a h =
    let z = nil d (leb-true (length d) 0 c.0) in
    let l : length m ≡ length p = ap length (e ∙ append-nil p) in
    record { passes = (le-leb (length m) at (omega arith), tt); content = rw z; bytes = rw z }
body_back Bytes k d p m at c e a h =
    let s = sized_back d p m at e a h in
    record { passes = pass-append (data_fits at m) (left_over_checks m (at + 4 + data_length at m)) s.fits s.ends; content = rw s.len; bytes = rw s.len at s.bytes }
body_back Text k d p m at c e a h =
    let s = sized_back d p m at e a h in
    record { passes = pass-append (data_fits at m) ((is_text (data_in at m), TEXT, at + 4 + break_at (data_in at m)) ∷ left_over_checks m (at + 4 + data_length at m)) s.fits (rw s.bytes c.0, s.ends); content = rw s.len; bytes = rw s.len at s.bytes }

-- ---- the whole

-- the checks of writing, taken apart
pub record Writable (f : Form) (d : List ℕ) : Type 0 where
  pub known : f.known ≡ true
  pub values : Allowed (ok_of f) (cells f)
  pub contents : Pass (data_checks f.body d)
  pub short : length (form_bytes f d) ≤ message_most

pub writable : (f : Form) (d : List ℕ) → Pass (write_checks f d) → Writable f d
unfolding write_checks
writable f d h =
    let l : Checks = (leb (length (form_bytes f d)) message_most, LIMIT, 0) ∷ [] in
    let v = append-pass (value_checks (ok_of f) (cells f)) (data_checks f.body d ++ l) h.1 in
    let c = append-pass (data_checks f.body d) l v.1 in
    record { known = h.0; values = values-allowed (ok_of f) (cells f) v.0; contents = c.0; short = leb-true (length (form_bytes f d)) message_most c.1.0 }

data_short : (b : Body) (d : List ℕ) → Pass (data_checks b d) → length (body_bytes b d) ≤ message_most → length d < 256 ^ 4
data_short Empty d c h = omega (arith, leb-true (length d) 0 c.0)
data_short Bytes d c h = omega (arith, length_sized d)
data_short Text d c h = omega (arith, length_sized d)

abbrev pub told : Message → List ℕ → MessageAndData
told k d = record { message = k; start = start_of (paper k).body (numbers_end (paper k)); len = length d }

pub record Round (k : Message) (d m : List ℕ) : Type 0 where
  pub reads : read_message m ≡ taken (told k d)
  pub bytes : take (length d) (drop (told k d).start m) ≡ d

-- reading what was written gives the message, its data's place and length back
pub read-written : (k : Message) (d : List ℕ) → Typed k → Pass (write_checks (paper k) d) → Round k d (written k d)
unfolding read_message read_checks written form_bytes
read-written k d y w =
    let f = paper k in
    let ok = ok_of f in
    let t = bytes_of 2 f.tag in
    let q = field_bytes ok (cells f) in
    let m = t ++ (q ++ body_bytes f.body d) in
    let h = writable f d w in
    let g = found k in
    let z : length t ≡ 2 = length-bytes_of 2 f.tag in
    let n : length m ≡ numbers_end f + length (body_bytes f.body d) = length_form f d in
    let b = back ok (cells f) t (body_bytes f.body d) m 2 (fit ok (cells f) y h.values) h.values refl (sym z) in
    let s : message_at m ≡ k = g.said m h.known (le_at-behind [] (q ++ body_bytes f.body d) 2 f.tag 0 refl g.tag) b.numbers in
    let u : numbers_end f ≡ length (t ++ q) = rw length-append (omega (arith, length_fields ok (cells f))) in
    let r = body_back f.body k d (t ++ q) m (numbers_end f) h.contents (sym (append_assoc t q (body_bytes f.body d))) u (data_short f.body d h.contents (omega (arith, h.short))) in
    let v : Pass (read_checks f m) = (le-leb (length m) message_most h.short, (le-leb 2 (length m) (omega arith), (h.known, pass-append (cell_checks ok (cells f) 2 m) (body_checks f.body (numbers_end f) m) b.passes r.passes))) in
    record { reads = rw s (pass-checked (read_checks f m) _ v ∙ ap taken r.content); bytes = r.bytes }
