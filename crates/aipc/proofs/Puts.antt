-- Fields, data and whole messages that are put into the output part by part.
-- Assumes nothing.
use mathlib.Core.Path.{◌≡◌, refl, sym, ap, ◌∙◌}
use mathlib.Core.Bool.{Bool, true, false, cond}
use mathlib.Core.List.{List, [], ◌∷◌, ◌++◌, append_assoc, append-nil}
use Prim.Native.Nat.{ℕ, ◌+◌, ◌*◌, ◌%◌, ◌^◌, ◌≤◌, ◌<◌}
use native.Mathlib.Nat.{add-zero, add_assoc}
use native.Mathlib.Omega.{arith}
use lib.Dec.{leb}
use lib.ListN.{length, take, drop, get_or, take-append-drop}
use Rattle.std.proofs.Math.Seq.{drop-cons}
use Rattle.std.proofs.Math.ListN.{drop_of_length-le}
use native.Mathlib.Numerals.{add-one}
use Rattle.wire.specs.Numbers.{bytes_of}
use Rattle.wire.specs.Parts.{splice, put, Wrote}
use Rattle.wire.proofs.Numbers.{length-bytes_of, bytes_of-halves}
use Rattle.wire.proofs.Parts.{none, length-put, wrote_put}
use Rattle.kinds.specs.declared.Body.{Body}
use Rattle.kinds.specs.declared.Body.TheVariants.{Empty, Bytes, Text}
use Rattle.kinds.specs.declared.Cell.{Cell}
use Rattle.kinds.specs.declared.Form.{Form}
use Rattle.kinds.specs.Kinds.{cells, ok_of, none as no_cell}
use Rattle.messages.specs.Fields.{field_width, size_of}
use Rattle.messages.specs.Reading.{numbers_end}
use Rattle.messages.specs.Writing.{field_bytes, body_bytes, with_length, form_bytes}
use Rattle.messages.proofs.Lengths.{length_sized, length_form}
use Rattle.aipc.specs.Steps.{put_cells, put_sized, put_body, put_form}

-- the bytes of a number are those of what fits the width
pub bytes_low : (n x : ℕ) → bytes_of n (x % 256 ^ n) ≡ bytes_of n x
unfolding bytes_of
bytes_low n x = sym (append-nil _) ∙ bytes_of-halves n 0 x ∙ ap (λ (k : ℕ). bytes_of k x) (add-zero n)

-- a number of a known width, put by its low bytes
pub put_low : (at n x : ℕ) (out : List ℕ) {w : ℕ} {new : List ℕ} → n ≡ w → new ≡ put at (bytes_of n (x % 256 ^ n)) out → new ≡ put at (bytes_of w x) out
put_low at n x out e h = rw (← e) (h ∙ ap (λ (l : List ℕ). put at l out) (bytes_low n x))

-- a length and as many bytes
pub sized_so : (at : ℕ) (d out : List ℕ) {l new : List ℕ} → l ≡ put at (bytes_of 4 (length d % 4294967296)) out → new ≡ put (at + 4) d l → new ≡ put_sized d at out
sized_so at d out e h = rw (← put_low at 4 (length d) out refl e) h

-- nothing put is nothing changed
pub put-none : (at : ℕ) (x : ℕ) (out : List ℕ) → out ≡ put at (bytes_of 0 x) out
unfolding put splice bytes_of
put-none at x out = go (leb (at + 0) (length out))
  where
    go : (b : Bool) → out ≡ cond b ((take at out ++ []) ++ drop (at + 0) out) out
    go true = sym (rw (append-nil, add-zero) (take-append-drop at out))
    go false = refl

-- ---- the parts behind each other

pub wrote_cells : {w old l : List ℕ} {at : ℕ} (ok : ℕ) (cs : List Cell) → Wrote w old l at → at + size_of ok cs ≤ length l
    → Wrote (w ++ field_bytes ok cs) old (put_cells ok cs at l) (at + size_of ok cs)
unfolding field_bytes size_of put_cells
wrote_cells ok [] so h = rw (append-nil, add-zero) so
wrote_cells {w} {old} {l} {at} ok (c ∷ cs) so h =
    let n = field_width ok c.0 in
    let bs = bytes_of n c.1 in
    let e : length bs ≡ n = length-bytes_of n c.1 in
    let one : Wrote (w ++ bs) old (put at bs l) (at + n) = rw e at (wrote_put so bs (omega arith) refl) in
    rw (← append_assoc w bs (field_bytes ok cs), ← add_assoc at n (size_of ok cs)) (wrote_cells {w = w ++ bs} {old = old} {l = put at bs l} {at = at + n} ok cs one (rw (length-put at bs l) (omega arith)))

pub wrote_sized : {w old l : List ℕ} {at : ℕ} (d : List ℕ) → Wrote w old l at → at + (4 + length d) ≤ length l
    → Wrote (w ++ with_length d) old (put_sized d at l) (at + (4 + length d))
wrote_sized {w} {old} {l} {at} d so h =
    let bs = bytes_of 4 (length d) in
    let e : length bs ≡ 4 = length-bytes_of 4 (length d) in
    let one : Wrote (w ++ bs) old (put at bs l) (at + 4) = rw e at (wrote_put so bs (omega arith) refl) in
    rw (← append_assoc w bs d, ← add_assoc at 4 (length d)) (wrote_put one d (rw (length-put at bs l) (omega arith)) refl)

length-cells : (ok : ℕ) (cs : List Cell) (at : ℕ) (out : List ℕ) → length (put_cells ok cs at out) ≡ length out
unfolding put_cells
length-cells ok [] at out = refl
length-cells ok (c ∷ cs) at out = length-cells ok cs (at + field_width ok c.0) (put at (bytes_of (field_width ok c.0) c.1) out) ∙ length-put at (bytes_of (field_width ok c.0) c.1) out

-- what stands behind the numbers
pub wrote_body : {w old l : List ℕ} {at : ℕ} (b : Body) (d : List ℕ) → Wrote w old l at → at + length (body_bytes b d) ≤ length l
    → Wrote (w ++ body_bytes b d) old (put_body b d at l) (at + length (body_bytes b d))
wrote_body Empty d so h = rw (append-nil, add-zero) so
wrote_body Bytes d so h = let e = length_sized d in rw e (wrote_sized d so (omega arith))
wrote_body Text d so h = let e = length_sized d in rw e (wrote_sized d so (omega arith))

-- the whole message over the start of the output
pub put-form : (f : Form) (d out : List ℕ) → length (form_bytes f d) ≤ length out → put_form f d out ≡ form_bytes f d ++ drop (length (form_bytes f d)) out
unfolding put_form form_bytes
put-form f d out h =
    let t = bytes_of 2 f.tag in
    let q = field_bytes (ok_of f) (cells f) in
    let e : length t ≡ 2 = length-bytes_of 2 f.tag in
    let s : length (t ++ (q ++ body_bytes f.body d)) ≡ numbers_end f + length (body_bytes f.body d) = length_form f d in
    let z : length (put 0 t out) ≡ length out = length-put 0 t out in
    let y : length (put_cells (ok_of f) (cells f) 2 (put 0 t out)) ≡ length out = length-cells (ok_of f) (cells f) 2 (put 0 t out) ∙ z in
    let one : Wrote t out (put 0 t out) 2 = rw e at (wrote_put (none out) t (omega arith) refl) in
    let two : Wrote (t ++ q) out (put_cells (ok_of f) (cells f) 2 (put 0 t out)) (numbers_end f) = wrote_cells (ok_of f) (cells f) one (omega arith) in
    let all = wrote_body f.body d two (omega arith) in
    all.bytes ∙ ap (λ (w : List ℕ). w ++ drop (length w) out) (append_assoc t q (body_bytes f.body d))

-- as the code comes to the fields from the i-th on: what is still to be put
pub record Putting (ok : ℕ) (cs : List Cell) (out : List ℕ) (i at : ℕ) (l : List ℕ) : Type 0 where
  pub same : put_cells ok (drop i cs) at l ≡ put_cells ok cs 2 out
  pub small : at ≤ 2 + 8 * i

module _ (ok : ℕ) (cs : List Cell) (out : List ℕ) where
  pub putting_next : {i at : ℕ} {l l' : List ℕ} → Putting ok cs out i at l → i < length cs → {items : List Cell} {o w : ℕ} → items ≡ cs → o ≡ ok → (w ≡ field_width o (get_or items i no_cell).0) × (w ≤ 8)
      → l' ≡ put at (bytes_of (field_width o (get_or items i no_cell).0) (get_or items i no_cell).1) l → Putting ok cs out (i + 1) (at + w) l'
  unfolding put_cells
  putting_next {i} {at} {l} {l'} r k q p e h =
      let c : Cell = get_or cs i no_cell in
      let s : drop i cs ≡ c ∷ drop (i + 1) cs = rw add-one (drop-cons cs i no_cell k) in
      let m = r.small in
      let b = e.1 in
      record { same = rw (rw (q, p) at e.0, rw (q, p) at h) (rw s at r.same); small = omega arith }

  pub putting_all : {i at : ℕ} {l : List ℕ} → Putting ok cs out i at l → length cs ≤ i → l ≡ put_cells ok cs 2 out
  unfolding put_cells
  putting_all {i} {at} {l} r k = let d : drop i cs ≡ [] = drop_of_length-le cs k in rw d at r.same

abbrev pub cell_bytes : ℕ → Cell → List ℕ
cell_bytes ok c = bytes_of (field_width ok c.0) c.1

-- four fields, each put where the one before it ends
pub put_four : (f : Form) (out : List ℕ) {l₁ l₂ l₃ l₄ : List ℕ} {w₁ w₂ w₃ : ℕ} → w₁ ≡ field_width (ok_of f) f.a.0 → w₂ ≡ field_width (ok_of f) f.b.0 → w₃ ≡ field_width (ok_of f) f.c.0
    → l₁ ≡ put 2 (cell_bytes (ok_of f) f.a) out
    → l₂ ≡ put (2 + w₁) (cell_bytes (ok_of f) f.b) l₁
    → l₃ ≡ put (2 + w₁ + w₂) (cell_bytes (ok_of f) f.c) l₂
    → l₄ ≡ put (2 + w₁ + w₂ + w₃) (cell_bytes (ok_of f) f.d) l₃
    → l₄ ≡ put_cells (ok_of f) (cells f) 2 out
unfolding put_cells
put_four f out a b c p q r s = s ∙ rw (r, q, p, a, b, c)
