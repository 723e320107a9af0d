-- Rows of 16 bytes read from a list and written back.
-- Assumes nothing.
use mathlib.Core.Path.{◌≡◌, refl, sym, ap, ◌∙◌}
use mathlib.Core.List.{List, [], ◌∷◌, ◌++◌, append_assoc, append-nil}
use Prim.Native.Nat.{ℕ, zero, suc, ◌+◌, ◌*◌, ◌≤◌, ◌<◌}
use native.Mathlib.Omega.{arith}
use lib.ListN.{length, take, drop, get_or, set, length-drop, take-append-drop}
use lib.Seq.{length-take-le, take-add, drop-drop, take-suc, take-suc-set}
use Rattle.wire.specs.Parts.{splice, put, Wrote}
use Rattle.wire.proofs.Parts.{wrote_put}
use Rattle.sheet.specs.Vectors.{rows, joined}

-- one row more, at the end
pub rows_snoc : (n : ℕ) (l : List ℕ) → rows (suc n) l ≡ rows n l ++ (take 16 (drop (n * 16) l) ∷ [])
unfolding rows
rows_snoc zero l = refl
rows_snoc (suc n) l =
    let e : 16 + n * 16 ≡ suc n * 16 = omega arith in
    let place : drop (n * 16) (drop 16 l) ≡ drop (suc n * 16) l = drop-drop (n * 16) 16 l ∙ ap (λ (j : ℕ). drop j l) e in
    ap (λ (k : List (List ℕ)). take 16 l ∷ k) (rows_snoc n (drop 16 l) ∙ ap (λ (m : List ℕ). rows n (drop 16 l) ++ (take 16 m ∷ [])) place)

-- a turn of the reading loop
pub read_on : (i : ℕ) (a : List (List ℕ)) (l r : List ℕ) → i < length a → take i a ≡ rows i l → r ≡ take 16 (drop (i * 16) l) → take (i + 1) (set a i r) ≡ rows (i + 1) l
read_on i a l r h e f =
    let k : i + 1 ≡ suc i = omega arith in
    rw k (take-suc-set a i r h ∙ rw (e, f) (sym (rows_snoc i l)))

pub joined_snoc : (l : List (List ℕ)) (r : List ℕ) → joined (l ++ (r ∷ [])) ≡ joined l ++ r
unfolding joined
joined_snoc [] r = append-nil r
joined_snoc (x ∷ l) r = ap (λ (k : List ℕ). x ++ k) (joined_snoc l r) ∙ sym (append_assoc x (joined l) r)

-- the rows' bytes are those that they were read from
pub joined-rows : (n : ℕ) (l : List ℕ) → joined (rows n l) ≡ take (n * 16) l
unfolding joined rows
joined-rows zero l = refl
joined-rows (suc n) l =
    let e : suc n * 16 ≡ 16 + n * 16 = omega arith in
    ap (λ (k : List ℕ). take 16 l ++ k) (joined-rows n (drop 16 l)) ∙ sym (rw e (take-add 16 (n * 16) l))

-- read and written back, nothing changes
pub back : (n at : ℕ) (s : List ℕ) → at + n * 16 ≤ length s → splice at (joined (rows n (drop at s))) s ≡ s
unfolding splice
back n at s h =
    let g : n * 16 ≤ length (drop at s) = rw (length-drop) (omega arith) in
    rw (joined-rows, length-take-le (n * 16) (drop at s) g) (ap (λ (k : List ℕ). k ++ drop (at + n * 16) s) (sym (take-add at (n * 16) s)) ∙ take-append-drop (at + n * 16) s)

-- a turn of the writing loop
pub write_on : (i : ℕ) (a : List (List ℕ)) (at : ℕ) {old now new : List ℕ} → i < length a → length (get_or a i []) ≡ 16 → at + (i + 1) * 16 ≤ length now
    → Wrote (take at old ++ joined (take i a)) old now (at + i * 16) → new ≡ put (at + i * 16) (get_or a i []) now → Wrote (take at old ++ joined (take (i + 1) a)) old new (at + (i + 1) * 16)
write_on i a at {old} {now} {new} h n room so e =
    let k : i + 1 ≡ suc i = omega arith in
    let j : at + i * 16 + length (get_or a i []) ≡ at + (i + 1) * 16 = omega arith in
    let more : joined (take (i + 1) a) ≡ joined (take i a) ++ get_or a i [] = rw k (ap joined (take-suc a i [] h) ∙ joined_snoc (take i a) (get_or a i [])) in
    rw (more, ← append_assoc (take at old) (joined (take i a)) (get_or a i []), ← j) (wrote_put so (get_or a i []) (omega arith) e)
