-- A file is taken exactly if it is the header and valid sections, and then its sections are these.
-- Assumes nothing.
use mathlib.Core.Path.{◌≡◌, refl, sym, ◌∙◌, ap}
use mathlib.Core.Logic.{◌↔◌}
use mathlib.Core.List.{List, [], ◌∷◌, ◌++◌}
use mathlib.Core.Bool.{true}
use Prim.Native.Nat.{ℕ, ◌+◌, ◌/◌, ◌%◌, ◌≤◌, ◌<◌}
use native.Mathlib.Omega.{arith}
use lib.ListN.{length, take, drop, length-drop, take-append-drop}
use lib.Seq.{drop-drop, length-take-le}
use lib.Dec.{eqb}
use borrow.Author.Tests.{leb-true, le-leb, eqb-true}
use Rattle.answer.specs.Outcome.{taken, Pass}
use Rattle.answer.proofs.Checks.{checked-pass, pass-checked}
use Rattle.answer.proofs.Outcomes.{taken_is}
use Rattle.wire.specs.Numbers.{le, le_at, bytes_of}
use Rattle.wire.proofs.Letters.{same_true}
use Rattle.order.specs.Entries.{join}
use Rattle.aerosnap.specs.File.{file_most, sections_most, letters, header, header_checks, sections, file_of}
use Rattle.aerosnap.specs.Rules.{IsFile}
use Rattle.aerosnap.proofs.Sections.{sections_complete, sections_sound}

-- ---- the header

-- numbers that say a number below 256 are its bytes
small : (x : List ℕ) (v : ℕ) → le x ≡ v → v < 256 → x ≡ bytes_of (length x) v
unfolding le bytes_of
small [] v h i = refl
small (a ∷ x) v h i =
    let r : le x ≡ v / 256 = omega arith in
    let q : a ≡ v % 256 = omega arith in
    cc (q, small x (v / 256) r (omega arith))

-- the n bytes at a place, if they say such a number: they, and what follows them
peeled : (n at v : ℕ) (s : List ℕ) → at + n ≤ length s → eqb (le_at n s at) v ≡ true → v < 256 → drop at s ≡ bytes_of n v ++ drop (at + n) s
unfolding le_at
peeled n at v s i h j =
    let x : List ℕ = take n (drop at s) in
    let l : length x ≡ n = length-take-le n (drop at s) (rw length-drop (omega arith)) in
    let q : x ≡ bytes_of n v = small x v (eqb-true _ _ h) j ∙ ap (λ (k : ℕ). bytes_of k v) l in
    sym (take-append-drop n (drop at s)) ∙ cc (q, drop-drop n at s)

pub header_sound : (s : List ℕ) → Pass (header_checks s) → s ≡ header ++ drop 16 s
unfolding bytes_of
header_sound s (_, (n, (m, (v, (e, (r, (u, _))))))) =
    let l : 16 ≤ length s = leb-true _ _ n in
    sym (take-append-drop 8 s) ∙ ap (λ (t : List ℕ). t ++ drop 8 s) (same_true (take 8 s) letters m) ∙ ap (λ (t : List ℕ). letters ++ t) (
    peeled 2 8 1 s (omega arith) v (omega arith) ∙ ap (λ (t : List ℕ). 1 ∷ 0 ∷ t) (
    peeled 1 10 1 s (omega arith) e (omega arith) ∙ ap (λ (t : List ℕ). 1 ∷ t) (
    peeled 1 11 0 s (omega arith) r (omega arith) ∙ ap (λ (t : List ℕ). 0 ∷ t) (
    peeled 4 12 0 s (omega arith) u (omega arith)))))

-- ---- the file

pub file_sound : (s : List ℕ) {l : List (List ℕ)} → file_of s ≡ taken l → (s ≡ header ++ join l) × IsFile l
unfolding file_of
file_sound s {l} h =
    let p = checked-pass (header_checks s) (sections sections_most [] 16 (drop 16 s)) l h in
    let v = sections_sound sections_most [] 16 (drop 16 s) (omega arith) tt p.1 in
    let e : s ≡ header ++ join l = header_sound s p.0 ∙ rw v.all (ap (λ (b : List ℕ). header ++ b) v.cut) in
    (e, rw v.all (record { few = v.few; short = omega (arith, leb-true (length s) file_most p.0.0, ap length e, ap (λ (m : List (List ℕ)). length (join m)) v.all); are = v.are; once = v.once }))

pub file_complete : (l : List (List ℕ)) → IsFile l → file_of (header ++ join l) ≡ taken l
unfolding file_of le_at le
file_complete l v =
    pass-checked (header_checks (header ++ join l)) (sections sections_most [] 16 (join l))
    (le-leb (length (header ++ join l)) file_most v.short, (le-leb 16 (length (header ++ join l)) (omega arith), (refl, (refl, (refl, (refl, (refl, tt)))))))
    ∙ sections_complete l sections_most [] 16 v.few (omega (arith, v.few)) v.are v.once

-- A file is taken with certain sections exactly if it is the header and these, and they are valid.
pub taken_exactly : (s : List ℕ) (l : List (List ℕ)) → (file_of s ≡ taken l) ↔ ((s ≡ header ++ join l) × IsFile l)
taken_exactly s l = (file_sound s, λ h. ap file_of h.0 ∙ file_complete l h.1)

-- The sections of a file are the only ones.
pub file_unique : (l m : List (List ℕ)) → IsFile l → IsFile m → header ++ join l ≡ header ++ join m → l ≡ m
file_unique l m v w e = taken_is (sym (file_complete l v) ∙ ap file_of e ∙ file_complete m w)
