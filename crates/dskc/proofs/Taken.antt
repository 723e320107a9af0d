-- A wrapper is taken exactly if it is the rendering of valid controllers, which are unique; its canonical form is taken, of the same length, and its own.
-- Assumes nothing.
use mathlib.Core.Path.{◌≡◌, refl, sym, ◌∙◌, ap}
use mathlib.Core.Bool.{true}
use mathlib.Core.List.{List, [], ◌∷◌, ◌++◌, append-nil}
use Prim.Native.Nat.{ℕ, ◌+◌, ◌≤◌, ◌<◌}
use native.Mathlib.Omega.{arith}
use lib.ListN.{length, take, drop}
use lib.Seq.{get_or-drop}
use lib.Dec.{eqb}
use borrow.Author.Tests.{leb-true, le-leb, eqb-true}
use Rattle.answer.specs.Outcome.{taken, Pass, moved}
use Rattle.answer.proofs.Checks.{pass-checked, and_true}
use Rattle.wire.specs.Numbers.{Bytes, le, le_at, bytes_of}
use Rattle.wire.proofs.Numbers.{bytes_of-le_at}
use Rattle.wire.proofs.Letters.{same_true, peeled}
use Rattle.order.specs.Keyed.{sort}
use Rattle.order.specs.Entries.{starts_from}
use Rattle.order.proofs.Perms.{perm_weigh}
use Rattle.order.proofs.Sorts.{sort_perm, sort_up, up_sort}
use Rattle.entries.specs.Kinds.{address, bus_of, device_of, function_of, controllers}
use Rattle.entries.specs.declared.Kind.TheVariants as kind
use Rattle.entries.proofs.Lawful.{Lawful, lawful}
use Rattle.lists.specs.Lists.{key_at, list_at, list_bytes}
use Rattle.lists.proofs.Taken.{list_sound, closed_tail}
use Rattle.lists.proofs.Written.{Good, good_sort, good_entries, length_list, bare_taken, entries-bare, list-bytes}
use Rattle.dskc.specs.Wrapper.{wrapper_most, aero, dskc, wrapper_header, wrapper_header_checks, wrapper_of, wrapper_bytes, IsWrapper, controllers_of}
use Rattle.dskc.proofs.Reading.{whole}

abbrev K : Lawful controllers
K = lawful kind.Controllers

-- a number that has a fixed value has fixed bytes
fixed_at : (n : ℕ) (s : List ℕ) (at v : ℕ) → Bytes s → at + n ≤ length s → eqb (le_at n s at) v ≡ true → take n (drop at s) ≡ bytes_of n v
fixed_at n s at v b h e = sym (bytes_of-le_at n s at b h) ∙ ap (bytes_of n) (eqb-true _ _ e)

header_sound : (s : List ℕ) → Bytes s → Pass (wrapper_header_checks s) → s ≡ wrapper_header ++ drop 16 s
unfolding bytes_of
header_sound s b (z, (l, (a, (p, (d, (q, u)))))) =
    let h : 16 ≤ length s = leb-true 16 (length s) l in
    let p' = and_true _ _ p in
    let q' = and_true _ _ q in
    peeled 4 0 s aero (same_true _ _ a) ∙ ap (λ (t : List ℕ). aero ++ t) (
    peeled 2 4 s (1 ∷ 0 ∷ []) (fixed_at 2 s 4 1 b (omega arith) p'.0) ∙ ap (λ (t : List ℕ). 1 ∷ 0 ∷ t) (
    peeled 2 6 s (0 ∷ 0 ∷ []) (fixed_at 2 s 6 0 b (omega arith) p'.1) ∙ ap (λ (t : List ℕ). 0 ∷ 0 ∷ t) (
    peeled 4 8 s dskc (same_true _ _ d) ∙ ap (λ (t : List ℕ). dskc ++ t) (
    peeled 2 12 s (1 ∷ 0 ∷ []) (fixed_at 2 s 12 1 b (omega arith) q'.0) ∙ ap (λ (t : List ℕ). 1 ∷ 0 ∷ t) (
    peeled 2 14 s (0 ∷ 0 ∷ []) (fixed_at 2 s 14 0 b (omega arith) q'.1))))))

header_complete : (t : List ℕ) → length (wrapper_header ++ t) ≤ wrapper_most → Pass (wrapper_header_checks (wrapper_header ++ t))
unfolding le_at le
header_complete t h = (le-leb _ _ h, (le-leb 16 (length (wrapper_header ++ t)) (omega arith), (refl, (refl, (refl, (refl, tt))))))

-- ---- taken exactly

pub wrapper_sound : (s : List ℕ) {r : List ℕ} → Bytes s → wrapper_of s ≡ taken r → (s ≡ wrapper_bytes (controllers_of s)) × IsWrapper (controllers_of s)
wrapper_sound s b h =
    let w = whole s h in
    let g = good_entries controllers (drop 16 s) (list_sound K (drop 16 s) w.1) in
    let part : Bytes (drop 16 s) = λ i. rw (get_or-drop 16 s i 0) (b (16 + i)) in
    let e : s ≡ wrapper_bytes (controllers_of s) = header_sound s b w.0 ∙ ap (λ (t : List ℕ). wrapper_header ++ t) (
    list-bytes K (drop 16 s) w.1 part
    ∙ ap (λ (t : List ℕ). list_bytes (controllers_of s) ++ t) (closed_tail controllers (drop 16 s) refl (list_sound K (drop 16 s) w.1))
    ∙ append-nil (list_bytes (controllers_of s))
    ) in
    (e, record { few = g.few; short = omega (arith, leb-true (length s) wrapper_most w.0.0, ap length e); are = g.are; apart = g.apart })

good : (l : List (List ℕ)) → IsWrapper l → Good controllers l
good l v = record { are = v.are; apart = v.apart; few = v.few }

pub wrapper_complete : (l : List (List ℕ)) → IsWrapper l → wrapper_of (wrapper_bytes l) ≡ taken (sort (key_at controllers (list_bytes l)) (starts_from 4 l))
unfolding wrapper_of
wrapper_complete l v =
    pass-checked (wrapper_header_checks (wrapper_bytes l)) (moved 16 (list_at controllers (list_bytes l))) (header_complete (list_bytes l) v.short)
    ∙ ap (moved 16) (bare_taken K l (good l v))

-- the controllers of a rendering are those that were rendered, so two renderings are equal only of the same
pub controllers_back : (l : List (List ℕ)) → IsWrapper l → controllers_of (wrapper_bytes l) ≡ l
controllers_back l v = entries-bare K l (good l v)

pub wrapper_one : (l m : List (List ℕ)) → IsWrapper l → IsWrapper m → wrapper_bytes l ≡ wrapper_bytes m → l ≡ m
wrapper_one l m v w e = sym (controllers_back l v) ∙ ap controllers_of e ∙ controllers_back m w

-- ---- the canonical form

-- in address order
abbrev pub ordered : List (List ℕ) → List (List ℕ)
ordered = sort controllers.key

pub ordered-length : (l : List (List ℕ)) → length (wrapper_bytes (ordered l)) ≡ length (wrapper_bytes l)
ordered-length l = omega (arith, length_list (ordered l), length_list l, perm_weigh length (sort_perm controllers.key l))

-- is valid too, so that it is taken
pub ordered_valid : (l : List (List ℕ)) → IsWrapper l → IsWrapper (ordered l)
ordered_valid l v =
    let g = good_sort controllers l (good l v) in
    record { few = g.few; short = rw (ordered-length l) v.short; are = g.are; apart = g.apart }

-- and its own canonical form
pub ordered_again : (l : List (List ℕ)) → ordered (ordered l) ≡ ordered l
ordered_again l = up_sort controllers.key 0 (ordered l) (sort_up controllers.key l)

-- ---- addresses

-- bus × 256 + device × 8 + function
pub address_parts : (a : ℕ) → address (bus_of a) (device_of a) (function_of a) ≡ a
address_parts a = omega arith

pub parts_address : (b d f : ℕ) → d < 32 → f < 8 → (bus_of (address b d f) ≡ b) × (device_of (address b d f) ≡ d) × (function_of (address b d f) ≡ f)
parts_address b d f h k = (omega arith, omega arith, omega arith)
