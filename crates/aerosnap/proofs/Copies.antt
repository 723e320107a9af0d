-- The bytes that are written of each section, and how many they are: a list's header and count are copied where no entry is added, other sections are copied whole.
-- Assumes nothing.
use mathlib.Core.Path.{◌≡◌, refl, sym, ◌∙◌, ap}
use mathlib.Core.List.{List, [], ◌∷◌, ◌++◌, append-nil, append_assoc}
use mathlib.Core.Bool.{Bool, true, false, cond}
use Prim.Native.Nat.{ℕ, ◌+◌, ◌≤◌}
use native.Mathlib.Omega.{arith}
use lib.ListN.{length, take, drop, length-append}
use lib.Seq.{take-add, drop-drop}
use lib.Dec.{eqb}
use Rattle.wire.specs.Numbers.{Bytes, le_at, bytes_of}
use Rattle.wire.proofs.Numbers.{bytes_of-le_at, le_at_here}
use Rattle.order.specs.Keyed.{Every, flat, sort, weigh}
use Rattle.order.specs.Entries.{join}
use Rattle.order.proofs.Folds.{every_imp, length-flat}
use Rattle.order.proofs.Perms.{perm_weigh, perm_length}
use Rattle.order.proofs.Sorts.{sort_perm}
use Rattle.order.proofs.Entries.{join-append, length-split}
use Rattle.entries.specs.Kinds.{Description}
use Rattle.entries.proofs.Lawful.{Lawful}
use Rattle.lists.specs.Lists.{width_of, entries, tail_of, list_bytes}
use Rattle.lists.proofs.Written.{good_sort, length_list}
use Rattle.aerosnap.specs.Payloads.{Body, meta, cpu, mmu, list, opaque, body_of}
use Rattle.aerosnap.specs.File.{id_of, version_of, flags_of, length_of}
use Rattle.aerosnap.specs.Rules.{IsSection, IsFile}
use Rattle.aerosnap.specs.Content.{framed, is_absent, tidied, tidy, rank, content_of, secs, render}
use Rattle.aerosnap.proofs.Written.{lists_of, list_known, empty-absent, is_empty, tidy_size}
use Rattle.aerosnap.proofs.Ranks.{secs-tidy}

-- ---- the bytes of a section

-- a payload that is no list is copied with its header
abbrev pub is_list_body : Body → Bool
is_list_body meta = false
is_list_body (cpu v) = false
is_list_body (mmu v) = false
is_list_body (list d) = true
is_list_body opaque = false

pub plain_written : (e : List ℕ) → is_list_body (body_of (id_of e) (version_of e)) ≡ false → join (tidy e) ≡ e
plain_written e h = go (body_of (id_of e) (version_of e)) h
  where
    go : (k : Body) → is_list_body k ≡ false → join (tidied k e) ≡ e
    go meta q = append-nil e
    go (cpu v) q = append-nil e
    go (mmu v) q = append-nil e
    go (list d) q = let z : ◌≡◌ {A = ℕ} 0 1 = cc in absurd (omega arith)
    go opaque q = append-nil e

-- the first n + m bytes at a place
cut : (n m at : ℕ) (e : List ℕ) → take (n + m) (drop at e) ≡ take n (drop at e) ++ take m (drop (at + n) e)
cut n m at e = take-add n m (drop at e) ∙ ap (λ (l : List ℕ). take n (drop at e) ++ take m l) (drop-drop n at e)

-- written anew, the numbers of a list's section are the same bytes
copied : (e : List ℕ) (l : List (List ℕ)) (w : List ℕ) → Bytes e → 20 ≤ length e → flags_of e ≡ 0 → length_of e ≡ length (list_bytes l ++ w) → le_at 4 e 16 ≡ length l
    → framed (id_of e) (version_of e) 0 (list_bytes l ++ w) ≡ take 20 e ++ (join l ++ w)
copied e l w b h f n c =
    let id : bytes_of 4 (id_of e) ≡ take 4 e = bytes_of-le_at 4 e 0 b (omega arith) in
    let version : bytes_of 2 (version_of e) ≡ take 2 (drop 4 e) = bytes_of-le_at 2 e 4 b (omega arith) in
    let flags : bytes_of 2 0 ≡ take 2 (drop 6 e) = ap (bytes_of 2) (sym f) ∙ bytes_of-le_at 2 e 6 b (omega arith) in
    let size : bytes_of 8 (length (list_bytes l ++ w)) ≡ take 8 (drop 8 e) = ap (bytes_of 8) (sym n) ∙ bytes_of-le_at 8 e 8 b (omega arith) in
    let count : bytes_of 4 (length l) ≡ take 4 (drop 16 e) = ap (bytes_of 4) (sym c) ∙ bytes_of-le_at 4 e 16 b (omega arith) in
    let t : take 20 e ≡ take 4 e ++ (take 2 (drop 4 e) ++ (take 2 (drop 6 e) ++ (take 8 (drop 8 e) ++ take 4 (drop 16 e)))) =
    cut 4 16 0 e ∙ ap (λ (r : List ℕ). take 4 e ++ r) (cut 2 14 4 e ∙ ap (λ (r : List ℕ). take 2 (drop 4 e) ++ r) (cut 2 12 6 e ∙ ap (λ (r : List ℕ). take 2 (drop 6 e) ++ r) (cut 8 4 8 e))) in
    rw (t, ← id, ← version, ← flags, ← size, ← count) (sym (simp append_assoc))

-- a list: nothing if its payload is its count alone, else its header and count, its entries in the order of their keys, and its tail
pub list_written : (e : List ℕ) {d : Description} → body_of (id_of e) (version_of e) ≡ list d → Lawful d → IsSection e → Bytes e
    → join (tidy e) ≡ cond (eqb (length e) 20) [] (take 20 e ++ (join (sort d.key (entries d (drop 16 e))) ++ tail_of d (drop 16 e)))
list_written e {d} q K s b =
    let u = lists_of e q K s in
    let es : List (List ℕ) = entries d (drop 16 e) in
    let p = sort_perm d.key es in
    let m : List (List ℕ) = sort d.key es in
    let t : List ℕ = tail_of d (drop 16 e) in
    let z : length e ≡ 20 + weigh length m + length t = omega (arith, perm_weigh length p, u.size) in
    ap (λ (k : Body). join (tidied k e)) q
    ∙ go m t (is_absent m t) (s.rules (list_known (id_of e) (version_of e) d q)).flags z (perm_length p ∙ length-split (width_of d) (le_at 4 (drop 16 e) 0) (drop 4 (drop 16 e)) ∙ le_at_here 4 e 16)
    ∙ ap (λ (x : Bool). cond x [] (take 20 e ++ (join m ++ t))) (empty-absent K (length e) m t (good_sort d es u.good).are z)
  where
    go : (m : List (List ℕ)) (t : List ℕ) (x : Bool) → flags_of e ≡ 0 → length e ≡ 20 + weigh length m + length t → length m ≡ le_at 4 e 16
        → join (cond x [] (framed (id_of e) (version_of e) 0 (list_bytes m ++ t) ∷ [])) ≡ cond x [] (take 20 e ++ (join m ++ t))
    go m t true f w n = refl
    go m t false f w n = rw append-nil (copied e m t b (omega arith) f (omega (arith, s.whole, length-append (list_bytes m) t, length_list m)) (sym n))

-- ---- how many bytes

join-flat : (f : List ℕ → List (List ℕ)) (l : List (List ℕ)) → join (flat f l) ≡ flat (λ e. join (f e)) l
join-flat f [] = refl
join-flat f (e ∷ l) = join-append (f e) (flat f l) ∙ ap (λ (r : List ℕ). join (f e) ++ r) (join-flat f l)

weigh-same : (f g : List ℕ → ℕ) (l : List (List ℕ)) → Every (λ e. f e ≡ g e) l → weigh f l ≡ weigh g l
weigh-same f g [] h = refl
weigh-same f g (e ∷ l) h = omega (arith, h.0, weigh-same f g l h.1)

-- the sections that are written of each section of the file
pub secs-count : (l : List (List ℕ)) → IsFile l → length (secs (content_of l)) ≡ weigh (λ e. length (tidy e)) l
secs-count l v = ap length (secs-tidy l v) ∙ length-flat tidy (sort rank l) ∙ perm_weigh (λ e. length (tidy e)) (sort_perm rank l)

-- the bytes of each section of the file, but those of empty lists
pub render_size : (l : List (List ℕ)) → IsFile l → length (render (content_of l)) ≡ 16 + weigh (λ e. cond (is_empty e) 0 (length e)) l
render_size l v =
    let s : length (join (secs (content_of l))) ≡ weigh (λ e. length (join (tidy e))) l =
    ap (λ (m : List (List ℕ)). length (join m)) (secs-tidy l v) ∙ ap length (join-flat tidy (sort rank l)) ∙ length-flat (λ e. join (tidy e)) (sort rank l) ∙ perm_weigh (λ e. length (join (tidy e))) (sort_perm rank l) in
    omega (arith, weigh-same (λ e. length (join (tidy e))) (λ e. cond (is_empty e) 0 (length e)) l (every_imp (λ e. tidy_size e) l v.are))
