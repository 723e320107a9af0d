-- The sections whose ids are not known: those that are kept of a file are its first ones; and the loop that writes them, as far as there is room.
-- Assumes nothing.
use mathlib.Core.Path.{◌≡◌, refl, sym, ◌∙◌, ap}
use mathlib.Core.List.{List, [], ◌∷◌, ◌++◌, append-nil}
use mathlib.Core.Bool.{Bool, true, false, cond}
use Prim.Native.Nat.{ℕ, zero, suc, ◌+◌, ◌-◌, ◌≤◌, ◌<◌}
use native.Mathlib.Omega.{arith}
use lib.ListN.{length, take, drop, get_or, length-append, length-drop, take-append-drop, drop_of_length-le}
use lib.Seq.{drop-drop, length-take-le}
use lib.Dec.{leb, ltb, eqb}
use borrow.Author.Tests.{leb-true, le-leb, lt-leb, lt-ltb, ltb-true, ltb-false, ne_eqb}
use Rattle.answer.specs.Outcome.{Outcome, taken, after}
use Rattle.answer.proofs.Checks.{and_true, pass-checked}
use Rattle.wire.specs.Numbers.{le_at}
use Rattle.wire.specs.Parts.{put, Wrote}
use Rattle.wire.proofs.Numbers.{le_at-append, le_at-drop}
use Rattle.wire.proofs.Parts.{none, length_tail}
use Rattle.wire.proofs.Filling.{Filling, filling_none, filling_long, filling_next_fits, filling_next, filling_end}
use Rattle.writer.proofs.Fits.{wrote_first}
use Rattle.order.specs.Entries.{join}
use Rattle.aerosnap.specs.Known.{known}
use Rattle.aerosnap.specs.Payloads.{Body}
use Rattle.aerosnap.specs.File.{sections_most, id_of, version_of, length_of, flags_of, payload_of, fits_in, frame_checks, ruled, section_of}
use Rattle.aerosnap.specs.Content.{tidied}
use Rattle.aerosnap.specs.Salvage.{Part, keeps, loses, bytes_in, kept_by, length_of_part, read_part, part_by, part_of, parts_from, all_kept}
use Rattle.aerosnap.proofs.Parts.{part_length, part_kept, section_fits, Kept, took}
use Rattle.aerosnap.proofs.Slots.{known_range}
use Rattle.sections.specs.Directory.{others_in}
use Rattle.sections.specs.Steps.{held, HasDirectory}
use Rattle.sections.proofs.Kept.{whole-fits, body_other}
use Rattle.sections.proofs.Rules.{ruled_not}
use Rattle.sections.proofs.Needed.{parts_nil}
use Rattle.canon.specs.Ranks.{other_by, others_by, others_from}
use Rattle.canon.specs.Steps.{mine, ranked}
use Rattle.canon.proofs.Order.{mine_here, mine_not}
use Rattle.canon.proofs.Pieces.{whole-none}

-- the bytes of the first u sections of b whose ids are not known, up to one that does not fit; n sections are looked at
unfoldable pub other_bytes : ℕ → ℕ → List ℕ → List ℕ
other_bytes zero u b = []
other_bytes (suc n) zero b = []
other_bytes (suc n) (suc u) b =
    cond (fits_in b) (cond (known (id_of b)) (other_bytes n (suc u) (drop (16 + length_of b) b)) (take (16 + length_of b) b ++ other_bytes n u (drop (16 + length_of b) b))) []

-- ---- those that are kept are the first of the file

-- what is written of one, and of a known section
other_here : (e : List ℕ) → known (id_of e) ≡ false → mine 9 e ≡ e
other_here e k =
    mine_here 9 e refl refl (ap (λ (t : Bool). cond t (id_of e) 9) k)
    ∙ ap (λ (d : Body). join (tidied d e)) (body_other (id_of e) (version_of e) k)
    ∙ append-nil e

other_known : (e : List ℕ) → known (id_of e) ≡ true → mine 9 e ≡ []
other_known e k = mine_not 9 e refl refl (λ q. let z : id_of e ≡ 9 = sym (ap (λ (t : Bool). cond t (id_of e) 9) k) ∙ q in omega (arith, (known_range (id_of e) k).1))

-- of other ids nothing is asked but room among 64
other_taken : (before : List (List ℕ)) (at : ℕ) (b : List ℕ) → fits_in b ≡ true → known (id_of b) ≡ false → length before < sections_most → section_of before at b ≡ taken (16 + length_of b)
unfolding section_of
other_taken before at b f k h =
    let c = and_true (leb 16 (length b)) (leb (length_of b) (length b - 16)) f in
    pass-checked (frame_checks before at b) (after (ruled before at (id_of b) (version_of b) (flags_of b) (payload_of b)) (λ _. taken (16 + length_of b))) (c.0, (lt-ltb (length before) sections_most h, (c.1, tt)))
    ∙ ap (λ (o : Outcome (Unit {0})). after o (λ _. taken (16 + length_of b))) (sym (ruled_not before at (id_of b) (version_of b) (flags_of b) (payload_of b) k))

-- where 64 are kept, no more are
full_none : (n : ℕ) (before : List (List ℕ)) (at : ℕ) (b : List ℕ) → sections_most ≤ length before → all_kept (parts_from n before at b) ≡ []
unfolding parts_from
full_none zero before at b h = refl
full_none (suc n) before at [] h = refl
full_none (suc n) before at (c ∷ b) h = go (part_of before at (c ∷ b)) (part_kept before at (c ∷ b) (omega arith)) (λ (x : List ℕ). full_none n before (at + length x) (drop (length x) (c ∷ b)) h)
  where
    go : (x : Part) → Kept before at (c ∷ b) x → ((e : List ℕ) → all_kept (parts_from n before (at + length e) (drop (length e) (c ∷ b))) ≡ [])
        → kept_by x ++ all_kept (parts_from n (before ++ kept_by x) (at + length (bytes_in x)) (drop (length (bytes_in x)) (c ∷ b))) ≡ []
    go (loses m e) k r = rw (append-nil before) (r e)
    go (keeps e) (took p t q) r = absurd (omega (arith, t.room))

others_step : (n u : ℕ) (b : List ℕ) → fits_in b ≡ true → known (id_of b) ≡ true → other_bytes (suc n) u b ≡ other_bytes n u (drop (16 + length_of b) b)
unfolding other_bytes
others_step n zero b f k = sym (none n)
  where
    none : (n : ℕ) → other_bytes n zero (drop (16 + length_of b) b) ≡ []
    none zero = refl
    none (suc n) = refl
others_step n (suc u) b f k = rw (f, k) refl

-- one part more before others, of which K are kept
module _ (n : ℕ) (s e : List ℕ) (K : List (List ℕ)) (r : other_bytes n (others_in K) (drop (length e) s) ≡ ranked 9 K) where
  -- a section that is there whole
  module _ (f : fits_in s ≡ true) (w : length e ≡ 16 + length_of s) where
    others_past : known (id_of s) ≡ true → other_bytes (suc n) (others_in K) s ≡ ranked 9 K
    others_past k = others_step n (others_in K) s f k ∙ ap (λ (j : ℕ). other_bytes n (others_in K) (drop j s)) (sym w) ∙ r

    others-kept : e ≡ take (16 + length_of s) s → other_bytes (suc n) (others_in (e ∷ K)) s ≡ ranked 9 (e ∷ K)
    unfolding other_bytes
    others-kept q = go (known (id_of e)) refl
      where
        same : id_of e ≡ id_of s
        same =
            let m : List ℕ = drop (16 + length_of s) s in
            let z : s ≡ e ++ m = sym (take-append-drop (16 + length_of s) s) ∙ ap (λ (t : List ℕ). t ++ m) (sym q) in
            sym (ap id_of z ∙ le_at-append 4 e m 0 (omega (arith, w)))

        go : (t : Bool) → known (id_of e) ≡ t → other_bytes (suc n) (others_in (e ∷ K)) s ≡ ranked 9 (e ∷ K)
        go true k =
            let u : others_in (e ∷ K) ≡ others_in K = omega (arith, ap {B = ℕ} (λ (b : Bool). cond b 0 1) k) in
            let k2 : known (id_of s) ≡ true = ap known (sym same) ∙ k in
            ap (λ (j : ℕ). other_bytes (suc n) j s) u ∙ others_past k2 ∙ sym (ap (λ (b : List ℕ). b ++ ranked 9 K) (other_known e k))
        go false k =
            let u : others_in (e ∷ K) ≡ suc (others_in K) = omega (arith, ap {B = ℕ} (λ (b : Bool). cond b 0 1) k) in
            let k2 : known (id_of s) ≡ false = ap known (sym same) ∙ k in
            let z : other_bytes (suc n) (suc (others_in K)) s ≡ take (16 + length_of s) s ++ other_bytes n (others_in K) (drop (16 + length_of s) s) = rw (f, k2) refl in
            ap (λ (j : ℕ). other_bytes (suc n) j s) u
            ∙ z
            ∙ ap (λ (b : List ℕ). b ++ other_bytes n (others_in K) (drop (16 + length_of s) s)) (sym q)
            ∙ ap (λ (j : ℕ). e ++ other_bytes n (others_in K) (drop j s)) (sym w)
            ∙ ap (λ (b : List ℕ). e ++ b) r
            ∙ sym (ap (λ (b : List ℕ). b ++ ranked 9 K) (other_here e k))

others_end : (n : ℕ) (s : List ℕ) {K : List (List ℕ)} → K ≡ [] → other_bytes (suc n) (others_in K) s ≡ ranked 9 K
unfolding other_bytes
others_end n s q = rw q refl

-- a whole section of another id is lost only where 64 are kept
lost_full : (before : List (List ℕ)) (at : ℕ) (b : List ℕ) {m : ℕ} {e : List ℕ} → part_of before at b ≡ loses m e → fits_in b ≡ true → known (id_of b) ≡ false → sections_most ≤ length before
unfolding part_of
lost_full before at b {m} {e} p f k = go (ltb (length before) sections_most) refl
  where
    go : (t : Bool) → ltb (length before) sections_most ≡ t → sections_most ≤ length before
    go true t =
        let h = other_taken before at b f k (ltb-true (length before) sections_most t) in
        let z : part_by (read_part before at b) (take (length_of_part b) b) ≡ keeps (take (length_of_part b) b) = rw (f, h) refl in
        let u : keeps (take (length_of_part b) b) ≡ loses m e = sym z ∙ p in
        let y : ◌≡◌ {A = ℕ} 0 1 = cc in absurd (omega arith)
    go false t = ltb-false (length before) sections_most t

-- the kept sections of other ids are the first of them in the file
pub others_are : (n : ℕ) (before : List (List ℕ)) (at : ℕ) (b : List ℕ) → other_bytes n (others_in (all_kept (parts_from n before at b))) b ≡ ranked 9 (all_kept (parts_from n before at b))
unfolding parts_from other_bytes
others_are zero before at b = refl
others_are (suc n) before at [] = refl
others_are (suc n) before at (c ∷ b) = go (part_of before at (c ∷ b)) refl (part_kept before at (c ∷ b) (omega arith)) (others_are n)
  where
    go : (x : Part) → part_of before at (c ∷ b) ≡ x → Kept before at (c ∷ b) x
        → ((l : List (List ℕ)) (k : ℕ) (r : List ℕ) → other_bytes n (others_in (all_kept (parts_from n l k r))) r ≡ ranked 9 (all_kept (parts_from n l k r)))
        → other_bytes (suc n) (others_in (kept_by x ++ all_kept (parts_from n (before ++ kept_by x) (at + length (bytes_in x)) (drop (length (bytes_in x)) (c ∷ b))))) (c ∷ b)
        ≡ ranked 9 (kept_by x ++ all_kept (parts_from n (before ++ kept_by x) (at + length (bytes_in x)) (drop (length (bytes_in x)) (c ∷ b))))
    go (keeps e) p (took h t q) ih =
        let f = section_fits before at (c ∷ b) h in
        let K : List (List ℕ) = all_kept (parts_from n (before ++ (e ∷ [])) (at + length e) (drop (length e) (c ∷ b))) in
        others-kept n (c ∷ b) e K (ih (before ++ (e ∷ [])) (at + length e) (drop (length e) (c ∷ b))) f.0 (sym f.1) (q ∙ ap (λ (j : ℕ). take j (c ∷ b)) (sym f.1))
    go (loses m e) p k ih = fit (fits_in (c ∷ b)) refl (known (id_of (c ∷ b))) refl
      where
        K : List (List ℕ)
        K = all_kept (parts_from n (before ++ []) (at + length e) (drop (length e) (c ∷ b)))

        long : length e ≡ length_of_part (c ∷ b)
        long = ap (λ (y : Part). length (bytes_in y)) (sym p) ∙ part_length before at (c ∷ b) (omega arith)

        fit : (t : Bool) → fits_in (c ∷ b) ≡ t → (u : Bool) → known (id_of (c ∷ b)) ≡ u → other_bytes (suc n) (others_in K) (c ∷ b) ≡ ranked 9 K
        fit true t true u =
            let w : length e ≡ 16 + length_of (c ∷ b) = long ∙ ap (λ (y : Bool). cond y (16 + length_of (c ∷ b)) (length (c ∷ b))) t in
            others_past n (c ∷ b) e K (ih (before ++ []) (at + length e) (drop (length e) (c ∷ b))) t w u
        fit true t false u = others_end n (c ∷ b) (full_none n (before ++ []) (at + length e) (drop (length e) (c ∷ b)) (omega (arith, lost_full before at (c ∷ b) p t u, length-append before [])))
        fit false t u v =
            let w : length e ≡ length (c ∷ b) = long ∙ ap (λ (y : Bool). cond y (16 + length_of (c ∷ b)) (length (c ∷ b))) t in
            let i : length (c ∷ b) ≤ length e = omega arith in
            let d : drop (length e) (c ∷ b) ≡ [] = drop_of_length-le (c ∷ b) i in
            others_end n (c ∷ b) (ap (λ (y : List ℕ). all_kept (parts_from n (before ++ []) (at + length e) y)) d ∙ ap all_kept (parts_nil n (before ++ []) (at + length e)))

-- ---- with room for them

-- a section that fits, and its id
module _ (b : List ℕ) (f : fits_in b ≡ true) where
  here_long : length (take (16 + length_of b) b) ≡ 16 + length_of b
  here_long =
      let c = and_true (leb 16 (length b)) (leb (length_of b) (length b - 16)) f in
      length-take-le (16 + length_of b) b (omega (arith, leb-true 16 (length b) c.0, leb-true (length_of b) (length b - 16) c.1))

  here_id : id_of (take (16 + length_of b) b) ≡ id_of b
  here_id =
      let e : List ℕ = take (16 + length_of b) b in
      sym (ap id_of (sym (take-append-drop (16 + length_of b) b)) ∙ le_at-append 4 e (drop (16 + length_of b) b) 0 (omega (arith, here_long)))

-- where there is room for all of them, all are written
others-room : (n u have : ℕ) (b : List ℕ) → length (other_bytes n u b) ≤ have → others_by n u have b ≡ other_bytes n u b
unfolding other_bytes others_by
others-room zero u have b h = refl
others-room (suc n) zero have b h = refl
others-room (suc n) (suc u) have b h = go (fits_in b) refl (known (id_of b)) refl h (others-room n)
  where
    e : List ℕ
    e = take (16 + length_of b) b

    r : List ℕ
    r = drop (16 + length_of b) b

    go : (t : Bool) → fits_in b ≡ t → (k : Bool) → known (id_of b) ≡ k → length (cond t (cond k (other_bytes n (suc u) r) (e ++ other_bytes n u r)) []) ≤ have
        → ((v m : ℕ) (c : List ℕ) → length (other_bytes n v c) ≤ m → others_by n v m c ≡ other_bytes n v c)
        → cond t (other_by have e ++ others_by n (suc u - cond (eqb (length (other_by have e)) 0) 0 1) (have - length (other_by have e)) r) [] ≡ cond t (cond k (other_bytes n (suc u) r) (e ++ other_bytes n u r)) []
    go false f k q h ih = refl
    go true f true q h ih =
        let w : other_by have e ≡ [] = rw (ap known (here_id b f) ∙ q) (whole-none have) in
        let y : have - 0 ≡ have = omega arith in
        let x : suc u - 0 ≡ suc u = omega arith in
        rw (w, x, y) (ih (suc u) have r h)
    go true f false q h ih =
        let s = length-append e (other_bytes n u r) in
        let i : length e ≤ have = omega (arith, h, s) in
        let w : other_by have e ≡ e = rw (ap known (here_id b f) ∙ q, le-leb (length e) have i) refl in
        let z : eqb (length e) 0 ≡ false = ne_eqb (length e) 0 (λ y. omega (arith, here_long b f)) in
        let x : suc u - 1 ≡ u = omega arith in
        rw (w, z, x) (ap (λ (c : List ℕ). e ++ c) (ih u (have - length e) r (omega (arith, h, s))))

-- those of a file, by its directory
pub filed_others : {s index : List ℕ} → HasDirectory s index → {have : ℕ} → length (ranked 9 (held s)) ≤ have → others_from s (get_or index 0 0) have 16 ≡ ranked 9 (held s)
filed_others {s} {index} v {have} h =
    let k : other_bytes (length s) (others_in (held s)) (drop 16 s) ≡ ranked 9 (held s) = others_are (length s) [] 16 (drop 16 s) in
    ap (λ (u : ℕ). others_from s u have 16) v.directory.others ∙ others-room (length s) (others_in (held s)) have (drop 16 s) (omega (arith, ap length k)) ∙ k

-- ---- the walk over them

other_fits : (have : ℕ) (e : List ℕ) → length (other_by have e) ≤ have
other_fits have e = whole-fits have (cond (known (id_of e)) [] e)

pub others_fit : (n u have : ℕ) (b : List ℕ) → length (others_by n u have b) ≤ have
unfolding others_by
others_fit zero u have b = omega arith
others_fit (suc n) zero have b = omega arith
others_fit (suc n) (suc u) have b = go (fits_in b) (others_fit n)
  where
    e : List ℕ
    e = other_by have (take (16 + length_of b) b)

    r : List ℕ
    r = drop (16 + length_of b) b

    go : (t : Bool) → ((v m : ℕ) (c : List ℕ) → length (others_by n v m c) ≤ m) → length (cond t (e ++ others_by n (suc u - cond (eqb (length e) 0) 0 1) (have - length e) r) []) ≤ have
    go true ih = omega (arith, length-append e (others_by n (suc u - cond (eqb (length e) 0) 0 1) (have - length e) r), ih (suc u - cond (eqb (length e) 0) 0 1) (have - length e) r, other_fits have (take (16 + length_of b) b))
    go false ih = omega arith

pub others-zero : (n have : ℕ) (b : List ℕ) → others_by n 0 have b ≡ []
unfolding others_by
others-zero zero have b = refl
others-zero (suc n) have b = refl

pub others_unfit : (n u have : ℕ) (b : List ℕ) → fits_in b ≡ false → others_by n u have b ≡ []
unfolding others_by
others_unfit zero u have b f = refl
others_unfit (suc n) zero have b f = refl
others_unfit (suc n) (suc u) have b f = rw f refl

-- fuel that is enough does not matter
others_fuel : (n m u have : ℕ) (b : List ℕ) → length b ≤ n → length b ≤ m → others_by n u have b ≡ others_by m u have b
unfolding others_by
others_fuel zero m u have b i j = sym (others_unfit m u have b (short b i))
  where
    short : (b : List ℕ) → length b ≤ 0 → fits_in b ≡ false
    short [] i = refl
    short (c ∷ b) i = absurd (omega arith)
others_fuel (suc n) zero u have b i j = others_unfit (suc n) u have b (short b j)
  where
    short : (b : List ℕ) → length b ≤ 0 → fits_in b ≡ false
    short [] i = refl
    short (c ∷ b) i = absurd (omega arith)
others_fuel (suc n) (suc m) zero have b i j = refl
others_fuel (suc n) (suc m) (suc u) have b i j = go (fits_in b) refl (others_fuel n m)
  where
    e : List ℕ
    e = other_by have (take (16 + length_of b) b)

    r : List ℕ
    r = drop (16 + length_of b) b

    v : ℕ
    v = suc u - cond (eqb (length e) 0) 0 1

    go : (t : Bool) → fits_in b ≡ t → ((u have : ℕ) (c : List ℕ) → length c ≤ n → length c ≤ m → others_by n u have c ≡ others_by m u have c)
        → cond t (e ++ others_by n v (have - length e) r) [] ≡ cond t (e ++ others_by m v (have - length e) r) []
    go true f ih = ap (λ (c : List ℕ). e ++ c) (ih v (have - length e) r (omega (arith, length-drop (16 + length_of b) b)) (omega (arith, length-drop (16 + length_of b) b)))
    go false f ih = refl

-- the section at a place where it is there whole
pub record OtherTurn (s : List ℕ) (at e : ℕ) : Type 0 where
  pub far : at + 16 ≤ e
  pub near : e ≤ length s

module _ (s : List ℕ) (at : ℕ) (f : fits_in (drop at s) ≡ true) {w : ℕ} (q : w ≡ le_at 8 s (at + 8)) where
  fits_here : (16 ≤ length s - at) × (w ≤ length s - at - 16)
  fits_here =
      let c = and_true (leb 16 (length (drop at s))) (leb (length_of (drop at s)) (length (drop at s) - 16)) f in
      (omega (arith, leb-true 16 (length (drop at s)) c.0, length-drop at s), omega (arith, leb-true (length_of (drop at s)) (length (drop at s) - 16) c.1, length-drop at s, le_at-drop 8 s at 8, q))

  pub others_turn : OtherTurn s at (at + (16 + w))
  others_turn = record { far = omega arith; near = omega (arith, fits_here.0, fits_here.1) }

  w_is : 16 + length_of (drop at s) ≡ 16 + w
  w_is = omega (arith, le_at-drop 8 s at 8, q)

  pub here_is : take (at + (16 + w) - at) (drop at s) ≡ take (16 + length_of (drop at s)) (drop at s)
  here_is = let z : at + (16 + w) - at ≡ 16 + length_of (drop at s) = omega (arith, w_is) in ap (λ (n : ℕ). take n (drop at s)) z

  abbrev here : List ℕ
  here = take (at + (16 + w) - at) (drop at s)

  -- what is written of it, and what is left
  others_next : (u have : ℕ) → others_from s (suc u) have at ≡ other_by have here ++ others_from s (suc u - cond (eqb (length (other_by have here)) 0) 0 1) (have - length (other_by have here)) (at + (16 + w))
  unfolding others_by
  others_next u have = go (length s) refl
    where
      v : List ℕ → ℕ
      v e = suc u - cond (eqb (length (other_by have e)) 0) 0 1

      again : (n : ℕ) → suc n ≡ length s → (u have : ℕ) → others_by n u have (drop (16 + length_of (drop at s)) (drop at s)) ≡ others_from s u have (at + (16 + w))
      again n e u have =
          let z : drop (16 + length_of (drop at s)) (drop at s) ≡ drop (at + (16 + w)) s = ap (λ (k : ℕ). drop k (drop at s)) w_is ∙ drop-drop (16 + w) at s in
          ap (others_by n u have) z ∙ others_fuel n (length s) u have (drop (at + (16 + w)) s) (omega (arith, length-drop (at + (16 + w)) s, fits_here.0)) (omega (arith, length-drop (at + (16 + w)) s))

      go : (n : ℕ) → n ≡ length s → others_by n (suc u) have (drop at s) ≡ other_by have here ++ others_from s (v here) (have - length (other_by have here)) (at + (16 + w))
      go zero e = absurd (omega (arith, fits_here.0))
      go (suc n) e = rw (f, ← here_is) (ap (λ (c : List ℕ). other_by have here ++ c) (again n e (v here) (have - length (other_by have here))))

-- one of them by its id
module _ (e old : List ℕ) {id r : ℕ} (i : id ≡ le_at 4 e 0) (q : r ≡ cond (known id) id 9) where
  id_known : known (id_of e) ≡ leb r 8
  id_known = ap known (sym i) ∙ go (known id) refl
    where
      go : (t : Bool) → known id ≡ t → t ≡ leb r 8
      go true k = sym (le-leb r 8 (omega (arith, q ∙ ap (λ (t : Bool). cond t id 9) k, (known_range id k).1)))
      go false k = sym (lt-leb r 8 (omega (arith, q ∙ ap {B = ℕ} (λ (t : Bool). cond t id 9) k)))

  pub other_none : r ≤ 8 → Wrote (other_by (length old) e) old old 0
  other_none h = rw (id_known ∙ le-leb r 8 h, whole-none (length old)) (none old)

  pub other_long : 8 < r → length old < length e → Wrote (other_by (length old) e) old old 0
  other_long h n = rw (id_known ∙ lt-leb r 8 h, lt-leb (length e) (length old) n) (none old)

  pub other_put : 8 < r → length e ≤ length old → {new : List ℕ} → new ≡ put 0 e old → Wrote (other_by (length old) e) old new (length e)
  other_put h n p = rw (id_known ∙ lt-leb r 8 h, le-leb (length e) (length old) n) (wrote_first n p)

pub one_most : (n : ℕ) → cond (eqb n 0) 0 1 ≤ 1
one_most n = go (eqb n 0)
  where
    go : (b : Bool) → cond b 0 1 ≤ 1
    go true = omega arith
    go false = omega arith

-- what the loop keeps: those that are left from the place on are the rest of what is to be written
pub record Othering (s : List ℕ) (count at left t : ℕ) (old new : List ℕ) : Type 0 where
  pub fill : Filling (others_from s count (length old) 16) old (others_from s left (length old - t) at) t new

pub othering_start : (s : List ℕ) (count : ℕ) (old : List ℕ) → Othering s count 16 count 0 old old
othering_start s count old =
    let z : length old - 0 ≡ length old = omega arith in
    record { fill = rw z (filling_none (others_from s count (length old) 16) old (others_fit (length s) count (length old) (drop 16 s))) }

module _ {s : List ℕ} {count at left t : ℕ} {old new : List ℕ} (v : Othering s count at left t old new) where
  pub othering_done : left ≤ 0 → Wrote (others_from s count (length old) 16) old new t
  othering_done h = let z : left ≡ 0 = omega arith in filling_end (rw (z, others-zero (length s) (length old - t) (drop at s)) at v.fill)

  pub othering_stop : fits_in (drop at s) ≡ false → Wrote (others_from s count (length old) 16) old new t
  othering_stop f = filling_end (rw (others_unfit (length s) left (length old - t) (drop at s) f) at v.fill)

  module _ (h : 0 < left) (f : fits_in (drop at s) ≡ true) {w : ℕ} (q : w ≡ le_at 8 s (at + 8)) where
    abbrev have : ℕ
    have = length (take (length new - t) (drop t new))

    have_is : have ≡ length old - t
    have_is = length_tail t new ∙ ap (λ (n : ℕ). n - t) (filling_long v.fill)

    abbrev next : List ℕ
    next = other_by have (take (at + (16 + w) - at) (drop at s))

    abbrev rest : List ℕ
    rest = others_from s (left - cond (eqb (length next) 0) 0 1) (have - length next) (at + (16 + w))

    parts : Filling (others_from s count (length old) 16) old (next ++ rest) t new
    parts =
        let z : left ≡ suc (left - 1) = omega arith in
        let e : others_from s left have at ≡ next ++ rest = ap (λ (u : ℕ). others_from s u have at) z ∙ others_next s at f q (left - 1) have ∙ ap (λ (u : ℕ). next ++ others_from s (u - cond (eqb (length next) 0) 0 1) (have - length next) (at + (16 + w))) (sym z) in
        rw e at (rw (← have_is) at v.fill)

    pub othering_fits : t + length next ≤ length new
    othering_fits = filling_next_fits next rest parts

    pub othering_next : {last : List ℕ} {m k : ℕ} → Wrote next (take (length new - t) (drop t new)) last m → k ≡ cond (eqb m 0) 0 1
        → Othering s count (at + (16 + w)) (left - k) (t + m) old (take t new ++ (last ++ drop (length new - t) (drop t new)))
    othering_next {last} {m} {k} so e =
        let z : k ≡ cond (eqb (length next) 0) 0 1 = e ∙ ap {B = ℕ} (λ (n : ℕ). cond (eqb n 0) 0 1) so.count in
        let y : have - length next ≡ length old - (t + m) = omega (arith, have_is, so.count) in
        record { fill = rw (z, ← y) (filling_next next rest parts so) }
