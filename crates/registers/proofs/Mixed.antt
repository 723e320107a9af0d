-- The registers of one state written over another: the bytes are the first's as far as they are written, and the other's behind them.
-- Assumes nothing.
use mathlib.Core.Path.{◌≡◌, refl, sym, ap, ◌∙◌}
use mathlib.Core.Bool.{Bool, true, false}
use mathlib.Core.List.{List, [], ◌∷◌, ◌++◌, append-nil}
use Prim.Native.Nat.{ℕ, zero, suc, ◌+◌, ◌*◌, ◌≤◌, ◌<◌}
use native.Mathlib.Omega.{arith}
use lib.Dec.{leb}
use borrow.Author.Tests.{leb-true, leb-false}
use lib.ListN.{length, take, drop, get_or, length-append, length-drop, drop_of_length-le, get_or-append}
use lib.Seq.{length-take-le, take-add, take_all, take_at, drop_at, drop-drop, get_or_at}
use Rattle.wire.specs.Numbers.{Bytes, le_at}
use Rattle.wire.specs.Parts.{splice, put}
use Rattle.wire.proofs.Numbers.{bytes_of-le_at}
use Rattle.wire.proofs.Parts.{put-fits}
use Rattle.registers.specs.Registers.{gather, in_turn, at, words_at, words_over, segment_in, segment_over}

-- ---- what an array holds

module _ {A : Type 0} (f : ℕ → A) (d : A) where
  length-gather : (n : ℕ) → length (gather f n) ≡ n
  unfolding gather
  length-gather zero = refl
  length-gather (suc n) = length-append (gather f n) (f n ∷ []) ∙ omega (arith, length-gather n)

  last_of : (n i : ℕ) → (i < n → get_or (gather f n) i d ≡ f i) → i < suc n → (t : Bool) → leb n i ≡ t → get_or (gather f n ++ (f n ∷ [])) i d ≡ f i
  last_of n i before h true t =
      let e : i ≡ n = omega (arith, leb-true n i t) in
      rw e (get_or_at (gather f n) (f n) [] d n (length-gather n))
  last_of n i before h false t =
      let g : i < n = leb-false n i t in
      let l : i < length (gather f n) = omega (arith, length-gather n) in
      get_or-append (gather f n) (f n ∷ []) d i l ∙ before g

  pub get_or-gather : (n i : ℕ) → i < n → get_or (gather f n) i d ≡ f i
  unfolding gather
  get_or-gather zero i h = absurd (omega arith)
  get_or-gather (suc n) i h = last_of n i (get_or-gather n i) h (leb n i) refl

-- ---- the first k bytes of s, and behind them those of t

abbrev pub mix : List ℕ → List ℕ → ℕ → List ℕ
mix s t k = take k s ++ drop k t

module _ (s t : List ℕ) (b : Bytes s) (n : length t ≤ length s) where
  front_length : (k : ℕ) → k ≤ length s → length (take k s) ≡ k
  front_length k h = length-take-le k s h

  pub length_mix : (k : ℕ) → k ≤ length t → length (mix s t k) ≡ length t
  length_mix k h = length-append (take k s) (drop k t) ∙ omega (arith, front_length k (omega arith), length-drop k t)

  -- w bytes more of s
  pub step : (k w : ℕ) → k + w ≤ length t → put k (take w (drop k s)) (mix s t k) ≡ mix s t (k + w)
  unfolding splice
  step k w h =
      let f = front_length k (omega arith) in
      let l : length (take w (drop k s)) ≡ w = length-take-le w (drop k s) (rw (length-drop) (omega arith)) in
      let long = length_mix k (omega arith) in
      put-fits k (take w (drop k s)) (mix s t k) (omega (arith, l, long))
      ∙ ap (λ (m : List ℕ). m ++ take w (drop k s) ++ drop (k + length (take w (drop k s))) (mix s t k)) (take_at (take k s) (drop k t) k f)
      ∙ ap (λ (m : List ℕ). m ++ drop (k + length (take w (drop k s))) (mix s t k)) (sym (take-add k w s))
      ∙ ap (λ (j : ℕ). take (k + w) s ++ drop (k + j) (mix s t k)) l
      ∙ ap (λ (m : List ℕ). take (k + w) s ++ m) (behind k w f)
    where
      behind : (k w : ℕ) → length (take k s) ≡ k → drop (k + w) (mix s t k) ≡ drop (k + w) t
      behind k w f = sym (drop-drop w k (mix s t k)) ∙ ap (drop w) (drop_at (take k s) (drop k t) k f) ∙ drop-drop w k t

  pub number : (k w : ℕ) → k + w ≤ length t → at k w (le_at w s k) (mix s t k) ≡ mix s t (k + w)
  number k w h = ap (λ (l : List ℕ). put k l (mix s t k)) (bytes_of-le_at w s k b (omega arith)) ∙ step k w h

  -- as many elements, each w bytes further
  pub in_turn_mix : (f : ℕ → List ℕ → List ℕ) (k w m : ℕ) → ((i : ℕ) → i < m → f i (mix s t (k + i * w)) ≡ mix s t (k + i * w + w)) → in_turn f m (mix s t k) ≡ mix s t (k + m * w)
  unfolding in_turn
  in_turn_mix f k w zero h = let e : k ≡ k + 0 * w = omega arith in ap (mix s t) e
  in_turn_mix f k w (suc m) h =
      let e : k + m * w + w ≡ k + suc m * w = omega arith in
      ap (f m) (in_turn_mix f k w m (λ i g. h i (omega arith))) ∙ h m (omega arith) ∙ ap (mix s t) e

  pub words_mix : (k m : ℕ) → k + m * 8 ≤ length t → words_over k (words_at k m s) (mix s t k) ≡ mix s t (k + m * 8)
  words_mix k m h = ap (λ (n : ℕ). in_turn over n (mix s t k)) (length-gather word 0 m) ∙ in_turn_mix over k 8 m (λ i g. one i g)
    where
      word : ℕ → ℕ
      word j = le_at 8 s (j * 8 + k)

      over : ℕ → List ℕ → List ℕ
      over i = at (i * 8 + k) 8 (get_or (gather word m) i 0)

      one : (i : ℕ) → i < m → over i (mix s t (k + i * 8)) ≡ mix s t (k + i * 8 + 8)
      one i g =
          let e : i * 8 + k ≡ k + i * 8 = omega arith in
          ap (λ (x : ℕ). at (i * 8 + k) 8 x (mix s t (k + i * 8))) (get_or-gather word 0 m i g)
          ∙ ap (λ (j : ℕ). at j 8 (le_at 8 s j) (mix s t (k + i * 8))) e ∙ number (k + i * 8) 8 (omega arith)

  pub segment_mix : (k : ℕ) → k + 18 ≤ length t → segment_over k (segment_in s k) (mix s t k) ≡ mix s t (k + 18)
  segment_mix k h =
      let base : k + 2 + 8 ≡ k + 10 = omega arith in
      let limit : k + 10 + 4 ≡ k + 14 = omega arith in
      let access : k + 14 + 4 ≡ k + 18 = omega arith in
      rw (number k 2 (omega arith), number (k + 2) 8 (omega arith), base, number (k + 10) 4 (omega arith), limit, number (k + 14) 4 (omega arith), access)

  -- all of s
  pub all_mix : (k : ℕ) → length s ≡ k → mix s t k ≡ s
  all_mix k e =
      let g : length t ≤ k = omega arith in
      ap (λ (l : List ℕ). l ++ drop k t) (take_all k s (omega arith)) ∙ ap (λ (l : List ℕ). s ++ l) (drop_of_length-le t g) ∙ append-nil s
