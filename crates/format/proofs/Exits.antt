-- The exits of the code that reads pieces: what each return shows.
-- Assumes nothing.
use mathlib.Core.Path.{◌≡◌, refl, sym, ◌∙◌, ap}
use mathlib.Core.List.{List, [], ◌∷◌}
use mathlib.Core.Bool.{Bool, true, false, not, cond}
use Prim.Native.Nat.{ℕ, ◌+◌, ◌-◌, ◌≤◌, ◌<◌}
use native.Mathlib.Omega.{arith}
use lib.ListN.{length, take, drop, get_or, length-drop, length-take, length-append}
use lib.Seq.{length-take-le}
use lib.Dec.{leb, eqb}
use borrow.Author.Tests.{leb-true, le-leb, lt-leb}
use Rattle.answer.specs.Numbers.{SHAPE, VALUE}
use Rattle.answer.specs.Outcome.{Outcome, taken, refused, Checks, checked, Pass, after, moved}
use Rattle.answer.proofs.Checks.{checked-pass, pass-checked, checked-append}
use Rattle.answer.proofs.Outcomes.{shift_taken, moved_taken}
use Rattle.wire.specs.Numbers.{le_at}
use Rattle.wire.proofs.Numbers.{le_at_here, le_at-one}
use Rattle.format.specs.Format.{Asks, any, Format, sized, option, pair, bytes, read, Is, option_checks, sized_checks}
use Rattle.format.specs.Places.{read_at, present_at}
use Rattle.format.proofs.Meaning.{sound, least_le}
use Rattle.format.proofs.Placed.{pair-at, option_at, asked_at}

module _ (s : List ℕ) (at : ℕ) where
  -- ---- a block

  pub block_short : (n : ℕ) → length s - at < n → refused SHAPE at ≡ read_at (bytes n) s at
  unfolding read
  block_short n h = rw (length-drop, lt-leb n (length s - at) h) (ap (refused SHAPE) (omega arith))

  pub block_done : (n : ℕ) → n ≤ length s - at → taken (at + n) ≡ read_at (bytes n) s at
  unfolding read
  block_done n h = rw (length-drop, le-leb n (length s - at) h)

  -- it ends n bytes on, within the bytes
  pub block_inside : (n : ℕ) {e : ℕ} → taken e ≡ read_at (bytes n) s at → 0 < n → (e ≡ at + n) × (e ≤ length s)
  block_inside n h k =
      let j = shift_taken at (read (bytes n) (drop at s)) (sym h) in
      let u = sound (bytes n) (drop at s) j.1 in
      let l : length (take j.0 (drop at s)) ≡ j.0 = length-take-le j.0 (drop at s) u.0 in
      (omega (arith, u.1.0, j.2), omega (arith, u.0, u.1.0, length-drop at s, j.2))

  -- ---- one piece after another

  pub pair_stop : (f g : Format) {a b : ℕ} → refused a b ≡ read_at f s at → refused a b ≡ read_at (pair f g) s at
  pair_stop f g h = sym (pair-at f g s at ∙ ap (λ (r : Outcome ℕ). after r (read_at g s)) (sym h))

  pub pair_next : (f g : Format) {e : ℕ} {r : Outcome ℕ} → taken e ≡ read_at f s at → r ≡ read_at g s e → r ≡ read_at (pair f g) s at
  pair_next f g h k = k ∙ sym (pair-at f g s at ∙ ap (λ (r : Outcome ℕ). after r (read_at g s)) (sym h))

  -- a block that is there, and what follows it
  pub block_pair : (n : ℕ) (g : Format) → at + n ≤ length s → read_at (pair (bytes n) g) s at ≡ read_at g s (at + n)
  block_pair n g h = sym (pair_next (bytes n) g (block_done n (omega arith)) refl)

  -- ---- a presence byte

  byte : le_at 1 (drop at s) 0 ≡ get_or s at 0
  byte = le_at_here 1 s at ∙ le_at-one s at

  pub flag_short : length s ≤ at → refused SHAPE at ≡ present_at s at
  flag_short h = rw (length-drop, lt-leb 1 (length s - at) (omega arith)) (ap (refused SHAPE) (omega arith))

  module _ (i : at < length s) where
    room : leb 1 (length s - at) ≡ true
    room = le-leb 1 (length s - at) (omega arith)

    pub flag_bad : 1 < get_or s at 0 → refused VALUE at ≡ present_at s at
    flag_bad h = rw (byte, length-drop, room, lt-leb (get_or s at 0) 1 h) (ap (refused VALUE) (omega arith))

    pub flag-absent : get_or s at 0 ≡ 0 → taken false ≡ present_at s at
    flag-absent h = rw (byte, length-drop, room, h)

    pub flag_present : get_or s at 0 ≡ 1 → taken true ≡ present_at s at
    flag_present h = rw (byte, length-drop, room, h)

  -- what each flag makes of the piece behind it
  module _ (f : Format) where
    then-behind : {r : Outcome Bool} → r ≡ present_at s at → after r (λ p. cond p (read_at f s (at + 1)) (taken (at + 1))) ≡ read_at (option f) s at
    then-behind h = sym (option_at f s at ∙ ap (λ (r : Outcome Bool). after r (λ p. cond p (read_at f s (at + 1)) (taken (at + 1)))) (sym h))

    pub option_bad : {a b : ℕ} → refused a b ≡ present_at s at → refused a b ≡ read_at (option f) s at
    option_bad h = then-behind h

    pub option_absent : taken false ≡ present_at s at → taken (at + 1) ≡ read_at (option f) s at
    option_absent h = then-behind h

    pub option_present : taken true ≡ present_at s at → read_at f s (at + 1) ≡ read_at (option f) s at
    option_present h = then-behind h

  -- a presence byte that is there stands within the bytes
  pub flag_inside : {p : Bool} → taken p ≡ present_at s at → at < length s
  flag_inside {p} h =
      let q = checked-pass (option_checks (drop at s)) (taken (not (eqb (le_at 1 (drop at s) 0) 0))) p (moved_taken at (checked (option_checks (drop at s)) (taken (not (eqb (le_at 1 (drop at s) 0) 0)))) (sym h)) in
      omega (arith, leb-true 1 (length (drop at s)) q.0.0, length-drop at s)

  -- ---- a sized piece

  pub sized_short : (w : ℕ) (checks : ℕ → Checks) (ask : Asks) → length s - at < w → refused SHAPE at ≡ read_at (sized w checks ask) s at
  unfolding read
  sized_short w checks ask h = rw (length-drop, lt-leb w (length s - at) h) (ap (refused SHAPE) (omega arith))

  -- the length is there, and says n
  module _ (w n : ℕ) (checks : ℕ → Checks) (e : n ≡ le_at w s at) (i : w ≤ length s - at) where
    number : le_at w (drop at s) 0 ≡ n
    number = le_at_here w s at ∙ sym e

    -- its first check fails, at the length itself
    pub sized_bad : (m : ℕ) (b : Bool) (more : Checks) → checks n ≡ (b, m, 0) ∷ more → b ≡ false → refused m at ≡ read_at (sized w checks any) s at
    unfolding read
    sized_bad m b more k h = rw (number, length-drop, le-leb w (length s - at) i, k, h) (ap (refused m) (omega arith))

    module _ (k : Pass (checks n)) where
      -- the checks of the whole piece: its length's, and that its bytes fit
      passed : checked (sized_checks w checks (drop at s)) (taken (w + le_at w (drop at s) 0)) ≡ checked ((leb n (length s - at - w), SHAPE, w) ∷ []) (taken (w + n))
      passed =
          rw (number, length-drop, le-leb w (length s - at) i)
          (checked-append (checks n) ((leb n (length s - at - w), SHAPE, w) ∷ []) (taken (w + n)) ∙ pass-checked (checks n) (checked ((leb n (length s - at - w), SHAPE, w) ∷ []) (taken (w + n))) k)

      pub sized_cut : length s - (at + w) < n → refused SHAPE (at + w) ≡ read_at (sized w checks any) s at
      unfolding read
      sized_cut h = rw (passed, lt-leb n (length s - at - w) (omega arith))

      pub sized_whole : n ≤ length s - (at + w) → taken (at + w + n) ≡ read_at (sized w checks any) s at
      unfolding read
      sized_whole h = rw (passed, le-leb n (length s - at - w) (omega arith)) (ap taken (omega arith))

  -- the length stands before the piece's end, and that within the bytes
  pub sized_inside : (w : ℕ) (checks : ℕ → Checks) (ask : Asks) {e : ℕ} → taken e ≡ read_at (sized w checks ask) s at → 0 < w → (at + w ≤ e) × (e ≤ length s)
  sized_inside w checks ask {e} h k =
      let f : Format = sized w checks ask in
      let j = shift_taken at (read f (drop at s)) (sym h) in
      let u = sound f (drop at s) j.1 in
      let l : w ≤ j.0 = omega (arith, least_le f (take j.0 (drop at s)) u.1, length-take j.0 (drop at s)) in
      let m : j.0 ≤ length s - at = omega (arith, u.0, length-drop at s) in
      (omega (arith, j.2), omega (arith, j.2))

  -- and the length passed its checks
  pub sized_passes : (w : ℕ) (checks : ℕ → Checks) (ask : Asks) {e : ℕ} → taken e ≡ read_at (sized w checks ask) s at → Pass (checks (e - (at + w)))
  sized_passes w checks ask {e} h =
      let f : Format = sized w checks ask in
      let j = shift_taken at (read f (drop at s)) (sym h) in
      let u = sound f (drop at s) j.1 in
      go j.0 j.2 u.0 u.1
    where
      go : (j : ℕ) → e ≡ at + j → j ≤ length (drop at s) → Is (sized w checks ask) (take j (drop at s)) → Pass (checks (e - (at + w)))
      go j q l (x, y, r, i, n, k, m) =
          let a : length (take j (drop at s)) ≡ length x + length y = ap length r ∙ length-append x y in
          let b : e - (at + w) ≡ length y = omega (arith, length-take-le j (drop at s) l) in
          rw b k

-- ---- what is asked of bytes that were found

-- `plain` is the reading with nothing asked of the bytes from b on, `whole` the reading with it
module _ (ask : Asks) (s : List ℕ) (b : ℕ) {plain whole : Outcome ℕ} (split : whole ≡ after plain (asked_at ask s b)) where
  then-asked : {r : Outcome ℕ} → r ≡ plain → after r (asked_at ask s b) ≡ whole
  then-asked h = sym (split ∙ ap (λ (r : Outcome ℕ). after r (asked_at ask s b)) (sym h))

  pub asked_stop : {m p : ℕ} → refused m p ≡ plain → refused m p ≡ whole
  asked_stop h = then-asked h

  module _ {e : ℕ} (h : taken e ≡ plain) where
    pub asked-done : taken tt ≡ ask (take (e - b) (drop b s)) → taken e ≡ whole
    asked-done k = ap (λ (r : Outcome (Unit {0})). after (moved b r) (λ _. taken e)) k ∙ then-asked h

    pub asked_fault : {m p : ℕ} → refused m p ≡ ask (take (e - b) (drop b s)) → refused m (b + p) ≡ whole
    asked_fault k = ap (λ (r : Outcome (Unit {0})). after (moved b r) (λ _. taken e)) k ∙ then-asked h
