-- The ends of the functions that have no loop, over plain values.
-- Assumes nothing.
use mathlib.Core.Path.{◌≡◌, refl, sym, ◌∙◌, ap}
use mathlib.Core.Bool.{Bool, true, false, not, ◌||◌}
use mathlib.Core.List.{List, [], ◌∷◌, map, append-nil}
use Prim.Native.Nat.{ℕ, zero, suc, ◌+◌, ◌≤◌}
use native.Mathlib.Omega.{arith}
use lib.Dec.{eqb}
use lib.ListN.{length, take, drop, get_or, take-append-drop, length-append}
use lib.Seq.{take-append_seam}
use borrow.Author.Tests.{eq-eqb, ne_eqb, le-leb}
use Rattle.std.proofs.Common.{Ok}
use Rattle.answer.specs.declared.Answer.{Answer}
use Rattle.answer.specs.Outcome.{taken, room, fitting}
use Rattle.answer.specs.Calls.{asked, verdict, WritesCount}
use Rattle.answer.proofs.Outcomes.{fills_done, room_holds}
use Rattle.wire.specs.Numbers.{le_at, bytes_of}
use Rattle.wire.specs.Parts.{splice, put, Wrote}
use Rattle.wire.proofs.Numbers.{length-bytes_of}
use Rattle.wire.proofs.Parts.{put-fits}
use Rattle.wire.proofs.Splices.{splice_more, stored_long}
use Rattle.aerosnap.proofs.Canonical.{taken_fits}
use Rattle.dskc.specs.Wrapper.{wrapper_of}
use Rattle.ready.specs.Steps.{payload_from, wrapper_at, pair_for, PutAt}
use Rattle.ready.proofs.Accepted.{wrapper_faulty, number_told}

-- ---- wrapper_at

module _ (s : List ℕ) (at : ℕ) where
  -- the entry that starts there, and the answer of the check of its payload p
  pub wrapper_told : {b p : List ℕ} {r : Answer} → b ≡ drop at s → p ≡ take (le_at 8 b 8) (drop 16 b) → r ≡ verdict (wrapper_of p) → 4 ≤ at → eqb r.number 0 ≡ wrapper_at s at
  wrapper_told e q a h =
      rw (le-leb 4 at h)
      (ap (λ (x : Answer). eqb x.number 0) a
      ∙ ap (λ (x : List ℕ). eqb (verdict (wrapper_of x)).number 0) (q ∙ ap payload_from e)
      ∙ number_told (wrapper_of (payload_from (drop at s))) (wrapper_faulty (payload_from (drop at s))))

-- ---- look

pub seen-then : (x y : ℕ) → (x ≡ 0 → ⊥) → not (eqb x 0) ≡ (not (eqb x 0) || not (eqb y 0))
seen-then x y h = rw (ne_eqb x 0 h)

pub seen-else : (x y : ℕ) → x ≡ 0 → not (eqb y 0) ≡ (not (eqb x 0) || not (eqb y 0))
seen-else x y h = rw (eq-eqb x 0 h)

-- nine tests of notes, one by one
pub nine : {a b c d e f g a' b' c' d' e' f' g' : ℕ} {w v w' v' : Bool} → a ≡ a' → b ≡ b' → w ≡ w' → c ≡ c' → d ≡ d' → e ≡ e' → v ≡ v' → f ≡ f' → g ≡ g'
    → ◌≡◌ {A = List Bool} (not (eqb a 0) ∷ not (eqb b 0) ∷ w ∷ not (eqb c 0) ∷ not (eqb d 0) ∷ not (eqb e 0) ∷ v ∷ not (eqb f 0) ∷ not (eqb g 0) ∷ [])
    (not (eqb a' 0) ∷ not (eqb b' 0) ∷ w' ∷ not (eqb c' 0) ∷ not (eqb d' 0) ∷ not (eqb e' 0) ∷ v' ∷ not (eqb f' 0) ∷ not (eqb g' 0) ∷ [])
nine p q r s t u x y z = cc

-- ---- put_name

-- a pair as the code's table has it
abbrev cells : ℕ × ℕ → List ℕ
cells p = p.0 ∷ p.1 ∷ []

pub name_part : (l : List (ℕ × ℕ)) (i : ℕ) → get_or (get_or (map cells l) i []) 0 0 ≡ (get_or l i (0, 0)).0
name_part [] i = refl
name_part (p ∷ l) zero = refl
name_part (p ∷ l) (suc i) = name_part l i

pub name_id : (l : List (ℕ × ℕ)) (i : ℕ) → get_or (get_or (map cells l) i []) 1 0 ≡ (get_or l i (0, 0)).1
name_id [] i = refl
name_id (p ∷ l) zero = refl
name_id (p ∷ l) (suc i) = name_id l i

nothing_put : (at : ℕ) (old : List ℕ) → old ≡ splice at [] old
unfolding splice
nothing_put at old = let q : at + 0 ≡ at = omega arith in rw (append-nil, q) (sym (take-append-drop at old))

module _ (old : List ℕ) (at : ℕ) (p : ℕ × ℕ) where
  pub not_put : PutAt (pair_for p true) at old old at
  not_put = record { ends = omega arith; bytes = nothing_put at old }

  -- two u32 stored one behind the other
  pub pair_put : at + 8 ≤ length old → {mid new : List ℕ} → mid ≡ put at (bytes_of 4 p.0) old → new ≡ put (at + 4) (bytes_of 4 p.1) mid → PutAt (pair_for p false) at old new (at + 8)
  pair_put h {mid} {new} e f =
      let a : mid ≡ splice at (bytes_of 4 p.0) old = e ∙ put-fits at (bytes_of 4 p.0) old (omega (arith, length-bytes_of 4 p.0)) in
      let n : length mid ≡ length old = ap length a ∙ stored_long 4 p.0 at old (omega arith) in
      let b : new ≡ splice (at + 4) (bytes_of 4 p.1) mid = f ∙ put-fits (at + 4) (bytes_of 4 p.1) mid (omega (arith, length-bytes_of 4 p.1)) in
      record {
        ends = omega (arith, length-append (bytes_of 4 p.0) (bytes_of 4 p.1), length-bytes_of 4 p.0, length-bytes_of 4 p.1);
        bytes = b ∙ ap (splice (at + 4) (bytes_of 4 p.1)) a ∙ ap (λ (k : ℕ). splice (at + k) (bytes_of 4 p.1) (splice at (bytes_of 4 p.0) old)) (sym (length-bytes_of 4 p.0)) ∙ splice_more at (bytes_of 4 p.0) (bytes_of 4 p.1) old (omega arith);
      }

-- ---- hand_list

-- the pairs b, written into an array of zeros, and the list that they go to
module _ (old b : List ℕ) {zero pairs : List ℕ} {n : ℕ} (w : Wrote b zero pairs n) where
  pub list_done : taken tt ≡ asked (room (length old) n) → {part new : List ℕ} → part ≡ take n pairs → new ≡ put 0 part old → WritesCount (fitting (length old) b) old (Ok n) new
  unfolding splice
  list_done i {part} {new} p q =
      let k : length b ≤ length old = omega (arith, w.count, room_holds (length old) n i) in
      let e : part ≡ b = p ∙ ap (λ (j : ℕ). take j pairs) w.count ∙ ap (take (length b)) w.bytes ∙ take-append_seam b (drop (length b) zero) in
      let z : 0 + length b ≡ length b = omega arith in
      fills_done b (taken_fits (length old) b k) w.count (q ∙ ap (λ (x : List ℕ). put 0 x old) e ∙ put-fits 0 b old (omega arith) ∙ rw z)
