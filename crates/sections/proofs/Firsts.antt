-- The first fault of a file of which something is lost: what the reader says of the first part that is lost, and that it is the answer of the whole walk.
-- Assumes nothing.
use mathlib.Core.Path.{◌≡◌, refl, sym, ◌∙◌, ap, subst}
use mathlib.Core.Logic.{◌⊎◌, inl, inr}
use mathlib.Core.List.{List, [], ◌∷◌, ◌++◌}
use mathlib.Core.Bool.{Bool, true, false, ◌&&◌}
use Prim.Native.Nat.{ℕ, suc, ◌+◌, ◌-◌, ◌≤◌, ◌<◌}
use native.Mathlib.Omega.{arith}
use lib.ListN.{length, take, drop}
use lib.Dec.{leb, ltb}
use borrow.Author.Tests.{le-leb, lt-leb, lt-ltb, le-ltb}
use Rattle.answer.specs.Numbers.{CUT, MANY}
use Rattle.answer.specs.Outcome.{Outcome, taken, refused, checked, after}
use Rattle.std.proofs.Common.{Result, Ok, Err, Some}
use Rattle.answer.specs.declared.Fault.{Fault}
use Rattle.answer.specs.Calls.{fault_of}
use Rattle.answer.specs.Refusals.{number_of}
use Rattle.aerosnap.specs.File.{sections_most, length_of, fits_in, id_of, version_of, flags_of, payload_of, ruled, section_of}
use Rattle.aerosnap.specs.Salvage.{Part, loss_rows, read_part}
use Rattle.aerosnap.proofs.Turns.{sections_at, walk_end, walk_stop, walk_next}
use Rattle.sections.specs.Steps.{walked_from, FirstOf, losses_by}
use Rattle.sections.specs.Directory.{losses_of, lost_of}

-- ---- the reader's own answer

module _ (l : List (List ℕ)) (at : ℕ) (b : List ℕ) where
  abbrev more : Outcome ℕ
  more = after (ruled l at (id_of b) (version_of b) (flags_of b) (payload_of b)) (λ _. taken (16 + length_of b))

  abbrev by : Bool → Bool → Bool → Outcome ℕ
  by x y z = checked ((x, CUT, at) ∷ (y, MANY, at) ∷ (z, CUT, at) ∷ []) more

  by_frame : section_of l at b ≡ by (leb 16 (length b)) (ltb (length l) sections_most) (leb (length_of b) (length b - 16))
  unfolding section_of
  by_frame = refl

  -- with few sections, or no header, it is the one of the part
  pub reader_few : {n p : ℕ} → (length l < 64) ⊎ (length b < 16) → read_part l at b ≡ refused n p → section_of l at b ≡ refused n p
  reader_few {n} {p} h r = by_frame ∙ go (leb 16 (length b)) (leb (length_of b) (length b - 16)) (short h) (ap (λ (o : Outcome ℕ). checked ((fits_in b, CUT, at) ∷ []) o) (sym by_frame) ∙ r)
    where
      short : (length l < 64) ⊎ (length b < 16) → (length l < 64) ⊎ (leb 16 (length b) ≡ false)
      short (inl i) = inl i
      short (inr i) = inr (lt-leb 16 (length b) i)

      go : (x z : Bool) → (length l < 64) ⊎ (x ≡ false) → checked ((x && z, CUT, at) ∷ []) (by x (ltb (length l) sections_most) z) ≡ refused n p → by x (ltb (length l) sections_most) z ≡ refused n p
      go true true h r = r
      go false z h r = r
      go true false (inl i) r = rw (lt-ltb (length l) 64 i) r
      go true false (inr e) r = let z : ◌≡◌ {A = ℕ} 0 1 = cc in absurd (omega arith)

  -- where 64 are kept, the next one that has a header is one too many
  pub reader_many : 64 ≤ length l → 16 ≤ length b → section_of l at b ≡ refused MANY at
  reader_many h i = by_frame ∙ rw (le-leb 16 (length b) i, le-ltb (length l) 64 h) refl

-- ---- what the loop keeps

-- nothing is lost, and the walk goes on from the place; or something is, and the whole walk is refused
abbrev pub FirstSo : Result (Unit {0}) Fault → Outcome (List (List ℕ)) → ℕ → Outcome (List (List ℕ)) → Type 0
FirstSo (Ok _) o lost rest = (lost ≡ 0) × (o ≡ rest)
FirstSo (Err f) o lost rest = (1 ≤ lost) × (o ≡ fault_of f)

module _ (s : List ℕ) (at n lost : ℕ) (l : List (List ℕ)) (h : at < length s) (c : n ≡ length l) where
  -- a part is lost
  pub first_lost : (first r : Result (Unit {0}) Fault) → FirstSo first (walked_from s) lost (sections_at (64 - n) l s at) → (fault : Fault) → FirstOf first s at n fault r → read_part l at (drop at s) ≡ fault_of fault
      → (rest : Outcome (List (List ℕ))) → FirstSo r (walked_from s) (lost + 1) rest
  first_lost (Err g) r v fault f q rest = subst (λ (t : Result (Unit {0}) Fault). FirstSo t (walked_from s) (lost + 1) rest) (sym f) (omega arith, v.1)
  first_lost (Ok _) r v fault f q rest =
      subst (λ (t : Result (Unit {0}) Fault). FirstSo t (walked_from s) (lost + 1) rest) (sym f.is) (omega arith, v.1 ∙ walk_stop l s at (64 - n) h (f.reader l c q))

  -- a section is kept
  pub first-kept : (first : Result (Unit {0}) Fault) → FirstSo first (walked_from s) lost (sections_at (64 - n) l s at) → n < 64 → {w k : ℕ} → section_of l at (drop at s) ≡ taken w → w ≡ k → {e : List ℕ} → take w (drop at s) ≡ e
      → FirstSo first (walked_from s) lost (sections_at (64 - (n + 1)) (l ++ (e ∷ [])) s (at + k))
  first-kept (Err f) v i q y z = v
  first-kept (Ok _) v i {w} q y {e} z =
      let m : 64 - n ≡ suc (64 - (n + 1)) = omega arith in
      (v.0, v.1 ∙ ap (λ (j : ℕ). sections_at j l s at) m ∙ walk_next l s at (64 - (n + 1)) h q ∙ ap (λ (d : List ℕ). sections_at (64 - (n + 1)) (l ++ (d ∷ [])) s (at + w)) z ∙ ap (λ (j : ℕ). sections_at (64 - (n + 1)) (l ++ (e ∷ [])) s (at + j)) y)

-- the file ends
pub first_done : (s : List ℕ) (at m lost : ℕ) (l : List (List ℕ)) → length s ≤ at → (first : Result (Unit {0}) Fault) → FirstSo first (walked_from s) lost (sections_at m l s at) → (parts : List Part) → lost ≡ length (loss_rows 16 parts)
    → lost_of (losses_by first lost) ≡ losses_of (walked_from s) parts
first_done s at m lost l h (Ok _) v parts c = sym (ap (λ (o : Outcome (List (List ℕ))). losses_of o parts) (v.1 ∙ walk_end l s at m h))
first_done s at m lost l h (Err f) v parts c = ap (λ (k : ℕ). Some (k, number_of f.0, f.1)) c ∙ sym (ap (λ (o : Outcome (List (List ℕ))). losses_of o parts) v.1)
