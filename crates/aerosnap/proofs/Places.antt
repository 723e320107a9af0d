-- The place of a file's first fault lies within the file.
-- Assumes nothing.
use mathlib.Core.Path.{◌≡◌, ap}
use mathlib.Core.List.{List, [], ◌∷◌, ◌++◌}
use mathlib.Core.Bool.{Bool, true, false}
use Prim.Native.Nat.{ℕ, zero, suc, ◌+◌, ◌-◌, ◌≤◌, zero-le}
use native.Mathlib.Omega.{arith}
use lib.ListN.{length, take, drop, length-append, length-drop}
use lib.Seq.{length-take-le}
use borrow.Author.Tests.{leb-true}
use Rattle.answer.specs.Outcome.{Outcome, taken, checked, after, moved}
use Rattle.answer.proofs.Within.{Within, within_more, checked-within, after-within, moved-within}
use Rattle.aerosnap.specs.Known.{known}
use Rattle.aerosnap.specs.Payloads.{body_of, payload}
use Rattle.aerosnap.specs.File.{sections_most, header_checks, id_of, version_of, flags_of, length_of, payload_of, frame_checks, known_checks, ruled, section_of, sections, file_of}
use Rattle.aerosnap.proofs.Bodies.{lawful_body, payload-within}
use Rattle.aerosnap.proofs.Sections.{section_sound}

module _ (before : List (List ℕ)) (at : ℕ) where
  pub ruled-within : (id v f : ℕ) (p : List ℕ) → Within (ruled before at id v f p) (at + 16 + length p)
  unfolding ruled
  ruled-within id v f p = go (known id)
    where
      go : (b : Bool) → Within {A = Unit {0}} (elim b as (λ _. Outcome (Unit {0})) [ true ↦ checked (known_checks before at id v f p) (moved (at + 16) (payload (body_of id v) p)) | false ↦ taken tt ]) (at + 16 + length p)
      go true =
          checked-within (known_checks before at id v f p) (moved (at + 16) (payload (body_of id v) p)) (at + 16 + length p)
          (omega arith, λ _. (omega arith, λ _. (omega arith, λ _. (omega arith, λ _. moved-within (at + 16) (payload (body_of id v) p) (at + 16 + length p) (length p) (payload-within (body_of id v) (lawful_body id v) p) (omega arith)))))
      go false = tt

  pub section_within : (b : List ℕ) → Within (section_of before at b) (at + length b)
  unfolding section_of
  section_within b =
      let r : Outcome (Unit {0}) = ruled before at (id_of b) (version_of b) (flags_of b) (payload_of b) in
      checked-within (frame_checks before at b) (after r (λ _. taken (16 + length_of b))) (at + length b) (
        omega arith,
        λ i. (
          omega arith,
          λ _. (
            omega arith,
            λ j.
                let l : length (payload_of b) ≡ length_of b = length-take-le (length_of b) (drop 16 b) (omega (arith, length-drop 16 b, leb-true (length_of b) (length b - 16) j)) in
                after-within r (λ _. taken (16 + length_of b)) (at + length b)
                (within_more r (omega (arith, leb-true 16 (length b) i, leb-true (length_of b) (length b - 16) j)) (ruled-within (id_of b) (version_of b) (flags_of b) (payload_of b))) (λ _ _. tt),
          ),
        ),
      )

  -- a section that is taken is not empty, and ends within
  pub section_inside : (b : List ℕ) {w : ℕ} → section_of before at b ≡ taken w → (16 ≤ w) × (w ≤ length b)
  section_inside b h =
      let t = section_sound before at b h in
      (omega (arith, t.ends, t.is.whole), omega (arith, t.ends, ap length t.cut, length-append t.e t.more))

pub sections-within : (n : ℕ) (before : List (List ℕ)) (at : ℕ) (b : List ℕ) → Within (sections n before at b) (at + length b)
unfolding sections
sections-within zero before at [] = tt
sections-within (suc n) before at [] = tt
sections-within zero before at (c ∷ b) = after-within (section_of before at (c ∷ b)) (λ _. taken before) (at + length (c ∷ b)) (section_within before at (c ∷ b)) (λ _ _. tt)
sections-within (suc n) before at (c ∷ b) =
    after-within (section_of before at (c ∷ b)) (λ w. sections n (before ++ (take w (c ∷ b) ∷ [])) (at + w) (drop w (c ∷ b))) (at + length (c ∷ b)) (section_within before at (c ∷ b))
    (λ w h. within_more (sections n (before ++ (take w (c ∷ b) ∷ [])) (at + w) (drop w (c ∷ b))) (omega (arith, length-drop w (c ∷ b), (section_inside before at (c ∷ b) h).1)) (sections-within n (before ++ (take w (c ∷ b) ∷ [])) (at + w) (drop w (c ∷ b))))

pub file_within : (s : List ℕ) → Within (file_of s) (length s)
unfolding file_of
file_within s =
    checked-within (header_checks s) (sections sections_most [] 16 (drop 16 s)) (length s) (
      zero-le,
      λ _. (
        zero-le,
        λ i.
            let l : 16 ≤ length s = leb-true _ _ i in (
              zero-le,
              λ _. (
                omega arith,
                λ _. (
                  omega arith,
                  λ _. (
                    omega arith,
                    λ _. (
                      omega arith,
                      λ _.
                          within_more (sections sections_most [] 16 (drop 16 s)) (omega (arith, length-drop 16 s)) (sections-within sections_most [] 16 (drop 16 s)),
                    ),
                  ),
                ),
              ),
            ),
      ),
    )
