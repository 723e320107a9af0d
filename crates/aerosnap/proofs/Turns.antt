-- What a loop over the sections of a file needs: the walk at a place by its first section, and where the sections of a file that is taken stand.
-- Assumes nothing.
use mathlib.Core.Path.{◌≡◌, refl, sym, ◌∙◌, ap}
use mathlib.Core.List.{List, [], ◌∷◌, ◌++◌}
use Prim.Native.Nat.{ℕ, zero, suc, ◌+◌, ◌≤◌, ◌<◌}
use native.Mathlib.Omega.{arith}
use lib.ListN.{length, take, drop, length-append, length-drop, drop_of_length-le}
use lib.Seq.{drop-drop, take_at, drop_at}
use Rattle.answer.specs.Outcome.{Outcome, taken, refused, after}
use Rattle.answer.specs.Calls.{asked}
use Rattle.answer.proofs.Checks.{checked-asked}
use Rattle.order.specs.Entries.{join}
use Rattle.aerosnap.specs.File.{sections_most, header, header_checks, id_of, length_of, section_of, sections, file_of}
use Rattle.aerosnap.specs.Rules.{IsSection}
use Rattle.aerosnap.proofs.Sections.{id_front, length_front}

-- the walk from a place of s on
abbrev pub sections_at : ℕ → List (List ℕ) → List ℕ → ℕ → Outcome (List (List ℕ))
sections_at n before s at = sections n before at (drop at s)

-- ---- the walk at a place

module _ (before : List (List ℕ)) (s : List ℕ) (at : ℕ) where
  pub walk_end : (n : ℕ) → length s ≤ at → sections_at n before s at ≡ taken before
  unfolding sections
  walk_end zero h = rw (drop_of_length-le s h)
  walk_end (suc n) h = rw (drop_of_length-le s h)

  -- after 64 sections too
  pub walk_stop : (n : ℕ) → at < length s → {a p : ℕ} → section_of before at (drop at s) ≡ refused a p → sections_at n before s at ≡ refused a p
  unfolding sections
  walk_stop n h = go n (drop at s) (rw length-drop (omega arith))
    where
      go : (n : ℕ) (b : List ℕ) → 0 < length b → {a p : ℕ} → section_of before at b ≡ refused a p → sections n before at b ≡ refused a p
      go n [] h r = absurd (omega arith)
      go zero (c ∷ b) h r = rw r
      go (suc n) (c ∷ b) h r = rw r

  pub walk_next : (n : ℕ) → at < length s → {w : ℕ} → section_of before at (drop at s) ≡ taken w
      → sections_at (suc n) before s at ≡ sections_at n (before ++ (take w (drop at s) ∷ [])) s (at + w)
  unfolding sections
  walk_next n h {w} r = go (drop at s) (rw length-drop (omega arith)) r ∙ ap (sections n (before ++ (take w (drop at s) ∷ [])) (at + w)) (drop-drop w at s)
    where
      go : (b : List ℕ) → 0 < length b → section_of before at b ≡ taken w → sections (suc n) before at b ≡ sections n (before ++ (take w b ∷ [])) (at + w) (drop w b)
      go [] h r = absurd (omega arith)
      go (c ∷ b) h r = rw r

-- a file is its header, and then its sections
pub file_header : (s : List ℕ) → file_of s ≡ after (asked (header_checks s)) (λ _. sections_at sections_most [] s 16)
unfolding file_of
file_header s = checked-asked (header_checks s) (sections_at sections_most [] s 16)

-- ---- where the sections of a file that is taken stand

-- the section at a place where sections stand: its numbers, its bytes, and where the next one stands
pub record Stands (s : List ℕ) (at : ℕ) (e : List ℕ) (l : List (List ℕ)) : Type 0 where
  pub id_is : id_of (drop at s) ≡ id_of e
  pub length_is : length_of (drop at s) ≡ length_of e
  pub bytes_are : take (length e) (drop at s) ≡ e
  pub fits : at + length e ≤ length s
  pub next : drop (at + length e) s ≡ join l

pub stands : (s : List ℕ) (at : ℕ) (e : List ℕ) (l : List (List ℕ)) → at ≤ length s → drop at s ≡ join (e ∷ l) → IsSection e → Stands s at e l
stands s at e l i h k = record {
  id_is = ap id_of h ∙ id_front e (join l) k.whole;
  length_is = ap length_of h ∙ length_front e (join l) k.whole;
  bytes_are = ap (take (length e)) h ∙ take_at e (join l) (length e) refl;
  fits = omega (arith, length-drop at s, ap length h, length-append e (join l));
  next = sym (drop-drop (length e) at s) ∙ ap (drop (length e)) h ∙ drop_at e (join l) (length e) refl;
}

-- the first of them stands behind the header
pub first-stands : (s : List ℕ) (l : List (List ℕ)) → s ≡ header ++ join l → drop 16 s ≡ join l
first-stands s l h = ap (drop 16) h
