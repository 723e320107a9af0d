-- Salvage: its output is accepted and canonical; an accepted file yields its canonical form and no record, and there is none exactly if the file is accepted; what is kept and what is lost are the file.
-- Assumes nothing.
use mathlib.Core.Path.{◌≡◌, refl, sym, ◌∙◌, ap, subst}
use mathlib.Core.Logic.{◌↔◌}
use mathlib.Core.List.{List, [], ◌∷◌, ◌++◌, map}
use mathlib.Core.Bool.{Bool, true, false}
use Prim.Native.Nat.{ℕ, ◌+◌, ◌≤◌}
use native.Mathlib.Omega.{arith}
use lib.ListN.{length, drop, length-append, length-drop}
use lib.Dec.{leb}
use borrow.Author.Tests.{leb-true, le-leb}
use Rattle.answer.specs.Numbers.{ROOM}
use Rattle.answer.specs.Outcome.{taken, Pass, checked, after, fitting}
use Rattle.answer.proofs.Checks.{checked-pass, pass-checked}
use Rattle.answer.proofs.Outcomes.{taken_is, after_taken}
use Rattle.order.specs.Entries.{join}
use Rattle.aerosnap.specs.File.{file_most, sections_most, header, header_checks, sections, file_of}
use Rattle.aerosnap.specs.Rules.{IsFile}
use Rattle.aerosnap.specs.Content.{content_of, render, content_at, canonical, IsCanonical}
use Rattle.aerosnap.specs.Salvage.{Part, keeps, loses, bytes_in, parts_from, parts_of, all_kept, loss_rows, Rescued, rescued_of, fitting_both, salvage}
use Rattle.aerosnap.proofs.Taken.{header_sound, file_sound, file_complete}
use Rattle.aerosnap.proofs.Canon.{canon_of, secs_fewer}
use Rattle.aerosnap.proofs.Back.{read_back}
use Rattle.aerosnap.proofs.Canonical.{canonical_exactly, fits_taken, taken_fits}
use Rattle.aerosnap.proofs.Parts.{parts_cover, parts_sound, parts_all}

-- ---- parts

-- no more is kept than there was
pub kept_shorter : (l : List Part) → length (join (all_kept l)) ≤ length (join (map bytes_in l))
kept_shorter [] = omega arith
kept_shorter (keeps e ∷ l) = omega (arith, kept_shorter l, length-append e (join (all_kept l)), length-append e (join (map bytes_in l)))
kept_shorter (loses n e ∷ l) = omega (arith, kept_shorter l, length-append e (join (map bytes_in l)))

kept_all : (l : List (List ℕ)) → all_kept (map keeps l) ≡ l
kept_all [] = refl
kept_all (e ∷ l) = ap (λ (m : List (List ℕ)). e ∷ m) (kept_all l)

-- parts of which none is lost
no_rows : (at : ℕ) (l : List (List ℕ)) → loss_rows at (map keeps l) ≡ []
no_rows at [] = refl
no_rows at (e ∷ l) = no_rows (at + length e) l

none_lost : (at : ℕ) (l : List Part) → loss_rows at l ≡ [] → map bytes_in l ≡ all_kept l
none_lost at [] h = refl
none_lost at (keeps e ∷ l) h = ap (λ (m : List (List ℕ)). e ∷ m) (none_lost (at + length e) l h)
none_lost at (loses n e ∷ l) h = absurd (omega (arith, ap length h))

-- ---- the parts of a file

-- of an accepted file all are kept
pub accepted_parts : (s : List ℕ) (l : List (List ℕ)) → file_of s ≡ taken l → parts_of s ≡ map keeps l
accepted_parts s l e =
    let v = file_sound s e in
    ap (parts_from (length s) [] 16) (ap (drop 16) v.0) ∙ parts_all l (length s) [] 16 (omega (arith, ap length v.0, length-append header (join l))) (omega (arith, v.1.few)) v.1.are v.1.once

module _ (s : List ℕ) (h : Pass (header_checks s)) where
  long : 16 ≤ length s
  long = leb-true 16 (length s) h.1.0

  -- What is kept and what is lost are the file, in order, behind its header.
  pub file_parts : s ≡ header ++ join (map bytes_in (parts_of s))
  file_parts = header_sound s h ∙ ap (λ (b : List ℕ). header ++ b) (sym (parts_cover (length s) [] 16 (drop 16 s) (omega (arith, length-drop 16 s))))

  -- The sections that are kept follow the rules.
  pub kept_valid : IsFile (all_kept (parts_of s))
  kept_valid =
      let v = parts_sound (length s) [] 16 (drop 16 s) (record { few = omega arith; are = tt; once = tt }) in
      record {
        few = v.few;
        short = omega (arith, kept_shorter (parts_of s), ap length file_parts, length-append header (join (map bytes_in (parts_of s))), length-append header (join (all_kept (parts_of s))), leb-true (length s) file_most h.0);
        are = v.are;
        once = v.once;
      }

  -- Where nothing is lost, what is kept are the file's sections.
  pub no_loss_taken : (rescued_of (parts_of s)).losses ≡ [] → file_of s ≡ taken (all_kept (parts_of s))
  no_loss_taken e = ap file_of (file_parts ∙ ap (λ (m : List (List ℕ)). header ++ join m) (none_lost 16 (parts_of s) e)) ∙ file_complete (all_kept (parts_of s)) kept_valid

  -- There is no loss exactly if the file is accepted.
  pub no_loss : ((rescued_of (parts_of s)).losses ≡ []) ↔ ((l : List (List ℕ)) × (file_of s ≡ taken l))
  no_loss = (
    λ e. (all_kept (parts_of s), no_loss_taken e),
    λ (l, e). ap (loss_rows 16) (accepted_parts s l e) ∙ no_rows 16 l,
  )

-- ---- the call

-- A salvage gives x exactly if the header has no fault, x is what is made of the file's parts, and both outputs hold it.
pub salvage_exactly : (have room : ℕ) (s : List ℕ) (x : Rescued)
    → (salvage have room s ≡ taken x) ↔ (Pass (header_checks s) × (rescued_of (parts_of s) ≡ x) × (length x.file ≤ have) × (length (join x.losses) ≤ room))
unfolding salvage
salvage_exactly have room s x = (
  λ h.
      let y : Rescued = rescued_of (parts_of s) in
      let c = checked-pass (header_checks s) (fitting_both have room y) x h in
      let p = after_taken (fitting have y.file) (λ _. after (fitting room (join y.losses)) (λ _. taken y)) c.1 in
      let q = after_taken (fitting room (join y.losses)) (λ _. taken y) p.2 in
      let e : y ≡ x = taken_is q.2 in
      (c.0, e, subst (λ (z : Rescued). length z.file ≤ have) e (fits_taken have y.file p.1).0, subst (λ (z : Rescued). length (join z.losses) ≤ room) e (fits_taken room (join y.losses) q.1).0),
  λ (c, e, i, j). pass-checked (header_checks s) (fitting_both have room (rescued_of (parts_of s))) c ∙ ap (fitting_both have room) e ∙ rw (taken_fits have x.file i, taken_fits room (join x.losses) j) refl,
)

-- What is salvaged of a file: the output is accepted, it is the canonical form of what was kept, and is no longer than the file.
pub record Salvages (s : List ℕ) (x : Rescued) : Type 0 where
  pub kept : List (List ℕ)
  pub valid : IsFile kept
  pub content : content_at x.file ≡ taken (content_of kept)
  pub in_order : IsCanonical x.file
  pub shorter : length x.file ≤ length s
  pub parts : s ≡ header ++ join (map bytes_in (parts_of s))
  pub are : kept ≡ all_kept (parts_of s)
  pub rows : x.losses ≡ loss_rows 16 (parts_of s)

pub salvage_is : (have room : ℕ) (s : List ℕ) (x : Rescued) → salvage have room s ≡ taken x → Salvages s x
salvage_is have room s x h =
    let (c, e, i, j) = (salvage_exactly have room s x).0 h in
    let l : List (List ℕ) = all_kept (parts_of s) in
    let v : IsFile l = kept_valid s c in
    let f : render (content_of l) ≡ x.file = ap (λ (z : Rescued). z.file) e in
    let r : content_at x.file ≡ taken (content_of l) = subst (λ (b : List ℕ). content_at b ≡ taken (content_of l)) f (read_back (content_of l) (canon_of l v)) in
    record {
      kept = l;
      valid = v;
      content = r;
      in_order = (canonical_exactly (length x.file) x.file x.file).1 (content_of l, r, f, omega arith);
      shorter = omega (arith, ap length f, (secs_fewer l v).1, kept_shorter (parts_of s), ap length (file_parts s c), length-append header (join (map bytes_in (parts_of s))), length-append header (join l));
      parts = file_parts s c;
      are = refl;
      rows = sym (ap (λ (z : Rescued). z.losses) e);
    }

-- a file and no record
abbrev pub lossless : List ℕ → Rescued
lossless b = record { file = b; losses = [] }

-- An accepted file yields its canonical form and no record, whatever room there is for records.
pub accepted_salvage : (have room : ℕ) (s : List ℕ) (l : List (List ℕ)) → file_of s ≡ taken l → salvage have room s ≡ after (canonical have s) (λ b. taken (lossless b))
unfolding salvage canonical file_of
accepted_salvage have room s l e =
    let c = (checked-pass (header_checks s) (sections sections_most [] 16 (drop 16 s)) l e).0 in
    let p = accepted_parts s l e in
    let q : rescued_of (parts_of s) ≡ lossless (render (content_of l)) = ap rescued_of p ∙ cc (kept_all l, no_rows 16 l) in
    pass-checked (header_checks s) (fitting_both have room (rescued_of (parts_of s))) c ∙ ap (fitting_both have room) q ∙ rw (e, le-leb 0 room (omega arith)) (go (leb (length (render (content_of l))) have))
  where
    R : List ℕ
    R = render (content_of l)

    go : (t : Bool) → after (checked ((t, ROOM, length R) ∷ []) (taken R)) (λ _. taken (lossless R)) ≡ after (checked ((t, ROOM, length R) ∷ []) (taken R)) (λ b. taken (lossless b))
    go true = refl
    go false = refl
