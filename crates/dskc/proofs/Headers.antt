-- The header of a wrapper, by the numbers that the code reads.
-- Assumes nothing.
use mathlib.Core.Path.{◌≡◌, refl, sym, ◌∙◌}
use mathlib.Core.List.{List, ◌++◌}
use Prim.Native.Nat.{ℕ, ◌≤◌}
use native.Mathlib.Omega.{arith}
use lib.ListN.{length, take, drop}
use lib.Dec.{eqb}
use borrow.Author.Tests.{le-leb}
use Rattle.answer.specs.Outcome.{taken, refused}
use Rattle.answer.specs.Calls.{asked}
use Rattle.answer.proofs.Checks.{checked-append, asked-pass, asked_stop, pass-checked}
use Rattle.wire.specs.Numbers.{Bytes, le, le_at}
use Rattle.wire.specs.Parts.{same}
use Rattle.wire.proofs.Letters.{same_number}
use Rattle.dskc.specs.Wrapper.{wrapper_most, aero, dskc, wrapper_header_checks}
use Rattle.dskc.specs.Steps.{tag_checks}

module _ (s : List ℕ) (b : Bytes s) (most : length s ≤ wrapper_most) (long : 16 ≤ length s) where
  -- four letters at a place, as the number that they say
  aero_number : same (take 4 s) aero ≡ eqb (le_at 4 s 0) 0x4F524541
  unfolding le
  aero_number = same_number 4 s 0 aero b (omega arith) (omega arith) refl refl

  dskc_number : same (take 4 (drop 8 s)) dskc ≡ eqb (le_at 4 s 8) 0x434B5344
  unfolding le
  dskc_number = same_number 4 s 8 dskc b (omega arith) (omega arith) refl refl

  -- where the length is right, the two halves are all that is asked
  halves : asked (wrapper_header_checks s) ≡ asked (tag_checks 0x4F524541 0 s ++ tag_checks 0x434B5344 8 s)
  halves = rw (le-leb (length s) wrapper_most most, le-leb 16 (length s) long, aero_number, dskc_number)

  pub first_wrong : {n p : ℕ} → refused n p ≡ asked (tag_checks 0x4F524541 0 s) → refused n p ≡ asked (wrapper_header_checks s)
  first_wrong h = sym (halves ∙ checked-append (tag_checks 0x4F524541 0 s) (tag_checks 0x434B5344 8 s) (taken tt) ∙ asked_stop (tag_checks 0x4F524541 0 s) (asked (tag_checks 0x434B5344 8 s)) h)

  pub second_left : taken tt ≡ asked (tag_checks 0x4F524541 0 s) → asked (tag_checks 0x434B5344 8 s) ≡ asked (wrapper_header_checks s)
  second_left h = sym (halves ∙ checked-append (tag_checks 0x4F524541 0 s) (tag_checks 0x434B5344 8 s) (taken tt) ∙ pass-checked (tag_checks 0x4F524541 0 s) (asked (tag_checks 0x434B5344 8 s)) (asked-pass (tag_checks 0x4F524541 0 s) h))
