use Rattle.answer.specs.Calls.{asked}
use Rattle.answer.specs.Outcome.{Checks, taken}
use Rattle.answer.proofs.Checks.{Left, left_all, left_pass, left_fail}
use Rattle.aerosnap.specs.File.{file_most, sections_most, devices_most}
use Rattle.edits.specs.Steps.{bound_checks}
use borrow.Author.Tests.{le-leb, lt-leb}
use mathlib.Core.Bool.{true, not, ◌||◌}
use mathlib.Core.Path.{◌≡◌, sym, ◌∙◌}
use Prim.Native.Nat.{ℕ, ◌≤◌}
use lib.ListN.{drop}
use lib.Dec.{leb, eqb}
use Rattle.edits.proofs.bounds.Goals as goal

-- what is left to ask after each of the bounds
module _ (most id entries bytes sections size have : ℕ) where
  abbrev rows : Checks
  rows = bound_checks most id entries bytes sections size have

  abbrev From : ℕ → Type 0
  From n = Left (drop n rows) (taken tt) (asked rows)

  all : From 0
  all = left_all rows (taken tt)

  module _ (few : entries ≤ most) where
    left_few : From 1
    left_few = left_pass all (le-leb entries most few)

    module _ (small : (not (eqb id 4) || leb bytes devices_most) ≡ true) where
      left_small : From 2
      left_small = left_pass left_few small

      module _ (s : sections ≤ sections_most) where
        left_sections : From 3
        left_sections = left_pass left_small (le-leb sections sections_most s)

        left_size : size ≤ file_most → From 4
        left_size z = left_pass left_sections (le-leb size file_most z)

pub returns-then-most-entries : goal.returns-then-most-entries
returns-then-most-entries c = let a = c.args in left_fail (all a.most a.id a.entries a.bytes a.size.sections a.size.bytes a.have) (lt-leb _ _ c.if-most-entries.true)

pub returns-then-not-small : goal.returns-then-not-small
returns-then-not-small c = let a = c.args in
    left_fail (left_few a.most a.id a.entries a.bytes a.size.sections a.size.bytes a.have c.if-most-entries.false) (sym c.small.ensures ∙ c.if-not-small.true)

pub returns-then-size-gt-SECTIONS_MOST : goal.returns-then-size-gt-SECTIONS_MOST
returns-then-size-gt-SECTIONS_MOST c = let a = c.args in
    left_fail (left_small a.most a.id a.entries a.bytes a.size.sections a.size.bytes a.have c.if-most-entries.false (sym c.small.ensures ∙ c.if-not-small.false)) (lt-leb _ _ c.if-size-gt-SECTIONS_MOST.true)

pub returns-then-size-gt-FILE_MOST : goal.returns-then-size-gt-FILE_MOST
returns-then-size-gt-FILE_MOST c = let a = c.args in
    left_fail (left_sections a.most a.id a.entries a.bytes a.size.sections a.size.bytes a.have c.if-most-entries.false (sym c.small.ensures ∙ c.if-not-small.false) c.if-size-gt-SECTIONS_MOST.false) (lt-leb _ _ c.if-size-gt-FILE_MOST.true)

pub returns : goal.returns
returns c = let a = c.args in
    c.roomy.ensures ∙ (left_size a.most a.id a.entries a.bytes a.size.sections a.size.bytes a.have c.if-most-entries.false (sym c.small.ensures ∙ c.if-not-small.false) c.if-size-gt-SECTIONS_MOST.false c.if-size-gt-FILE_MOST.false).same
