use Rattle.aerosnap.specs.Adding.{disk, own_checks}
use Rattle.utf8.specs.Scan.{is_text}
use Rattle.answer.specs.Outcome.{taken}
use Rattle.answer.specs.Calls.{asked}
use Rattle.answer.proofs.Checks.{Left, left_all, left_pass, left_fail}
use lib.ListN.{length, drop}
use mathlib.Core.Bool.{true}
use mathlib.Core.List.{List}
use mathlib.Core.Path.{◌≡◌, sym, ◌∙◌}
use Prim.Native.Nat.{ℕ}
use borrow.Author.Tests.{le-leb, lt-leb}
use Rattle.edits.proofs.images.Goals as goal

abbrev From : ℕ → List ℕ → List ℕ → Type 0
From n x y = Left (drop n (own_checks (disk 0 x y))) (taken tt) (asked (own_checks (disk 0 x y)))

all : (x y : List ℕ) → From 0 x y
all x y = left_all (own_checks (disk 0 x y)) (taken tt)

pub returns-then-base-gt-IMAGE_MOST : goal.returns-then-base-gt-IMAGE_MOST
returns-then-base-gt-IMAGE_MOST c = let a = c.args in left_fail (all a.base.now a.overlay.now) (rw (lt-leb (length a.base.now) 65536 c.if-base-gt-IMAGE_MOST.true))

pub returns-then-overlay-gt-IMAGE_MOST : goal.returns-then-overlay-gt-IMAGE_MOST
returns-then-overlay-gt-IMAGE_MOST c = let a = c.args in
    left_fail (all a.base.now a.overlay.now) (rw (le-leb (length a.base.now) 65536 c.if-base-gt-IMAGE_MOST.false, lt-leb (length a.overlay.now) 65536 c.if-overlay-gt-IMAGE_MOST.true))

pub returns-then-not-is_text : goal.returns-then-not-is_text
returns-then-not-is_text c =
    let short : From 1 (c.args.base.now) (c.args.overlay.now) = left_pass (all (c.args.base.now) (c.args.overlay.now)) (rw (le-leb (length (c.args.base.now)) 65536 c.if-base-gt-IMAGE_MOST.false, le-leb (length (c.args.overlay.now)) 65536 c.if-overlay-gt-IMAGE_MOST.false)) in
    left_fail (short) (rw (sym c.is_text.ensures ∙ c.if-not-is_text.true))

pub returns-then-not-is_text-2 : goal.returns-then-not-is_text-2
returns-then-not-is_text-2 c =
    let short : From 1 (c.args.base.now) (c.args.overlay.now) = left_pass (all (c.args.base.now) (c.args.overlay.now)) (rw (le-leb (length (c.args.base.now)) 65536 c.if-base-gt-IMAGE_MOST.false, le-leb (length (c.args.overlay.now)) 65536 c.if-overlay-gt-IMAGE_MOST.false)) in
    let base_text : is_text (c.args.base.now) ≡ true = sym c.is_text.ensures ∙ c.if-not-is_text.false in
    left_fail (short) (rw (base_text, sym c.is_text-2.ensures ∙ c.if-not-is_text-2.true))

pub returns : goal.returns
returns c =
    let short : From 1 (c.args.base.now) (c.args.overlay.now) = left_pass (all (c.args.base.now) (c.args.overlay.now)) (rw (le-leb (length (c.args.base.now)) 65536 c.if-base-gt-IMAGE_MOST.false, le-leb (length (c.args.overlay.now)) 65536 c.if-overlay-gt-IMAGE_MOST.false)) in
    let base_text : is_text (c.args.base.now) ≡ true = sym c.is_text.ensures ∙ c.if-not-is_text.false in
    (left_pass (short) (rw (base_text, sym c.is_text-2.ensures ∙ c.if-not-is_text-2.false))).same
