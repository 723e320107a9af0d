use mathlib.Core.Path.{◌≡◌, sym, ◌∙◌}
use mathlib.Core.Bool.{true}
use lib.ListN.{length, drop}
use Rattle.wire.specs.Numbers.{le_at}
use Rattle.aerosnap.specs.File.{fits_in}
use Rattle.sections.proofs.Counts.{counting_start, counting_many, counting_stop, counting_goes, counting_next, counting_done}
use Prim.Native.Nat.{◌+◌, ◌≤◌}
use native.Mathlib.Omega.{arith}
use Rattle.sections.proofs.count_starts.Goals as goal

pub loop-i-init : goal.loop-i-init
loop-i-init c = counting_start _ _

pub returns-then-n-gt256 : goal.returns-then-n-gt256
returns-then-n-gt256 c = counting_many c.loop-i.invariant c.if-n-gt256.true

pub returns-then-not-fits : goal.returns-then-not-fits
returns-then-not-fits c = counting_stop c.loop-i.invariant c.loop-i-test.true (sym c.fits.ensures ∙ c.if-not-fits.true)

pub entries_at-n-requires : goal.entries_at-n-requires
entries_at-n-requires c =
    let fit : fits_in (drop c.loop-i.at c.args.file.now) ≡ true = sym c.fits.ensures ∙ c.if-not-fits.false in
    let within : let s = c.args.file.now in let at = c.loop-i.at in at + (16 + le_at 8 s (at + 8)) ≤ length s = counting_goes (c.loop-i.invariant) c.loop-i-test.true (fit) in
    omega (arith, within)

pub overflow_add-n : goal.overflow_add-n
overflow_add-n c = omega (arith, c.if-n-gt256.false, c.entries_at-n.ensures.1)

pub overflow_add-at : goal.overflow_add-at
overflow_add-at c =
    let fit : fits_in (drop c.loop-i.at c.args.file.now) ≡ true = sym c.fits.ensures ∙ c.if-not-fits.false in
    let within : let s = c.args.file.now in let at = c.loop-i.at in at + (16 + le_at 8 s (at + 8)) ≤ length s = counting_goes (c.loop-i.invariant) c.loop-i-test.true (fit) in
    omega (arith, within)

pub overflow_add-at-in-loop-i : goal.overflow_add-at-in-loop-i
overflow_add-at-in-loop-i c =
    let fit : fits_in (drop c.loop-i.at c.args.file.now) ≡ true = sym c.fits.ensures ∙ c.if-not-fits.false in
    let within : let s = c.args.file.now in let at = c.loop-i.at in at + (16 + le_at 8 s (at + 8)) ≤ length s = counting_goes (c.loop-i.invariant) c.loop-i-test.true (fit) in
    omega (arith, within, c.u64_at.ensures)

pub overflow_add-at-in-loop-i-2 : goal.overflow_add-at-in-loop-i-2
overflow_add-at-in-loop-i-2 c =
    let fit : fits_in (drop c.loop-i.at c.args.file.now) ≡ true = sym c.fits.ensures ∙ c.if-not-fits.false in
    let within : let s = c.args.file.now in let at = c.loop-i.at in at + (16 + le_at 8 s (at + 8)) ≤ length s = counting_goes (c.loop-i.invariant) c.loop-i-test.true (fit) in
    omega (arith, within, c.u64_at.ensures)

pub loop-i-preserved : goal.loop-i-preserved
loop-i-preserved c =
    let fit : fits_in (drop c.loop-i.at c.args.file.now) ≡ true = sym c.fits.ensures ∙ c.if-not-fits.false in
    counting_next (c.loop-i.invariant) c.loop-i-test.true (fit) c.entries_at-n.ensures.0 c.u64_at.ensures

pub returns : goal.returns
returns c = counting_done c.loop-i.invariant c.loop-i-test.false
