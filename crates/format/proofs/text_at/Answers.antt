use mathlib.Core.Path.{◌≡◌}
use mathlib.Core.List.{List}
use Rattle.std.proofs.Common.{Ok, Err}
use Rattle.utf8.proofs.Reading.{reads_asked, reads_within}
use native.Mathlib.Omega.{arith}
use Rattle.format.specs.Format.{at_most, any, utf8, sized}
use lib.ListN.{length, take, drop, length-take}
use Rattle.answer.specs.Outcome.{taken}
use Rattle.format.specs.Places.{read_at}
use Prim.Native.Nat.{ℕ, ◌+◌, ◌-◌, ◌≤◌}
use Rattle.format.proofs.Placed.{sized_at}
use Rattle.format.proofs.Exits.{sized_inside, asked_stop, asked-done, asked_fault}
use Rattle.answer.proofs.Outcomes.{passes}
use Rattle.format.proofs.text_at.Goals as goal

-- the text behind the length, which ends at e
module _ (s : List ℕ) (at most e : ℕ) (read : taken e ≡ read_at (sized 4 (at_most most) any) s at) where
  inside : (at + 4 ≤ e) × (e ≤ length s)
  inside = sized_inside s at 4 (at_most most) any read (omega arith)

  -- where it breaks lies within the bytes
  breaks_inside : {k : ℕ} → k ≤ length (take (e - (at + 4)) (drop (at + 4) s)) → at + 4 + k ≤ length s
  breaks_inside h = omega (arith, inside, h, length-take (e - (at + 4)) (drop (at + 4) s))

pub overflow_add-b : goal.overflow_add-b
overflow_add-b c = omega (arith, inside c.args.s.now c.args.at c.args.most c.in_ok-e.e c.in_ok-e.ensures)

pub slice_bounds-text-count : goal.slice_bounds-text-count
slice_bounds-text-count c = omega (arith, inside c.args.s.now c.args.at c.args.most c.in_ok-e.e c.in_ok-e.ensures)

pub slice_bounds-text-start : goal.slice_bounds-text-start
slice_bounds-text-start c = omega (arith, inside c.args.s.now c.args.at c.args.most c.in_ok-e.e c.in_ok-e.ensures)

pub slice_bounds-text-end : goal.slice_bounds-text-end
slice_bounds-text-end c = omega (arith, inside c.args.s.now c.args.at c.args.most c.in_ok-e.e c.in_ok-e.ensures)

pub overflow_add-result : goal.overflow_add-result
overflow_add-result c = omega (arith, breaks_inside c.args.s.now c.args.at c.args.most c.in_ok-e.e c.in_ok-e.ensures (reads_within _ c.text.result c.text.ensures c.in-Err.is))

pub returns-in_err-e : goal.returns-in_err-e
returns-in_err-e c = let a = c.args in
    passes _ c.in_err-e.field-0.0 c.from_residual.ensures.1 (asked_stop utf8 a.s.now (a.at + 4) (sized_at 4 (at_most a.most) utf8 a.s.now a.at) c.in_err-e.ensures)

pub returns-in-Ok : goal.returns-in-Ok
returns-in-Ok c = let a = c.args in
    asked-done utf8 a.s.now (a.at + 4) (sized_at 4 (at_most a.most) utf8 a.s.now a.at) c.in_ok-e.ensures (reads_asked _ (Ok tt) c.in-Ok.ensures)

pub returns-in-Err : goal.returns-in-Err
returns-in-Err c = let a = c.args in
    asked_fault utf8 a.s.now (a.at + 4) (sized_at 4 (at_most a.most) utf8 a.s.now a.at) c.in_ok-e.ensures (reads_asked _ (Err c.in-Err.k) c.in-Err.ensures)
