-- One walk over descriptors and rings: queue after queue is right, and its ring meets no earlier one.
-- Assumes nothing.
use Rattle.std.proofs.Common.{◌≡◌, refl, Result, Ok, Err, is_err, ℕ, ◌+◌, ◌*◌, ◌%◌, ◌<◌, ◌≤◌, true, false, List, length, arith}
use native.Mathlib.Decide.{dec_lt}
use Rattle.answer.specs.Outcome.{taken}
use Rattle.answer.specs.declared.Fault.{Fault}
use Rattle.answer.specs.Calls.{asked, outcome_of}
use Rattle.answer.proofs.Checks.{asked-pass}
use Rattle.wire.specs.Numbers.{le_at}
use Rattle.region.specs.declared.Ring.{Ring}
use Rattle.region.specs.Region.{count_of, offset_of, capacity_of, ring_at, is_capacity, cursor_checks}
use Rattle.region.specs.Valid.{Queue, Apart}
use Rattle.region.specs.Steps.{Clear, Further, Right}
use Rattle.region.proofs.Taken.{capacity_power, pass_cursors}

-- a test that is no fault is fine
pub fine : (r : Result (Unit {0}) Fault) → is_err r ≡ false → taken tt ≡ outcome_of r
fine (Ok a) h = refl
fine (Err f) h = cc

module _ (b : List ℕ) where
  -- descriptor i and its ring, as they were read
  pub further_of : (i top up : ℕ) {at cap : ℕ} {r : Ring} → at ≡ offset_of b i → cap ≡ capacity_of b i → r ≡ ring_at b at
      → (16 + 16 * count_of b ≤ at) × Clear b i at (at + 16 + cap) → at % 4 ≡ 0 → at + 16 + cap ≤ length b → is_capacity cap ≡ true → le_at 4 b (28 + 16 * i) ≡ 0
      → taken tt ≡ asked (cursor_checks r at cap) → (top ≤ up) × (at + 16 + cap ≤ up) → Further b i top up
  further_of i top up {at} {cap} {r} e f g free four inside power spare cursors covers =
      let c = pass_cursors r at cap (asked-pass (cursor_checks r at cap) cursors) in
      let behind = free.0 in
      let low = covers.1 in
      record {
        queue = record {
          four = rw e at four;
          behind = omega arith;
          inside = omega arith;
          capacity = rw f at (capacity_power cap power);
          spare = spare;
          cursors = rw (g, e, f) at c;
        };
        clear = rw (e, f) at free.1;
        covers = (covers.0, omega arith);
      }

  -- one more
  pub right_next : (i top end : ℕ) → Right b i → Further b i top end → Right b (i + 1)
  right_next i top end r s = record { queues = λ j l. queue j l (dec_lt j i); apart = λ j k l m. apart j k l m (dec_lt j i) }
    where
      queue : (j : ℕ) → j < i + 1 → Dec (j < i) → Queue b j
      queue j l (yes h) = r.queues j h
      queue j l (no h) = let e : j ≡ i = omega (arith, h) in rw e s.queue

      apart : (j k : ℕ) → k < j → j < i + 1 → Dec (j < i) → Apart b j k
      apart j k l m (yes h) = r.apart j k l h
      apart j k l m (no h) = let e : j ≡ i = omega (arith, h) in rw e (s.clear k (omega arith))
