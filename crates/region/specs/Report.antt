-- A queue's cursors, as hosts show them: signed.
-- Assumes nothing.
use Rattle.std.specs.Prelude.{ℕ, ◌-◌, cond, List, ℤ, pos, negsuc, nat_lt}
use Rattle.answer.specs.Outcome.{Outcome, taken, refused, checked}
use Rattle.region.specs.declared.Ring.{Ring}
use Rattle.region.specs.declared.Cursors.{Cursors}
use Rattle.region.specs.Region.{offset_of, ring_at, queue_checks}

-- the i32 of a u32's bits: from 2^31 on, 2^32 less; `negsuc n` is - (n + 1)
unfoldable pub signed_of : ℕ → ℤ
signed_of x = cond (nat_lt x 2147483648) (pos x) (negsuc (4294967295 - x))

abbrev pub as_cursors : Outcome Ring → Cursors
as_cursors (taken r) = record { number = 0; place = 0; head = signed_of r.head; reserve = signed_of r.reserve; commit = signed_of r.commit }
as_cursors (refused n p) = record { number = n; place = p; head = pos 0; reserve = pos 0; commit = pos 0 }

abbrev pub report_call : List ℕ → ℕ → Outcome Ring
report_call b q = checked (queue_checks b q) (taken (ring_at b (offset_of b q)))
