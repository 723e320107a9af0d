-- The ends of a call that writes: refused, with nothing written, or taken, with its bytes over the start of the lent memory.
-- Assumes nothing.
use mathlib.Core.Path.{◌≡◌, sym, ◌∙◌, ap}
use mathlib.Core.List.{List}
use Prim.Native.Nat.{ℕ}
use Rattle.answer.specs.Outcome.{Outcome, taken, refused}
use Rattle.answer.specs.Calls.{answer, memory, Writes}
use Rattle.wire.specs.Parts.{Wrote}

pub writes_refused : {o : Outcome (List ℕ)} {old : List ℕ} {n p : ℕ} → o ≡ refused n p → Writes o old (record { number = n; place = p }) old
writes_refused {o} {old} e = record { answers = sym (ap answer e); leaves = sym (ap (λ (x : Outcome (List ℕ)). memory x old) e) }

pub writes_taken : {o : Outcome (List ℕ)} {b old new : List ℕ} {n : ℕ} → o ≡ taken b → Wrote b old new n → Writes o old (record { number = 0; place = n }) new
writes_taken {o} {b} {old} e so = record {
  answers = ap (λ (k : ℕ). record { number = 0; place = k }) so.count ∙ sym (ap answer e);
  leaves = so.bytes ∙ sym (ap (λ (x : Outcome (List ℕ)). memory x old) e);
}
