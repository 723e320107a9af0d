-- The laws of outcomes: what follows from one that is taken or refused, and places moved twice.
-- Assumes nothing.
use mathlib.Core.Path.{◌≡◌, refl, sym, ◌∙◌, ap}
use mathlib.Core.List.{List, ◌++◌}
use lib.ListN.{length, drop}
use Prim.Native.Nat.{ℕ, ◌+◌, ◌≤◌}
use native.Mathlib.Omega.{arith}
use Rattle.std.proofs.Common.{Result, Ok, Err, IsErrAnd}
use Rattle.answer.specs.declared.Fault.{Fault}
use Rattle.answer.specs.Calls.{fault_of, outcome_of, asked, verdict, count_answer, Writes, WritesCount}
use Rattle.answer.specs.Outcome.{Outcome, taken, refused, after, moved, shift, done, room, fitting}
use Rattle.answer.proofs.Checks.{asked-pass, asked_stop}
use borrow.Author.Tests.{leb-true}

pub taken_is : {A : Type 0} {a b : A} → taken a ≡ taken b → a ≡ b
taken_is h = cc

-- what is taken is no refusal
pub taken_refused : {A : Type 0} {a : A} {n p : ℕ} → taken a ≡ refused n p → ⊥
taken_refused h = let z : ◌≡◌ {A = ℕ} 0 1 = cc in omega arith

pub after_taken : {A B : Type 0} (r : Outcome A) (f : A → Outcome B) {b : B} → after r f ≡ taken b → (a : A) × (r ≡ taken a) × (f a ≡ taken b)
after_taken (taken a) f h = (a, refl, h)
after_taken (refused n p) f h = let z : ◌≡◌ {A = ℕ} 0 1 = cc in absurd (omega arith)

pub after-after : {A B C : Type 0} (r : Outcome A) (f : A → Outcome B) (g : B → Outcome C) → after (after r f) g ≡ after r (λ a. after (f a) g)
after-after (taken a) f g = refl
after-after (refused n p) f g = refl

pub moved_taken : {A : Type 0} (k : ℕ) (r : Outcome A) {a : A} → moved k r ≡ taken a → r ≡ taken a
moved_taken k (taken a) h = h
moved_taken k (refused n p) h = let z : ◌≡◌ {A = ℕ} 0 1 = cc in absurd (omega arith)

pub moved-moved : {A : Type 0} (j k : ℕ) (r : Outcome A) → moved j (moved k r) ≡ moved (j + k) r
moved-moved j k (taken a) = refl
moved-moved j k (refused n p) = ap (refused n) (omega arith)

pub shift_taken : (k : ℕ) (r : Outcome ℕ) {m : ℕ} → shift k r ≡ taken m → (j : ℕ) × (r ≡ taken j) × (m ≡ k + j)
shift_taken k (taken j) h = (j, refl, cc)
shift_taken k (refused n p) h = let z : ◌≡◌ {A = ℕ} 0 1 = cc in absurd (omega arith)

pub shift_zero : (r : Outcome ℕ) → shift 0 r ≡ r
shift_zero (taken k) = ap taken (omega arith)
shift_zero (refused n p) = ap (refused n) (omega arith)

pub shift-shift : (j k : ℕ) (r : Outcome ℕ) → shift j (shift k r) ≡ shift (j + k) r
shift-shift j k (taken e) = ap taken (omega arith)
shift-shift j k (refused n p) = ap (refused n) (omega arith)

pub after-shift : {A : Type 0} (k : ℕ) (r : Outcome ℕ) (f : ℕ → Outcome A) → after (shift k r) f ≡ after (moved k r) (λ e. f (k + e))
after-shift k (taken e) f = refl
after-shift k (refused n p) f = refl

pub done_taken : {A : Type 0} (r : Outcome A) → done r ≡ taken tt → (a : A) × (r ≡ taken a)
done_taken (taken a) h = (a, refl)
done_taken (refused n p) h = let z : ◌≡◌ {A = ℕ} 0 1 = cc in absurd (omega arith)

-- ---- refused or taken, from what was made of it

pub made_stop : {A B : Type 0} (o : Outcome A) (f : A → B) {n p : ℕ} → refused n p ≡ after o (λ a. taken (f a)) → o ≡ refused n p
made_stop (taken a) f h = absurd (taken_refused (sym h))
made_stop (refused m q) f h = cc

pub made_taken : {A B : Type 0} (o : Outcome A) (f : A → B) {b : B} → taken b ≡ after o (λ a. taken (f a)) → (a : A) × (o ≡ taken a) × (b ≡ f a)
made_taken o f h = let w = after_taken o (λ a. taken (f a)) (sym h) in (w.0, w.1, sym (taken_is w.2))

pub made_same : {A B C : Type 0} (o : Outcome A) (f : A → B) (g : A → C) {n p : ℕ} → refused n p ≡ after o (λ a. taken (f a)) → refused n p ≡ after o (λ a. taken (g a))
made_same {A = A} o f g h = sym (ap (λ (r : Outcome A). after r (λ a. taken (g a))) (made_stop o f h))

pub done_stop : {A : Type 0} (o : Outcome A) {n p : ℕ} → refused n p ≡ done o → o ≡ refused n p
done_stop o h = made_stop o (λ _. tt) h

-- a call that writes nothing
pub verdict-done : {A : Type 0} (o : Outcome A) (t : Result (Unit {0}) Fault) → outcome_of t ≡ done o → verdict (outcome_of t) ≡ verdict o
verdict-done (taken a) t h = ap verdict h
verdict-done (refused n p) t h = ap verdict h

-- ---- a fault that `?` hands on

-- the call answers the error of the one within it
pub handed_on : {A E : Type 0} (r : Result A E) (e : E) → IsErrAnd r (λ g. g ≡ e) → r ≡ Err e
handed_on (Ok a) e h = absurd h
handed_on (Err g) e h = ap Err h

-- and so its outcome
pub passes : {A : Type 0} (r : Result A Fault) (f : Fault) {o : Outcome A} → IsErrAnd r (λ g. g ≡ f) → fault_of f ≡ o → outcome_of r ≡ o
passes r f h e = ap outcome_of (handed_on r f h) ∙ e

-- ---- a call that writes

-- its answer by the number of bytes
pub fills-writes : (o : Outcome (List ℕ)) {old new : List ℕ} (r : Result ℕ Fault) → WritesCount o old r new → Writes o old (count_answer (outcome_of r)) new
fills-writes (taken b) r w = record { answers = ap count_answer w.answers; leaves = w.leaves }
fills-writes (refused n p) r w = record { answers = ap count_answer w.answers; leaves = w.leaves }

-- nothing is written where it is refused
pub fills_stop : {o : Outcome (List ℕ)} (old : List ℕ) (f : Fault) → o ≡ fault_of f → WritesCount o old (Err f) old
fills_stop old f e = rw e (record { answers = refl; leaves = refl })

pub fills_done : {o : Outcome (List ℕ)} {old new : List ℕ} {n : ℕ} (b : List ℕ) → o ≡ taken b → n ≡ length b → new ≡ b ++ drop (length b) old → WritesCount o old (Ok n) new
fills_done b e n w = rw e (record { answers = ap taken n; leaves = w })

-- the room that a call asks for before it writes
pub room_holds : (have need : ℕ) → taken tt ≡ asked (room have need) → need ≤ have
room_holds have need h = leb-true need have (asked-pass (room have need) h).0

pub room_stop : (have : ℕ) (b : List ℕ) {n p : ℕ} → refused n p ≡ asked (room have (length b)) → fitting have b ≡ refused n p
room_stop have b h = asked_stop (room have (length b)) (taken b) h
