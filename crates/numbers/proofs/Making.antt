-- The answers of `message_of`, by the message of the low bytes and its row.
-- Assumes nothing.
use mathlib.Core.Path.{◌≡◌, refl, sym, ap, ◌∙◌}
use mathlib.Core.Bool.{Bool, true, false, not}
use mathlib.Core.List.{List, [], ◌∷◌}
use Prim.Native.Nat.{ℕ, ◌<◌}
use native.Mathlib.Omega.{arith}
use borrow.Author.Tests.{not-true, not-false}
use Rattle.answer.specs.Numbers.{TAG, VALUE}
use Rattle.answer.specs.Outcome.{Outcome, taken, refused, checked, after}
use lib.ListN.{length}
use Rattle.answer.specs.declared.Answer.{Answer}
use Rattle.answer.specs.Calls.{Writes}
use Rattle.answer.proofs.Checks.{and_true}
use Rattle.messages.specs.Writing.{write_message}
use Rattle.kinds.specs.declared.Message.{Message}
use Rattle.kinds.specs.declared.Form.{Form}
use Rattle.kinds.specs.Kinds.{Kind, kinds, blank, paper}
use Rattle.numbers.specs.declared.Numbers.{Numbers}
use Rattle.numbers.specs.Numbers.{kind_in, within, all_within, message_of, write_numbers}
use Rattle.numbers.specs.Steps.{narrow_in, same_numbers}
use Rattle.numbers.proofs.Rows.{narrowed, within_low, Row, Looked, none, one, looked, wide_tag}

-- what `message_of` asks once the kind is known
abbrev judged : Numbers → Kind → Outcome Message
judged n k = checked ((all_within (blank k) n, VALUE, 0) ∷ []) (taken (k n.a n.b n.c n.d))

pub made_wide_tag : (n : Numbers) → 65535 < n.tag → refused TAG 0 ≡ message_of n
unfolding message_of
made_wide_tag n h = sym (ap (λ (x : Outcome Kind). after x (judged n)) (wide_tag n.tag h))

-- numbers that are within their fields are their own low bytes
all_low : (k : Kind) (n : Numbers) → all_within (blank k) n ≡ true → narrowed k n ≡ k n.a n.b n.c n.d
all_low k n h =
    let f = blank k in
    let p = and_true (within f.a.0 n.a) _ h in
    let q = and_true (within f.b.0 n.b) _ p.1 in
    let r = and_true (within f.c.0 n.c) _ q.1 in
    rw (within_low f.a.0 n.a p.0, within_low f.b.0 n.b q.0, within_low f.c.0 n.c r.0, within_low f.d.0 n.d r.1)

-- what is answered by the row f of the message m of the low bytes, as the code asks for it
pub record Answers (n : Numbers) (m : Message) (f : Form) : Type 0 where
  pub unknown : not f.known ≡ true → refused TAG 0 ≡ message_of n
  pub lost : not f.known ≡ false → {b : Bool} → b ≡ same_numbers f n → not b ≡ true → refused VALUE 0 ≡ message_of n
  pub kept : not f.known ≡ false → {b : Bool} → b ≡ same_numbers f n → not b ≡ false → taken m ≡ message_of n

by_row : (n : Numbers) (k : Kind) → kind_in kinds n.tag ≡ taken k → Row k n → Answers n (narrowed k n) (paper (narrowed k n))
unfolding message_of
by_row n k x z = record {
  unknown = λ h. let v : not true ≡ true = ap not (sym z.known) ∙ h in let w : ◌≡◌ {A = ℕ} 0 1 = cc in absurd (omega arith);
  lost = λ h e g. let w : all_within (blank k) n ≡ false = sym z.same ∙ sym e ∙ not-true _ g in rw (x, w);
  kept = λ h e g. let w : all_within (blank k) n ≡ true = sym z.same ∙ sym e ∙ not-false _ g in rw (x, w, all_low k n w);
}

by_look : (n : Numbers) → Looked kinds n → (let m = narrow_in kinds n.tag n.a n.b n.c n.d in Answers n m (paper m))
unfolding message_of paper
by_look n (none x y) = rw y (record {
  unknown = λ h. rw x;
  lost = λ h e g. let z : ◌≡◌ {A = ℕ} 0 1 = cc in absurd (omega arith);
  kept = λ h e g. let z : ◌≡◌ {A = ℕ} 0 1 = cc in absurd (omega arith);
})
by_look n (one k x y z) = rw y (by_row n k x z)

pub made : (n : Numbers) {t : ℕ} → t ≡ n.tag → {m : Message} → m ≡ narrow_in kinds t n.a n.b n.c n.d → {f : Form} → f ≡ paper m → Answers n m f
made n p e g = rw (g, e, p) (by_look n (looked n))

-- ---- the answers of `write`

pub write_refused : (n : Numbers) (d old : List ℕ) {x p : ℕ} → refused x p ≡ message_of n → Writes (write_numbers n d (length old)) old (record { number = x; place = p }) old
unfolding write_numbers
write_refused n d old h = rw (← h) (record { answers = refl; leaves = refl })

pub write_made : (n : Numbers) (d old : List ℕ) {m : Message} → taken m ≡ message_of n
    → {p : Answer} {new : List ℕ} → Writes (write_message m d (length old)) old p new → Writes (write_numbers n d (length old)) old p new
unfolding write_numbers
write_made n d old h w = rw (← h) w
