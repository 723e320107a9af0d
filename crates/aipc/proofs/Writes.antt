-- The checks of writing as the code goes through them, and the answers of `write`.
-- Assumes nothing.
use mathlib.Core.Path.{◌≡◌, refl, sym, ap, ◌∙◌}
use mathlib.Core.Bool.{Bool, true, false, ◌&&◌}
use mathlib.Core.List.{List, [], ◌∷◌, ◌++◌}
use Prim.Native.Nat.{ℕ, ◌≤◌}
use borrow.Author.Tests.{leb-true}
use lib.Dec.{leb}
use lib.ListN.{length}
use Rattle.answer.specs.Numbers.{VALUE, LIMIT}
use Rattle.std.specs.List.{list_all}
use Rattle.answer.specs.declared.Answer.{Answer}
use Rattle.answer.specs.Outcome.{Outcome, taken, refused, Checks, checked, room}
use Rattle.answer.specs.Calls.{asked, Writes}
use Rattle.answer.proofs.Checks.{checked-append, append-pass, asked-pass, pass-checked, stops}
use Rattle.kinds.specs.declared.Message.{Message}
use Rattle.kinds.specs.declared.Cell.{Cell}
use Rattle.kinds.specs.declared.Form.{Form}
use Rattle.kinds.specs.Kinds.{paper, cells, ok_of}
use Rattle.messages.specs.Fields.{allowed}
use Rattle.messages.specs.Reading.{message_most}
use Rattle.messages.specs.Writing.{form_bytes, value_checks, data_checks, write_checks, written, write_message}
use Rattle.aipc.specs.Steps.{all_allowed, write_faults, limits, writing, put_form}
use Rattle.aipc.proofs.Puts.{put-form}

-- checks with one answer are one
values : {A : Type 0} (ok : ℕ) (cs : List Cell) (x : Outcome A) → checked (value_checks ok cs) x ≡ checked ((list_all (λ c. allowed ok c.0 c.1) cs, VALUE, 0) ∷ []) x
unfolding value_checks
values ok [] x = refl
values ok (c ∷ cs) x = go (allowed ok c.0 c.1) (values ok cs x)
  where
    go : (b : Bool) → checked (value_checks ok cs) x ≡ checked ((list_all (λ d. allowed ok d.0 d.1) cs, VALUE, 0) ∷ []) x
        → checked ((b, VALUE, 0) ∷ value_checks ok cs) x ≡ checked ((b && list_all (λ d. allowed ok d.0 d.1) cs, VALUE, 0) ∷ []) x
    go true h = h
    go false h = refl

pub values_checks : {A : Type 0} (f : Form) (x : Outcome A) → checked (value_checks (ok_of f) (cells f)) x ≡ checked ((all_allowed f, VALUE, 0) ∷ []) x
values_checks f x = values (ok_of f) (cells f) x

-- first by the numbers and the data, then by the length
pub writing_checks : {A : Type 0} (f : Form) (d : List ℕ) (have : ℕ) (x : Outcome A)
    → checked (writing f d have) x ≡ checked (write_faults f d) (checked (limits (length (form_bytes f d)) have) x)
unfolding write_checks
writing_checks f d have x =
    let l : Checks = (leb (length (form_bytes f d)) message_most, LIMIT, 0) ∷ [] in
    let v = value_checks (ok_of f) (cells f) in
    let r = room have (length (form_bytes f d)) in
    checked-append ((f.known, VALUE, 0) ∷ (v ++ (data_checks f.body d ++ l))) r x
    ∙ ap (λ (y : Outcome _). checked ((f.known, VALUE, 0) ∷ []) y) (checked-append v (data_checks f.body d ++ l) (checked r x) ∙ values_checks f _ ∙ ap (λ (y : Outcome _). checked ((all_allowed f, VALUE, 0) ∷ []) y) (checked-append (data_checks f.body d) l (checked r x)))

module _ (k : Message) (d old : List ℕ) (f : Form) (ef : f ≡ paper k) where
  pub write_refused : {n p : ℕ} → refused n p ≡ asked (writing f d (length old)) → {r : Answer} → r ≡ record { number = n; place = p } → Writes (write_message k d (length old)) old r old
  unfolding write_message written
  write_refused {n} {p} h e =
      let s : checked (writing f d (length old)) (taken (form_bytes f d)) ≡ refused n p = stops (writing f d (length old)) tt (taken (form_bytes f d)) (sym h) in
      rw (← ef, s) (record { answers = e; leaves = refl })

  pub write_taken : {n : ℕ} {new : List ℕ} → taken tt ≡ asked (writing f d (length old)) → n ≡ length (form_bytes f d) → new ≡ put_form f d old
      → Writes (write_message k d (length old)) old (record { number = 0; place = n }) new
  unfolding write_message written
  write_taken h en eo =
      let l = asked-pass (writing f d (length old)) h in
      let s : checked (writing f d (length old)) (taken (form_bytes f d)) ≡ taken (form_bytes f d) = pass-checked (writing f d (length old)) (taken (form_bytes f d)) l in
      let p = append-pass (write_checks f d) (room (length old) (length (form_bytes f d))) l in
      let fit : length (form_bytes f d) ≤ length old = leb-true (length (form_bytes f d)) (length old) p.1.0 in
      rw (← ef, s) (record { answers = rw en; leaves = eo ∙ put-form f d old fit })
