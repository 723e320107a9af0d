-- An edit is taken exactly if the file is and none of the edit's checks fails; its bytes are then those of the content after it.
-- Assumes nothing.
use mathlib.Core.Path.{◌≡◌, ◌∙◌, ap}
use mathlib.Core.Logic.{◌↔◌}
use mathlib.Core.List.{List}
use Prim.Native.Nat.{ℕ, ◌≤◌}
use lib.ListN.{length}
use Rattle.answer.specs.Outcome.{Outcome, taken, Pass, after, fitting}
use Rattle.answer.proofs.Checks.{checked-pass, pass-checked}
use Rattle.answer.proofs.Outcomes.{after_taken}
use Rattle.aerosnap.specs.Content.{Content, render, content_at}
use Rattle.aerosnap.specs.Edits.{Edit, apply, edit_checks, edit_to, edit_file}
use Rattle.aerosnap.proofs.Canonical.{fits_taken, taken_fits}

-- none of its checks fails
pub record EditPassed (have : ℕ) (e : Edit) (c : Content) : Type 0 where
  pub rows : Pass (edit_checks e c (apply e c))
  pub room_is : length (render (apply e c)) ≤ have

pub edit_exactly_to : (have : ℕ) (c : Content) (e : Edit) (b : List ℕ) → (edit_to have c e ≡ taken b) ↔ (EditPassed have e c × (render (apply e c) ≡ b))
unfolding edit_to
edit_exactly_to have c e b = (
  λ h.
      let p = checked-pass (edit_checks e c (apply e c)) (fitting have (render (apply e c))) b h in
      let r = fits_taken have (render (apply e c)) p.1 in
      (record { rows = p.0; room_is = r.0 }, r.1),
  λ (p, q). pass-checked (edit_checks e c (apply e c)) (fitting have (render (apply e c))) p.rows ∙ taken_fits have (render (apply e c)) p.room_is ∙ ap taken q,
)

pub edit_exactly : (have : ℕ) (s : List ℕ) (e : Edit) (b : List ℕ) → (edit_file have s e ≡ taken b) ↔ ((c : Content) × (content_at s ≡ taken c) × EditPassed have e c × (render (apply e c) ≡ b))
unfolding edit_file
edit_exactly have s e b = (
  λ h. let p = after_taken (content_at s) (λ c. edit_to have c e) h in let q = (edit_exactly_to have p.0 e b).0 p.2 in (p.0, p.1, q.0, q.1),
  λ (c, r, p, q). ap (λ (o : Outcome Content). after o (λ c. edit_to have c e)) r ∙ (edit_exactly_to have c e b).1 (p, q),
)
