-- Rows of listed numbers: row by row, and some after others.
-- Assumes nothing.
use mathlib.Core.Path.{◌≡◌, refl, sym, ◌∙◌, ap}
use mathlib.Core.List.{List, [], ◌∷◌, ◌++◌}
use mathlib.Core.Bool.{Bool, true, false, ◌&&◌, and-false}
use Prim.Native.Nat.{ℕ, ◌≤◌, ◌<◌}
use native.Mathlib.Decide.{dec_lt}
use native.Mathlib.Omega.{arith}
use lib.Dec.{leb}
use borrow.Author.Tests.{le-leb, lt-leb}
use Rattle.answer.specs.Numbers.{VALUE}
use Rattle.answer.specs.Outcome.{Outcome, taken, refused, checked, after}
use Rattle.answer.proofs.Checks.{Left, left_pass, left_fail}
use Rattle.wire.specs.Numbers.{le_at}
use Rattle.format.specs.Format.{values}

pub values-append : (l m : List (ℕ × ℕ × ℕ × ℕ)) (e : List ℕ) → values (l ++ m) e ≡ after (values l e) (λ _. values m e)
unfolding values
values-append [] m e = refl
values-append (r ∷ l) m e = go (leb r.2 (le_at r.1 e r.0) && leb (le_at r.1 e r.0) r.3) (values-append l m e)
  where
    go : (b : Bool) → values (l ++ m) e ≡ after (values l e) (λ _. values m e)
        → checked ((b, VALUE, r.0) ∷ []) (values (l ++ m) e) ≡ after (checked ((b, VALUE, r.0) ∷ []) (values l e)) (λ _. values m e)
    go true h = h
    go false h = refl

pub values-none : (e : List ℕ) → taken tt ≡ values [] e
unfolding values
values-none e = refl

-- ---- row by row

-- the rows that are left when those before them hold: they answer as all of them do
pub record Listed (rows all : List (ℕ × ℕ × ℕ × ℕ)) (e : List ℕ) : Type 0 where
  pub same : values rows e ≡ values all e

pub listed_all : (l : List (ℕ × ℕ × ℕ × ℕ)) (e : List ℕ) → Listed l l e
listed_all l e = record { same = refl }

pub listed-none : {all : List (ℕ × ℕ × ℕ × ℕ)} {e : List ℕ} → Listed [] all e → taken tt ≡ values all e
listed-none {e = e} v = values-none e ∙ v.same

-- the first of them, by the number that was read
module _ {p w lo hi : ℕ} {l all : List (ℕ × ℕ × ℕ × ℕ)} {e : List ℕ} (v : Listed ((p, w, lo, hi) ∷ l) all e) {n : ℕ} (q : n ≡ le_at w e p) where
  by_number : Left ((leb lo n && leb n hi, VALUE, p) ∷ []) (values l e) (values all e)
  unfolding values
  by_number = record { same = ap (λ (k : ℕ). checked ((leb lo k && leb k hi, VALUE, p) ∷ []) (values l e)) q ∙ v.same }

  pub row_low : n < lo → refused VALUE p ≡ values all e
  row_low h = left_fail by_number (ap (λ (b : Bool). b && leb n hi) (lt-leb lo n h))

  pub row_high : hi < n → refused VALUE p ≡ values all e
  row_high h = left_fail by_number (ap (λ (b : Bool). leb lo n && b) (lt-leb n hi h) ∙ and-false (leb lo n))

  pub row_in : lo ≤ n → n ≤ hi → Listed l all e
  row_in h k = record { same = (left_pass by_number (ap (λ (b : Bool). b && leb n hi) (le-leb lo n h) ∙ le-leb n hi k)).same }

  pub row_out : (lo ≤ n → hi < n) → refused VALUE p ≡ values all e
  row_out h = go (dec_lt n lo)
    where
      go : Dec (n < lo) → refused VALUE p ≡ values all e
      go (yes k) = row_low k
      go (no k) = row_high (h (omega (arith, k)))

-- the first of them, by what it answers alone
module _ {r : ℕ × ℕ × ℕ × ℕ} {l all : List (ℕ × ℕ × ℕ × ℕ)} {e : List ℕ} (v : Listed (r ∷ l) all e) where
  by_answer : (o : Outcome (Unit {0})) → o ≡ values (r ∷ []) e → after o (λ _. values l e) ≡ values all e
  by_answer o h = ap (λ (x : Outcome (Unit {0})). after x (λ _. values l e)) h ∙ sym (values-append (r ∷ []) l e) ∙ v.same

  pub row_stop : {a b : ℕ} → refused a b ≡ values (r ∷ []) e → refused a b ≡ values all e
  row_stop h = by_answer _ h

  pub row_past : taken tt ≡ values (r ∷ []) e → Listed l all e
  row_past h = record { same = by_answer _ h }
