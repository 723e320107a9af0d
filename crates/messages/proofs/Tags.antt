-- What the bytes of a message say, by its tag: nothing if the table has it not.
-- Assumes nothing.
use mathlib.Core.Path.{◌≡◌, refl, sym, ◌∙◌, ap}
use mathlib.Core.List.{List, [], ◌∷◌, ◌++◌}
use mathlib.Core.Bool.{Bool, true, false, ◌&&◌, cond}
use Prim.Native.Nat.{ℕ, ◌≤◌, ◌<◌}
use native.Mathlib.Omega.{arith}
use lib.Dec.{leb, ltb, eqb}
use borrow.Author.Tests.{ne_eqb, lt-leb, le-ltb}
use Rattle.answer.proofs.Checks.{and_true}
use Rattle.wire.specs.Numbers.{le_at}
use Rattle.kinds.specs.declared.Message.{Message}
use Rattle.kinds.specs.declared.Message.TheVariants.{Nothing}
use Rattle.kinds.specs.Kinds.{Kind, kinds, paper, blank, form_fields, make}
use Rattle.messages.specs.Fields.{numbers_at, message_in, message_at}
use Rattle.messages.specs.Steps.{commands, replies, notices}

-- a tag that is a number: what is said is what that number is looked up for
pub by_tag : (m : List ℕ) {t n : ℕ} {r : Message} → t ≡ le_at 2 m 0 → t ≡ n → r ≡ message_in kinds n m → r ≡ message_at m
unfolding message_at
by_tag m e k h = h ∙ ap (λ (x : ℕ). message_in kinds x m) (sym k ∙ e)

-- the same among some kinds
pub tag_in : (ks : List Kind) (m : List ℕ) {t n : ℕ} {r : Message} → t ≡ n → r ≡ message_in ks n m → r ≡ message_in ks t m
tag_in ks m k h = h ∙ ap (λ (x : ℕ). message_in ks x m) (sym k)

-- no kind of a list has the tag
abbrev pub Missing : List Kind → ℕ → Type 0
Missing [] t = Unit {0}
Missing (k ∷ ks) t = (t ≡ (blank k).tag → ⊥) × Missing ks t

-- what the last arm of a `match` knows: the same, nested to the left
abbrev pub Left : Type 0 → List Kind → ℕ → Type 0
Left A [] t = A
Left A (k ∷ ks) t = Left (A × (t ≡ (blank k).tag → ⊥)) ks t

right : (A : Type 0) (ks : List Kind) (t : ℕ) → Left A ks t → A × Missing ks t
right A [] t h = (h, tt)
right A (k ∷ ks) t h = let p = right (A × (t ≡ (blank k).tag → ⊥)) ks t h in (p.0.0, (p.0.1, p.1))

pub missing : (t : ℕ) → Left (Unit {0}) kinds t → Missing kinds t
missing t h = (right (Unit {0}) kinds t h).1

misses : (ks : List Kind) (t : ℕ) (m : List ℕ) → Missing ks t → message_in ks t m ≡ Nothing
misses [] t m h = refl
misses (k ∷ ks) t m h = rw (ne_eqb t (blank k).tag h.0) (misses ks t m h.1)

pub unknown : (t : ℕ) (m : List ℕ) → t ≡ le_at 2 m 0 → Missing kinds t → message_at m ≡ Nothing
unfolding message_at
unknown t m e h = rw (← e) (misses kinds t m h)

pub not_in : (ks : List Kind) (t : ℕ) (m : List ℕ) → Left (Unit {0}) ks t → Nothing ≡ message_in ks t m
not_in ks t m h = sym (misses ks t m (right (Unit {0}) ks t h).1)

-- ---- kinds in two parts, of which one has not the tag

not_first : (ks ls : List Kind) (t : ℕ) (m : List ℕ) → Missing ks t → message_in (ks ++ ls) t m ≡ message_in ls t m
not_first [] ls t m h = refl
not_first (k ∷ ks) ls t m h = rw (ne_eqb t (blank k).tag h.0) (not_first ks ls t m h.1)

not_last : (ks ls : List Kind) (t : ℕ) (m : List ℕ) → Missing ls t → message_in (ks ++ ls) t m ≡ message_in ks t m
not_last [] ls t m h = misses ls t m h
not_last (k ∷ ks) ls t m h = ap (cond (eqb t (blank k).tag) (make k (numbers_at (le_at 1 m 6) (form_fields (blank k)) 2 m))) (not_last ks ls t m h)

-- tags that pass a test
abbrev tested : (ℕ → Bool) → List Kind → Bool
tested p [] = true
tested p (k ∷ ks) = p (blank k).tag && tested p ks

other : (p : ℕ → Bool) (ks : List Kind) (t : ℕ) → tested p ks ≡ true → p t ≡ false → Missing ks t
other p [] t h f = tt
other p (k ∷ ks) t h f =
    let q = and_true (p (blank k).tag) (tested p ks) h in
    ((λ e. let g : p t ≡ true = ap p e ∙ q.0 in let z : ◌≡◌ {A = ℕ} 0 1 = cc in omega arith), other p ks t q.1 f)

past_commands : (m : List ℕ) (t : ℕ) → 0x1000 ≤ t → message_in kinds t m ≡ message_in (replies ++ notices) t m
unfolding paper
past_commands m t h = not_first commands (replies ++ notices) t m (other (λ x. ltb x 0x1000) commands t refl (le-ltb t 0x1000 h))

module _ (m : List ℕ) {t : ℕ} {r : Message} (e : t ≡ le_at 2 m 0) where
  -- looked up among some kinds, which is as among all of them
  among : (ks : List Kind) → r ≡ message_in ks t m → message_in kinds t m ≡ message_in ks t m → r ≡ message_at m
  unfolding message_at
  among ks s h = s ∙ sym h ∙ ap (λ (x : ℕ). message_in kinds x m) e

  pub command_said : t < 0x1000 → r ≡ message_in commands t m → r ≡ message_at m
  unfolding paper
  command_said h s = among commands s (not_last commands (replies ++ notices) t m (other (leb 0x1000) (replies ++ notices) t refl (lt-leb 0x1000 t h)))

  pub reply_said : 0x1000 ≤ t → t < 0x1200 → r ≡ message_in replies t m → r ≡ message_at m
  unfolding paper
  reply_said g h s = among replies s (past_commands m t g ∙ not_last replies notices t m (other (leb 0x1200) notices t refl (lt-leb 0x1200 t h)))

  pub notice_said : 0x1200 ≤ t → r ≡ message_in notices t m → r ≡ message_at m
  unfolding paper
  notice_said h s = among notices s (past_commands m t (omega arith) ∙ not_first replies notices t m (other (λ x. ltb x 0x1200) replies t refl (le-ltb t 0x1200 h)))
