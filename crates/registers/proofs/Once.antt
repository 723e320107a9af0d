-- Each promise fixes its answer and every byte of lent memory: any two that it allows are equal.
-- Assumes nothing.
use mathlib.Core.Path.{◌≡◌}
use mathlib.Core.List.{List}
use Prim.Native.Nat.{ℕ}
use lib.ListN.{length}
use Rattle.answer.proofs.Once.{equal_once}
use Rattle.registers.specs.declared.Segment.{Segment}
use Rattle.registers.specs.Registers.{words_at, words_over, segment_in, segment_over}

module _ (s : List ℕ) (at : ℕ) where
  pub words_once : (a : List ℕ) {new now : List ℕ} → new ≡ words_at at (length a) s → now ≡ words_at at (length a) s → new ≡ now
  words_once a e f = equal_once e f

  pub put_words_once : (a : List ℕ) {new now : List ℕ} → new ≡ words_over at a s → now ≡ words_over at a s → new ≡ now
  put_words_once a e f = equal_once e f

  pub segment-at_once : {r p : Segment} → r ≡ segment_in s at → p ≡ segment_in s at → r ≡ p
  segment-at_once e f = equal_once e f

  pub put-segment_once : (g : Segment) {new now : List ℕ} → new ≡ segment_over at g s → now ≡ segment_over at g s → new ≡ now
  put-segment_once g e f = equal_once e f
