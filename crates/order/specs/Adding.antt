-- Adding items one at a time to a state, each with a room of its own.
-- `Step r s x u` says that with room `r` adding `x` to `s` is accepted and gives `u`.
-- Assumes nothing.
use Rattle.std.specs.Prelude.{◌≡◌, List, [], ◌∷◌, map, ℕ, ◌≤◌}
use Rattle.order.specs.Keyed.{Every}
pub use Rattle.order.specs.Keyed.{puts}

module _ {S X : Type 0} (Step : ℕ → S → X → S → Type 0) where
  -- adding the items of a list in turn, the room of each beside it, is accepted throughout and leads from `s` to `t`
  abbrev pub Chain : S → List (ℕ × X) → S → Type 0
  Chain s [] t = s ≡ t
  Chain s (p ∷ l) t = (u : S) × Step p.0 s p.1 u × Chain u l t

-- the items without their rooms
abbrev pub items : {X : Type 0} → List (ℕ × X) → List X
items = map (λ p. p.1)

-- every room is at least `n`
abbrev pub Roomy : {X : Type 0} → ℕ → List (ℕ × X) → Type 0
Roomy n = Every (λ p. n ≤ p.0)
