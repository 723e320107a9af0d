-- Entries written one after another from where they start, whatever stands there.
-- Assumes nothing.
use Rattle.std.specs.Prelude.{Bool, true, cond, ◌&&◌, List, [], ◌∷◌, ◌++◌, map, ℕ, ◌+◌, ◌-◌, leb, length, take, drop}
use Rattle.format.specs.Format.{span}
use Rattle.order.specs.Entries.{join}
use Rattle.entries.specs.Kinds.{Description}

-- the bytes of the entry that starts at a place, by its lengths alone
abbrev pub entry_by : Description → List ℕ → ℕ → List ℕ
entry_by d s y = take (span d.form (drop y s)) (drop y s)

-- those of the parts that fit one after another into so many bytes, up to the first that does not
abbrev pub fits : ℕ → List (List ℕ) → List (List ℕ)
fits have [] = []
fits have (e ∷ l) = cond (leb (length e) have) (e ∷ fits (have - length e) l) []

-- each start is at least the one before it, and the first at least n
abbrev pub in_order_from : ℕ → List ℕ → Bool
in_order_from n [] = true
in_order_from n (y ∷ l) = leb n y && in_order_from y l

-- each start is at least the one before it
abbrev pub in_key_order : List ℕ → Bool
in_key_order l = in_order_from 0 l

-- a list's count, bytes for its entries, and what is left of it behind them
abbrev pub around : List ℕ → List ℕ → List ℕ
around s e = take 4 s ++ (e ++ drop (4 + length e) s)

-- a list with the entries that start at places, as long as they fit
abbrev pub by_starts : Description → List ℕ → List ℕ → List ℕ
by_starts d s l = around s (join (fits (length s - 4) (map (entry_by d s) l)))
