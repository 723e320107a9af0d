-- For contracts of private functions: what they promise each other. Assumes nothing.
use Rattle.std.specs.Prelude.{Result, Ok, Err, ℕ, ◌≤◌, ◌≡◌, List, [], length, drop, get_or}
use Rattle.utf8.specs.Grammar.{Range}
use Rattle.utf8.specs.Scan.{scan_from}

-- No byte of s is above top.
abbrev pub AtMost : List ℕ → ℕ → Type 0
AtMost s top = (k : ℕ) → get_or s k 0 ≤ top

-- The scan of s from place i on, where bytes of these ranges are to come.
abbrev pub scan_at : List ℕ → ℕ → List Range → Result (Unit {0}) ℕ
scan_at s i rs = scan_from rs i (drop i s)

-- It changes nothing if that scan goes on at place j, where a character begins.
pub record Passes (s : List ℕ) (i : ℕ) (rs : List Range) (j : ℕ) : Type 0 where
  pub after : i ≤ j
  pub within : j ≤ length s
  pub same : scan_at s i rs ≡ scan_at s j []

-- The bytes that are to come at place i are all there and end at a place not before `least`, or the text breaks among them.
pub data Reaches (s : List ℕ) (i : ℕ) (rs : List Range) (least : ℕ) : Result ℕ ℕ → Type 0 where
  ends : {j : ℕ} → Passes s i rs j → least ≤ j → Reaches s i rs least (Ok j)
  breaks : {k : ℕ} → scan_at s i rs ≡ Err k → Reaches s i rs least (Err k)
