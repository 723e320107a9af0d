-- Each promise fixes its answer and every byte of lent memory: any two that it allows are equal.
-- Assumes nothing.
use mathlib.Core.Path.{◌≡◌}
use mathlib.Core.Bool.{Bool}
use mathlib.Core.List.{List}
use Prim.Native.Nat.{ℕ, ◌+◌, ◌-◌}
use lib.Dec.{leb}
use lib.ListN.{drop}
use Rattle.answer.proofs.Once.{equal_once}
use Rattle.wire.specs.Numbers.{le_at}
use Rattle.wire.specs.Parts.{put, Wrote}

pub fits_once : (len at n : ℕ) {r s : Bool} → r ≡ leb (at + n) len → s ≡ leb (at + n) len → r ≡ s
fits_once len at n e f = equal_once e f

pub left_once : (len at : ℕ) {r s : ℕ} → r ≡ len - at → s ≡ len - at → r ≡ s
left_once len at e f = equal_once e f

pub tail_once : (s : List ℕ) (at : ℕ) {r p : List ℕ} → r ≡ drop at s → p ≡ drop at s → r ≡ p
tail_once s at e f = equal_once e f

-- `u8_at` to `u64_at`
pub load_once : (n : ℕ) (s : List ℕ) (at : ℕ) {x y : ℕ} → x ≡ le_at n s at → y ≡ le_at n s at → x ≡ y
load_once n s at e f = equal_once e f

-- `put_u8` to `put_u64`, and `copy`
pub store_once : (at : ℕ) (bs old : List ℕ) {new now : List ℕ} → new ≡ put at bs old → now ≡ put at bs old → new ≡ now
store_once at bs old e f = equal_once e f

-- calls that write over the start of lent memory and answer how much
pub wrote_once : {bs old new now : List ℕ} {n m : ℕ} → Wrote bs old new n → Wrote bs old now m → (n ≡ m) × (new ≡ now)
wrote_once a b = (equal_once a.count b.count, equal_once a.bytes b.bytes)
