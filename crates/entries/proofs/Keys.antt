-- The fields of keys, out of the number that the first eight bytes of an entry are.
-- Assumes nothing.
use mathlib.Core.Path.{◌≡◌, ◌∙◌, ap}
use mathlib.Core.List.{List}
use Prim.Native.Nat.{ℕ, ◌+◌, ◌*◌, ◌/◌, ◌%◌}
use native.Mathlib.Omega.{arith}
use Rattle.wire.specs.Numbers.{Bytes, le_at}
use Rattle.wire.proofs.Numbers.{le_at-add, le_at_bound}
use Rattle.entries.specs.Kinds.{id_key, device_key, address_key}

module _ (b : List ℕ) (h : Bytes b) {x : ℕ} (e : x ≡ le_at 8 b 0) where
  pub id-key : x % 4294967296 ≡ id_key b
  id-key = omega (arith, le_at-add 4 4 b 0, le_at_bound 4 b 0 h)

  pub address-key : x % 65536 ≡ address_key b
  address-key = omega (arith, le_at-add 2 6 b 0, le_at_bound 2 b 0 h)

  version_key : x / 4294967296 % 65536 ≡ le_at 2 b 4
  version_key = let high : x / 4294967296 ≡ le_at 4 b 4 = omega (arith, le_at-add 4 4 b 0, le_at_bound 4 b 0 h) in omega (arith, le_at-add 2 2 b 4, le_at_bound 2 b 4 h)

  flags_key : x / 281474976710656 ≡ le_at 2 b 6
  flags_key = omega (arith, le_at-add 6 2 b 0, le_at_bound 6 b 0 h)

  pub device-key : {r : ℕ} → r ≡ (x % 4294967296 * 65536 + x / 4294967296 % 65536) * 65536 + x / 281474976710656 → r ≡ device_key b
  device-key k = k ∙ ap (λ (i : ℕ). (i * 65536 + x / 4294967296 % 65536) * 65536 + x / 281474976710656) id-key ∙ ap (λ (v : ℕ). (id_key b * 65536 + v) * 65536 + x / 281474976710656) version_key ∙ ap (λ (f : ℕ). (id_key b * 65536 + le_at 2 b 4) * 65536 + f) flags_key
