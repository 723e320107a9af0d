-- Wrappers by computation: bus 1 stored before bus 0, and the faults of the header.
-- Assumes nothing.
use mathlib.Core.Path.{◌≡◌, refl}
use mathlib.Core.List.{List, [], ◌∷◌, ◌++◌}
use Prim.Native.Nat.{ℕ}
use lib.ListN.{take, set}
use Rattle.answer.specs.Numbers.{SHORT, MAGIC, VERSION, RESERVED, SHAPE, KEY, ROOM}
use Rattle.answer.specs.Outcome.{taken, refused}
use Rattle.wire.specs.Numbers.{le, le_at, bytes_of}
use Rattle.format.specs.Format.{read}
use Rattle.order.specs.Keyed.{insert, has}
use Rattle.order.specs.Entries.{split}
use Rattle.lists.specs.Lists.{entry_at, walk, list_at}
use Rattle.dskc.specs.Wrapper.{wrapper_header, wrapper_of, controllers_call, wrapper_canonical_call}

-- bus 1, device 0, function 0: stored `00 01`, with one byte
abbrev far : List ℕ
far = 0 ∷ 1 ∷ 0 ∷ 0 ∷ 73 ∷ 68 ∷ 69 ∷ 48 ∷ 1 ∷ 0 ∷ 0 ∷ 0 ∷ 17 ∷ []

-- bus 0, device 31, function 2: stored `FA 00`, with two bytes
abbrev near : List ℕ
near = 250 ∷ 0 ∷ 0 ∷ 0 ∷ 65 ∷ 72 ∷ 67 ∷ 73 ∷ 2 ∷ 0 ∷ 0 ∷ 0 ∷ 171 ∷ 205 ∷ []

abbrev two : List ℕ
two = wrapper_header ++ (2 ∷ 0 ∷ 0 ∷ 0 ∷ (far ++ near))

abbrev sorted : List ℕ
sorted = wrapper_header ++ (2 ∷ 0 ∷ 0 ∷ 0 ∷ (near ++ far))

-- 250 comes before 256, whatever the tags say; a count of 0 is kept
pub record Examples : Type 0 where
  pub taken_so : wrapper_of two ≡ taken (17 ∷ 4 ∷ [])
  pub canonical : wrapper_canonical_call 47 two ≡ taken sorted
  pub again : wrapper_canonical_call 47 sorted ≡ taken sorted
  pub no_room : wrapper_canonical_call 46 two ≡ refused ROOM 47
  pub table : controllers_call 64 two ≡ taken (
      (250 ∷ 0 ∷ 0 ∷ 0 ∷ 65 ∷ 72 ∷ 67 ∷ 73 ∷ 45 ∷ 0 ∷ 0 ∷ 0 ∷ 0 ∷ 0 ∷ 0 ∷ 0 ∷ 2 ∷ 0 ∷ 0 ∷ 0 ∷ 0 ∷ 0 ∷ 0 ∷ 0 ∷ 1 ∷ 0 ∷ 0 ∷ 0 ∷ 0 ∷ 0 ∷ 0 ∷ 0 ∷ [])
      ++ (0 ∷ 1 ∷ 0 ∷ 0 ∷ 73 ∷ 68 ∷ 69 ∷ 48 ∷ 32 ∷ 0 ∷ 0 ∷ 0 ∷ 0 ∷ 0 ∷ 0 ∷ 0 ∷ 1 ∷ 0 ∷ 0 ∷ 0 ∷ 0 ∷ 0 ∷ 0 ∷ 0 ∷ 0 ∷ 0 ∷ 0 ∷ 0 ∷ 0 ∷ 0 ∷ 0 ∷ 0 ∷ [])
      )
  pub none : wrapper_canonical_call 20 (wrapper_header ++ (0 ∷ 0 ∷ 0 ∷ 0 ∷ [])) ≡ taken (wrapper_header ++ (0 ∷ 0 ∷ 0 ∷ 0 ∷ []))
  pub short : wrapper_of (take 15 two) ≡ refused SHORT 0
  pub no_count : wrapper_of (take 19 two) ≡ refused SHAPE 16
  pub letters : wrapper_of (set two 9 0) ≡ refused MAGIC 8
  pub pairs : wrapper_of (set two 14 1) ≡ refused VERSION 12
  pub reserved : wrapper_of (set two 22 1) ≡ refused RESERVED 22
  pub key_again : wrapper_of (wrapper_header ++ (2 ∷ 0 ∷ 0 ∷ 0 ∷ (far ++ far))) ≡ refused KEY 33
  pub left_over : wrapper_of (two ++ (0 ∷ [])) ≡ refused SHAPE 47

pub examples : Examples
unfolding wrapper_of list_at walk entry_at insert has read split le_at le bytes_of
examples = record {
  taken_so = refl;
  canonical = refl;
  again = refl;
  no_room = refl;
  table = refl;
  none = refl;
  short = refl;
  no_count = refl;
  letters = refl;
  pairs = refl;
  reserved = refl;
  key_again = refl;
  left_over = refl;
}
