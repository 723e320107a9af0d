-- Worked examples. Each holds by computing the scan: `search` finds `refl`. Assumes nothing.
use mathlib.Core.Path.{◌≡◌}
use mathlib.Core.List.{[], ◌∷◌}
use Rattle.std.proofs.Common.{Ok, Err}
use Rattle.utf8.specs.Scan.{lead_of, after_of, scan_from, scan}

pub record Examples : Type 0 where
  -- nothing; "Hi!"; é, U+00E9; €, U+20AC; 😀, U+1F600; and all of them
  pub empty : scan [] ≡ Ok tt
  pub ascii : scan (0x48 ∷ 0x69 ∷ 0x21 ∷ []) ≡ Ok tt
  pub two : scan (0xC3 ∷ 0xA9 ∷ []) ≡ Ok tt
  pub three : scan (0xE2 ∷ 0x82 ∷ 0xAC ∷ []) ≡ Ok tt
  pub four : scan (0xF0 ∷ 0x9F ∷ 0x98 ∷ 0x80 ∷ []) ≡ Ok tt
  pub all : scan (0x48 ∷ 0xC3 ∷ 0xA9 ∷ 0xE2 ∷ 0x82 ∷ 0xAC ∷ 0xF0 ∷ 0x9F ∷ 0x98 ∷ 0x80 ∷ 0x21 ∷ []) ≡ Ok tt
  -- U+0000 in two bytes; U+007F in three; U+FFFF in four
  pub long_two : scan (0xC0 ∷ 0x80 ∷ []) ≡ Err 0
  pub long_three : scan (0xE0 ∷ 0x81 ∷ 0xBF ∷ []) ≡ Err 1
  pub long_four : scan (0xF0 ∷ 0x8F ∷ 0xBF ∷ 0xBF ∷ []) ≡ Err 1
  -- the surrogate U+D800; U+110000, past the last character
  pub surrogate : scan (0xED ∷ 0xA0 ∷ 0x80 ∷ []) ≡ Err 1
  pub too_high : scan (0xF4 ∷ 0x90 ∷ 0x80 ∷ 0x80 ∷ []) ≡ Err 1
  -- €, cut short by the end, and by another character
  pub cut : scan (0xE2 ∷ 0x82 ∷ []) ≡ Err 2
  pub cut_by : scan (0xE2 ∷ 0x82 ∷ 0x21 ∷ []) ≡ Err 2
  -- the other places at which a character breaks
  pub letter : scan (0xE2 ∷ 0x82 ∷ 0x41 ∷ []) ≡ Err 2
  pub low_three : scan (0xE0 ∷ 0x80 ∷ []) ≡ Err 1
  pub no_first : scan (0xC0 ∷ []) ≡ Err 0
  pub half : scan (0xED ∷ 0xA0 ∷ []) ≡ Err 1
  pub high_four : scan (0xF4 ∷ 0x90 ∷ []) ≡ Err 1
  pub past : scan (0xF5 ∷ []) ≡ Err 0
  -- a byte that only continues a character, first and after one; a byte that no character has
  pub stray : scan (0x80 ∷ []) ≡ Err 0
  pub stray_after : scan (0xC3 ∷ 0xA9 ∷ 0xA9 ∷ []) ≡ Err 2
  pub none : scan (0x48 ∷ 0xFF ∷ []) ≡ Err 1

pub examples : Examples
unfolding scan scan_from after_of lead_of
examples = search
