-- Runs of salvage: what is kept, what is lost, and the records.
-- Assumes nothing.
use mathlib.Core.Path.{◌≡◌, refl}
use mathlib.Core.List.{List, [], ◌∷◌, ◌++◌}
use Prim.Native.Nat.{ℕ}
use lib.ListN.{length, take, set, replicate}
use Rattle.answer.specs.Numbers.{SHORT, ENDIAN, CUT, MANY, TWICE, SECVER, KEY, ROOM}
use Rattle.answer.specs.Outcome.{Outcome, taken, refused, after}
use Rattle.wire.specs.Numbers.{le_at, le, bytes_of}
use Rattle.format.specs.Format.{read, values}
use Rattle.order.specs.Keyed.{insert, has}
use Rattle.order.specs.Entries.{join, split}
use Rattle.lists.specs.Lists.{entry_at, walk, list_at}
use Rattle.aerosnap.specs.Known.{CPU, DEVICES, RAM, CPUS}
use Rattle.aerosnap.specs.Payloads.{payload}
use Rattle.aerosnap.specs.File.{header, ruled, section_of, sections, file_of}
use Rattle.aerosnap.specs.Content.{framed}
use Rattle.aerosnap.specs.Salvage.{Rescued, part_of, parts_from, salvage}
use Rattle.aerosnap.proofs.Examples.{p1, p4, p5, p6, p9}

-- a section of version 1 with flags 0, and a file of sections
abbrev section : ℕ → List ℕ → List ℕ
section id p = framed id 1 0 p

abbrev of : List (List ℕ) → List ℕ
of l = header ++ join l

-- a loss: where it starts, how many bytes, and why
abbrev lost : ℕ → ℕ → ℕ → List ℕ
lost at n why = bytes_of 8 at ++ (bytes_of 8 n ++ (bytes_of 4 why ++ bytes_of 4 0))

abbrev leaves : List ℕ → List (List ℕ) → Outcome Rescued
leaves b l = taken (record { file = b; losses = l })

-- a list of no devices, one that lacks its count, and one of a device
abbrev empty : List ℕ
empty = section DEVICES (bytes_of 4 0)

abbrev broken : List ℕ
broken = section DEVICES (1 ∷ [])

abbrev sound : List ℕ
sound = section DEVICES (bytes_of 4 1 ++ framed 3 1 0 [])

abbrev other : List ℕ
other = section 9 []

pub record Losses : Type 0 where
  pub P1 : salvage 16 0 p1 ≡ leaves p1 []
  pub P2 : salvage 16 0 (take 15 p1) ≡ refused SHORT 0
  pub P3 : salvage 16 0 (set p1 10 2) ≡ refused ENDIAN 10
  pub P4 : salvage 71 0 p4 ≡ leaves p5 []
  pub P6 : salvage 16 24 p6 ≡ leaves p1 (lost 16 55 KEY ∷ [])
  pub P8 : salvage 16 24 (set p4 24 40) ≡ leaves p1 (lost 16 55 CUT ∷ [])
  -- an empty list is left out, which is no loss
  pub P9 : salvage 16 0 p9 ≡ leaves p1 []
  -- fewer bytes than a header, to the end of the file
  pub stray : salvage 16 24 (p1 ++ replicate 15 0) ≡ leaves p1 (lost 16 15 CUT ∷ [])
  -- a list that is lost does not stand in the way of another, one that is kept does, though it is empty
  pub again : salvage 99 24 (of (broken ∷ sound ∷ [])) ≡ leaves (of (sound ∷ [])) (lost 16 17 11 ∷ [])
  pub twice : salvage 99 24 (of (empty ∷ sound ∷ [])) ≡ leaves p1 (lost 36 36 TWICE ∷ [])
  pub slots : salvage 999 24 (of (section CPUS (bytes_of 4 0) ∷ section CPU (replicate 412 0) ∷ other ∷ [])) ≡ leaves (of (other ∷ [])) (lost 36 428 TWICE ∷ [])
  -- neighbours stay apart; the stop ends it, and covers what stands behind it
  pub apart : salvage 99 72 (of (framed RAM 2 0 [] ∷ broken ∷ other ∷ (bytes_of 8 0 ++ (bytes_of 8 17)) ∷ other ∷ [])) ≡ leaves (of (other ∷ [])) (lost 16 16 SECVER ∷ lost 32 17 11 ∷ lost 65 32 CUT ∷ [])
  -- a whole 65th is dropped, also a 66th; one that does not fit is the stop
  pub many : salvage 9999 48 (of (replicate 66 other)) ≡ leaves (of (replicate 64 other)) (lost 1040 16 MANY ∷ lost 1056 16 MANY ∷ [])
  pub many_cut : salvage 9999 48 (of (replicate 64 other ++ (replicate 15 0 ∷ []))) ≡ leaves (of (replicate 64 other)) (lost 1040 15 CUT ∷ [])
  -- also where the reader would say MANY, the 65th's header being there and its payload not
  pub many_long : salvage 9999 48 (of (replicate 64 other ++ ((bytes_of 8 9 ++ bytes_of 8 1) ∷ []))) ≡ leaves (of (replicate 64 other)) (lost 1040 16 CUT ∷ [])
  pub many_reader : after (file_of (of (replicate 64 other ++ ((bytes_of 8 9 ++ bytes_of 8 1) ∷ [])))) (λ l. taken (length l)) ≡ refused MANY 1040
  -- 64 kept, not 64 seen
  pub many-kept : salvage 9999 24 (of (broken ∷ replicate 64 other)) ≡ leaves (of (replicate 64 other)) (lost 16 17 11 ∷ [])
  -- the room of the file, then that of the records
  pub room : salvage 15 0 (of (broken ∷ [])) ≡ refused ROOM 16
  pub room_records : salvage 16 23 (of (broken ∷ [])) ≡ refused ROOM 24

pub losses : Losses
unfolding le_at le bytes_of insert has read values split entry_at walk list_at payload ruled section_of sections file_of part_of parts_from salvage
losses = record {
  P1 = refl;
  P2 = refl;
  P3 = refl;
  P4 = refl;
  P6 = refl;
  P8 = refl;
  P9 = refl;
  stray = refl;
  again = refl;
  twice = refl;
  slots = refl;
  apart = refl;
  many = refl;
  many_cut = refl;
  many_long = refl;
  many_reader = refl;
  many-kept = refl;
  room = refl;
  room_records = refl;
}
