-- Request 11, salvage: each section that the reader would accept after those kept before is kept, each other one that fits in the file is dropped, and the first that doesn't fit is the stop.
-- The kept content is written canonically, and one record for each loss. A part of a file is a section that is kept, or bytes that are lost with their number (crates/aerosnap/specs/Salvage.antt).
-- Assumes nothing.
use Rattle.std.specs.Prelude.{◌≡◌, ◌≢◌, ◌↔◌, ◌⊎◌, true, false, List, [], ◌∷◌, ◌++◌, map, ℕ, ◌+◌, ◌≤◌, ◌<◌, length, take, drop}
use Rattle.answer.specs.Numbers.{CUT, ROOM}
use Rattle.answer.specs.Outcome.{taken, refused, Pass, after, FirstOr}
use Rattle.order.specs.Entries.{join}
use Rattle.aerosnap.specs.File.{header, header_checks, fits_in}
use Rattle.aerosnap.specs.Content.{content_of, content_at, IsCanonical}
use Rattle.aerosnap.specs.Salvage.{Part, keeps, loses, bytes_in, parts_of, all_kept, loss_bytes, loss_rows, Rescued, rescued_of, salvage}
use Rattle.aerosnap.specs.Calls.{check_call, canonical_call}
use Rattle.salvage.specs.declared.Salvaged.{Salvaged}
use Rattle.salvage.specs.Salvaging.{Salvages}
use Rattle.demands.specs.Demand1.{InTable}

-- how many bytes of the file stand before the part behind these
abbrev pub place_behind : List Part → ℕ
place_behind l = 16 + length (join (map bytes_in l))

-- the file of the sections kept before, and of the part behind them
abbrev pub file_with : List Part → List ℕ → List ℕ
file_with done e = header ++ join (all_kept done ++ (e ∷ []))

pub record Salvaging : Type 0 where
  -- what is kept and what is lost are the file behind its header, in order, every byte once
  pub all : (s : List ℕ) → Pass (header_checks s) → s ≡ header ++ join (map bytes_in (parts_of s))
  -- what is kept is taken by `check` after those kept before
  pub kept : (s : List ℕ) (done more : List Part) (e : List ℕ) → Pass (header_checks s) → parts_of s ≡ done ++ (keeps e ∷ more) → check_call (file_with done e) ≡ taken (all_kept done ++ (e ∷ []))
  -- what is lost though it is there whole is refused there with its number, and that is not 7
  pub lost : (s : List ℕ) (done more : List Part) (n : ℕ) (e : List ℕ) → Pass (header_checks s) → parts_of s ≡ done ++ (loses n e ∷ more) → fits_in e ≡ true
      → (n ≢ CUT) × ((p : ℕ) × (check_call (file_with done e) ≡ refused n p))
  -- what is not there whole is the stop: number 7, and it covers all bytes to the end
  pub stop : (s : List ℕ) (done more : List Part) (n : ℕ) (e : List ℕ) → Pass (header_checks s) → parts_of s ≡ done ++ (loses n e ∷ more) → fits_in e ≡ false → (n ≡ CUT) × (more ≡ []) × (drop (place_behind done) s ≡ e)
  -- the record of a loss: where its bytes start in the file, how many they are, and its number
  pub records : (s : List ℕ) (done more : List Part) (n : ℕ) (e : List ℕ) → Pass (header_checks s) → parts_of s ≡ done ++ (loses n e ∷ more)
      → (loss_rows 16 (parts_of s) ≡ loss_rows 16 done ++ (loss_bytes (place_behind done) (length e) n ∷ loss_rows (place_behind done + length e) more)) × (take (length e) (drop (place_behind done) s) ≡ e)
  -- an accepted file yields its canonical form and no record, whatever room there is for records
  pub accepted : (have space : ℕ) (s : List ℕ) (l : List (List ℕ)) → check_call s ≡ taken l → salvage have space s ≡ after (canonical_call have s) (λ b. taken (record { file = b; losses = [] }))
  -- and there is no loss exactly if the file is accepted
  pub no_loss : (s : List ℕ) → Pass (header_checks s) → (loss_rows 16 (parts_of s) ≡ []) ↔ ((l : List (List ℕ)) × (check_call s ≡ taken l))
  -- the output is always accepted: it is canonical, has the kept content, and is no longer than the file
  pub output : (have space : ℕ) (s : List ℕ) (x : Rescued) → salvage have space s ≡ taken x
      → IsCanonical x.file × (content_at x.file ≡ taken (content_of (all_kept (parts_of s)))) × (length x.file ≤ length s)
  -- taken exactly if the header has no fault and both outputs hold what is made of the parts
  pub exactly : (have space : ℕ) (s : List ℕ) (x : Rescued)
      → (salvage have space s ≡ taken x) ↔ (Pass (header_checks s) × (rescued_of (parts_of s) ≡ x) × (length x.file ≤ have) × (length (join x.losses) ≤ space))
  -- refused for the first fault of the header; else ROOM for the file's output, then for the records, with the length needed
  pub refuses : (have space : ℕ) (s : List ℕ) (n p : ℕ) → salvage have space s ≡ refused n p
      → FirstOr (header_checks s) n p ((n ≡ ROOM) × (
      ((have < length (rescued_of (parts_of s)).file) × (p ≡ length (rescued_of (parts_of s)).file))
      ⊎ ((length (rescued_of (parts_of s)).file ≤ have) × (space < length (join (rescued_of (parts_of s)).losses)) × (p ≡ length (join (rescued_of (parts_of s)).losses)))
      ))
  -- Demand 1: a refusal has a number of the list
  pub table : (have space : ℕ) (s : List ℕ) → InTable (salvage have space s)
  -- and leaves both outputs as they were, with no losses beside it
  pub stays : (s out losses : List ℕ) (r : Salvaged) (new recs : List ℕ) → Salvages (salvage (length out) (length losses) s) out losses r new recs → r.number ≢ 0 → (new ≡ out) × (recs ≡ losses) × (r.losses ≡ 0)
  -- taken, the place counts the file's bytes and the number of losses stands beside it; the bytes behind what is written stay
  pub writes : (s out losses : List ℕ) (r : Salvaged) (new recs : List ℕ) → Salvages (salvage (length out) (length losses) s) out losses r new recs → r.number ≡ 0
      → (x : Rescued) × (salvage (length out) (length losses) s ≡ taken x) × (r.place ≡ length x.file) × (r.losses ≡ length x.losses) × (new ≡ x.file ++ drop (length x.file) out)
      × (recs ≡ join x.losses ++ drop (length (join x.losses)) losses)
  pub once : (s out losses : List ℕ) (r p : Salvaged) (new now recs lines : List ℕ) → Salvages (salvage (length out) (length losses) s) out losses r new recs
      → Salvages (salvage (length out) (length losses) s) out losses p now lines → (r ≡ p) × (new ≡ now) × (recs ≡ lines)

-- a program that meets the promise of the call
pub record SalvageProgram : Type 0 where
  pub answers : List ℕ → List ℕ → List ℕ → Salvaged
  pub files : List ℕ → List ℕ → List ℕ → List ℕ
  pub lists : List ℕ → List ℕ → List ℕ → List ℕ
  pub meets : (s out losses : List ℕ) → Salvages (salvage (length out) (length losses) s) out losses (answers s out losses) (files s out losses) (lists s out losses)

-- wrong answers that the promise rules out: to refuse everything, to keep nothing, to tell of no loss
pub record RuledOutSalvage : Type 0 where
  pub refuses_everything : (P : SalvageProgram) → ((s out losses : List ℕ) → (P.answers s out losses).number ≢ 0) → ⊥
  pub keeps_nothing : (P : SalvageProgram) → ((s out losses : List ℕ) → (P.answers s out losses).number ≡ 0 → (P.answers s out losses).place ≡ 16) → ⊥
  pub tells_no_loss : (P : SalvageProgram) → ((s out losses : List ℕ) → (P.answers s out losses).losses ≡ 0) → ⊥
