-- For contracts of private functions: what the parts of the code ask and give that plan an edit, move its card, and do the work of a call.
-- Assumes nothing.
use Rattle.std.specs.Prelude.{◌≡◌, List, ◌++◌, map, ℕ, ◌+◌, ◌-◌, ◌*◌, ◌≤◌, length}
use Rattle.answer.specs.Outcome.{Outcome, taken, Pass}
use Rattle.order.specs.Keyed.{Every, weigh}
use Rattle.entries.specs.Kinds.{devices}
use Rattle.lists.specs.Lists.{list_bytes}
use Rattle.writer.specs.Runs.{entry_by}
use Rattle.aerosnap.specs.declared.Side.{Side}
use Rattle.aerosnap.specs.declared.Side.TheVariants.{OfDevices, OfDisks}
use Rattle.aerosnap.specs.File.{file_most}
use Rattle.aerosnap.specs.Content.{content_of, secs, render}
use Rattle.aerosnap.specs.Adding.{side_of}
use Rattle.aerosnap.specs.Edits.{Edit, target, apply}
use Rattle.cards.specs.declared.Card.{Card}
use Rattle.cards.specs.Cards.{payload_size}
use Rattle.sections.specs.Walks.{sections_in}
use Rattle.edits.specs.declared.Site.{Site}
use Rattle.edits.specs.declared.Cut.{Cut}
use Rattle.edits.specs.declared.Change.{Change}
use Rattle.std.specs.Prelude.{Result, Ok, Err}
use Rattle.answer.specs.declared.Fault.{Fault}
use Rattle.answer.specs.Calls.{fault_of}
use Rattle.sections.specs.Steps.{WholeFile}
use Rattle.edits.specs.Cuts.{own_rows, old_entries, old_tail, payload_long, Lands}

-- ---- the plan of an edit

-- a list is as long as its site says, and with the cut no longer than two files
pub record Measured (i : Side) (s : List ℕ) (w : Site) (c : Cut) : Type 0 where
  pub long : payload_long w ≡ length (list_bytes (old_entries i s) ++ old_tail i s)
  pub most : c.bytes ≤ 2147483648

-- an edit whose own checks passed, and its cut of the list at a site
pub record Planning (e : Edit) (i : Side) (s index : List ℕ) (w : Site) (c : Cut) : Type 0 where
  pub side : side_of (target e) ≡ i
  pub own : Pass (own_rows e)
  pub whole : WholeFile s index
  pub lands : Lands e s index w c

-- an edit that may be written, for an output of so many bytes: what it answers, where it lands, and the numbers of the file before it and after it
pub record EditReady (have : ℕ) (o : Outcome (List ℕ)) (e : Edit) (s index : List ℕ) (x : Change) : Type 0 where
  pub goes : o ≡ taken (render (apply e (content_of (sections_in s))))
  pub own : Pass (own_rows e)
  pub whole : WholeFile s index
  pub lands : Lands e s index x.site x.cut
  pub room : length (render (apply e (content_of (sections_in s)))) ≤ have
  pub most : length (render (apply e (content_of (sections_in s)))) ≤ file_most
  pub old_sections : x.old.sections ≡ length (secs (content_of (sections_in s)))
  pub old_bytes : x.old.bytes ≡ length (render (content_of (sections_in s)))
  pub new_sections : x.new.sections ≡ length (secs (apply e (content_of (sections_in s))))
  pub new_bytes : x.new.bytes ≡ length (render (apply e (content_of (sections_in s))))

abbrev pub PlanOf : ℕ → Outcome (List ℕ) → Edit → List ℕ → List ℕ → Result Change Fault → Type 0
PlanOf have o e s index (Err f) = o ≡ fault_of f
PlanOf have o e s index (Ok x) = EditReady have o e s index x

-- ---- the card

-- no number of a change is larger than two files
pub record Modest (x : Change) : Type 0 where
  pub order : x.site.first ≤ x.site.last
  pub few : x.site.last ≤ 4294967296
  pub long : payload_long x.site ≤ 4294967296
  pub bytes : x.cut.bytes ≤ 4294967296

-- the card before an edit and after it, but for what both have alike
abbrev pub card_before : Side → Change → Card
card_before OfDevices x = record { length = x.old.bytes; sections = x.old.sections; devices = x.site.last - x.site.first; payloads = payload_long x.site + 16 * x.cut.count }
card_before OfDisks x = record { length = x.old.bytes; sections = x.old.sections; devices = 0; payloads = 0 }

abbrev pub card_behind : Side → Change → Card
card_behind OfDevices x = record { length = x.new.bytes; sections = x.new.sections; devices = x.cut.count; payloads = x.cut.bytes + 16 * (x.site.last - x.site.first) }
card_behind OfDisks x = record { length = x.new.bytes; sections = x.new.sections; devices = 0; payloads = 0 }

-- ---- the true card

-- entries of devices, whose payloads are together no longer than a file
pub record Lightly (p starts : List ℕ) : Type 0 where
  pub each : Every (λ y. 16 ≤ length (entry_by devices p y)) starts
  pub all : weigh payload_size (map (entry_by devices p) starts) ≤ file_most
