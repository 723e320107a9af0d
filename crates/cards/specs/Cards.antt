-- The card: a canonical file's length, sections, devices and summed device payload, and how an edit moves it.
-- It is the last check of an edit and asks nothing of what comes before: the bytes that are written do not depend on it.
-- Assumes nothing.
use Rattle.std.specs.Prelude.{◌≡◌, List, [], ◌∷◌, Bool, ◌&&◌, ℕ, ◌+◌, ◌-◌, length, leb}
use Rattle.answer.specs.Numbers.{CARD}
use Rattle.answer.specs.Outcome.{Outcome, taken, refused, Checks, checked, after}
use Rattle.answer.specs.Calls.{memory}
use Rattle.order.specs.Keyed.{weigh}
use Rattle.entries.specs.Kinds.{devices}
use Rattle.cards.specs.declared.Card.{Card}
use Rattle.cards.specs.declared.Edited.{Edited}
use Rattle.cards.specs.declared.Written.{Written}
use Rattle.cards.specs.declared.Refused.{Refused}
use Rattle.std.specs.Prelude.{Result, Ok, Err}
use Rattle.answer.specs.Refusals.{number_of}
use Rattle.aerosnap.specs.File.{file_most, sections_most, devices_most}
use Rattle.aerosnap.specs.Content.{Content, secs, render, content_at}
use Rattle.aerosnap.specs.Edits.{Edit, apply, edit_to}

-- ---- the true card

-- how long the payload of a device's entry is
abbrev pub payload_size : List ℕ → ℕ
payload_size e = length e - 16

-- the true card of a content: that of its canonical form
abbrev pub card_of : Content → Card
card_of c = record { length = length (render c); sections = length (secs c); devices = length c.devices; payloads = weigh payload_size c.devices }

-- opening a file makes the true card of its canonical form
unfoldable pub open_file : List ℕ → Outcome Card
open_file s = after (content_at s) (λ c. taken (card_of c))

-- ---- how it moves

-- a number n that moves as from a to b stays within lo and hi; no sum wraps, and nothing stops at 0
abbrev pub stays : ℕ → ℕ → ℕ → ℕ → ℕ → Bool
stays lo hi a b n = leb (lo + a) (n + b) && leb (n + b) (hi + a)

-- where it goes
abbrev pub goes : ℕ → ℕ → ℕ → ℕ
goes a b n = n + b - a

-- the last check of an edit: the card k moves as the true one does, from a to b, and each number stays within its bounds
abbrev pub card_checks : Card → Card → Card → Checks
card_checks k a b =
    (stays 16 file_most a.length b.length k.length, CARD, 0)
    ∷ (stays 0 sections_most a.sections b.sections k.sections, CARD, 0)
    ∷ (stays 0 devices.most a.devices b.devices k.devices, CARD, 0)
    ∷ (stays 0 devices_most a.payloads b.payloads k.payloads, CARD, 0)
    ∷ []

abbrev pub moved_card : Card → Card → Card → Card
moved_card k a b = record {
  length = goes a.length b.length k.length;
  sections = goes a.sections b.sections k.sections;
  devices = goes a.devices b.devices k.devices;
  payloads = goes a.payloads b.payloads k.payloads;
}

-- ---- an edit beside a card

-- bytes that are written of u, which came of c, and the card then
abbrev pub carded : Card → Content → Content → List ℕ → Outcome (List ℕ × Card)
carded k c u b = checked (card_checks k (card_of c) (card_of u)) (taken (b, moved_card k (card_of c) (card_of u)))

-- an edit of a content beside the card k: all other checks, then the card's
unfoldable pub edit_card_to : ℕ → Card → Content → Edit → Outcome (List ℕ × Card)
edit_card_to have k c e = after (edit_to have c e) (carded k c (apply e c))

-- an edit of a file beside a card: the file's faults, then the edit's, then the card's
unfoldable pub edit_card : ℕ → Card → List ℕ → Edit → Outcome (List ℕ × Card)
edit_card have k s e = after (content_at s) (λ c. edit_card_to have k c e)

-- ---- what a call shows

-- the bytes that an edit writes, or its refusal
abbrev pub bytes_beside : Outcome (List ℕ × Card) → Outcome (List ℕ)
bytes_beside o = after o (λ t. taken t.0)

-- number, index, place and card
abbrev pub answer_beside : Card → ℕ → Outcome (List ℕ × Card) → Edited
answer_beside k i (taken t) = record { number = 0; index = i; place = length t.0; card = t.1 }
answer_beside k i (refused n p) = record { number = n; index = i; place = p; card = k }

-- the promise of an edit beside the card k: its answer r, with an index, and `new` in the lent memory that held `old`
pub record WritesBeside (k : Card) (o : ℕ × Outcome (List ℕ × Card)) (old : List ℕ) (r : Edited) (new : List ℕ) : Type 0 where
  pub answers : r ≡ answer_beside k o.0 o.1
  pub leaves : new ≡ memory (bytes_beside o.1) old

-- what is told of the code's own answer beside the card k: a refusal leaves it as it was
abbrev pub edited_answer : Card → Result Written Refused → Edited
edited_answer k (Ok w) = record { number = 0; index = 0; place = w.bytes; card = w.card }
edited_answer k (Err r) = record { number = number_of r.fault.0; index = r.index; place = r.fault.1; card = k }

-- a card that says nothing
abbrev pub blank_card : Card
blank_card = record { length = 0; sections = 0; devices = 0; payloads = 0 }

-- the answer of a call that opens a file: the place of what is taken is 0, and beside a refusal the card says nothing
abbrev pub open_answer : Outcome Card → Edited
open_answer (taken k) = record { number = 0; index = 0; place = 0; card = k }
open_answer (refused n p) = record { number = n; index = 0; place = p; card = blank_card }
