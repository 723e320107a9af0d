-- Many devices at once beside a card: it is asked of the whole, behind every entry, with index 0.
-- Assumes nothing.
use Rattle.std.specs.Prelude.{List, ℕ}
use Rattle.answer.specs.Outcome.{Outcome}
use Rattle.aerosnap.specs.declared.NewDevice.{NewDevice}
use Rattle.aerosnap.specs.Content.{content_at}
use Rattle.aerosnap.specs.Adding.{grown}
use Rattle.aerosnap.specs.Many.{new_devices, new_items, further, add_all}
use Rattle.cards.specs.declared.Card.{Card}
use Rattle.cards.specs.Cards.{carded}

-- the new entries added to the file s beside the card k: the file's faults, the entries one by one, then the card; of no entries too
unfoldable pub add_all_card : ℕ → Card → List ℕ → List NewDevice → List ℕ → ℕ × Outcome (List ℕ × Card)
add_all_card have k s l store = further (0, content_at s) (λ c. further (add_all have s l store) (λ b. (0, carded k c (grown c (new_items store l)) b)))

-- the call: the card, the file s, the table t of the new entries, and the second buffer
abbrev pub many_card : ℕ → Card → List ℕ → List ℕ → List ℕ → ℕ × Outcome (List ℕ × Card)
many_card have k s t store = add_all_card have k s (new_devices t) store
