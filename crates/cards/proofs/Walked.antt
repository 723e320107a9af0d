-- The four numbers of a true card are what a walk over the canonical file finds.
-- Assumes nothing.
use mathlib.Core.Path.{◌≡◌, refl, sym, ◌∙◌, ap, subst}
use mathlib.Core.List.{List}
use Prim.Native.Nat.{ℕ}
use lib.ListN.{length}
use Rattle.answer.specs.Outcome.{taken}
use Rattle.answer.proofs.Outcomes.{taken_is}
use Rattle.order.specs.Keyed.{weigh}
use Rattle.order.proofs.Perms.{perm_length, perm_weigh}
use Rattle.order.proofs.Sorts.{sort_perm}
use Rattle.entries.specs.Kinds.{devices}
use Rattle.aerosnap.specs.Known.{DEVICES}
use Rattle.aerosnap.specs.File.{file_of}
use Rattle.aerosnap.specs.Content.{Content, entries_in, secs, render, canonical}
use Rattle.aerosnap.proofs.Taken.{file_complete}
use Rattle.aerosnap.proofs.Canon.{Canon}
use Rattle.aerosnap.proofs.Back.{secs_valid, content_secs}
use Rattle.aerosnap.proofs.Canonical.{content_is, canonical_exactly}
use Rattle.cards.specs.declared.Card.{Card}
use Rattle.cards.specs.Cards.{payload_size, card_of, open_file}
use Rattle.cards.proofs.Carded.{card_open}

-- b is a file of so many bytes, with these sections; its DEVICES list has so many entries, whose payloads have so many bytes together
pub record Counts (k : Card) (b : List ℕ) (l : List (List ℕ)) : Type 0 where
  pub reads : file_of b ≡ taken l
  pub length_is : k.length ≡ length b
  pub sections_are : k.sections ≡ length l
  pub devices_are : k.devices ≡ length (entries_in DEVICES devices l)
  pub payloads_are : k.payloads ≡ weigh payload_size (entries_in DEVICES devices l)

pub content_counts : (c : Content) → Canon c → Counts (card_of c) (render c) (secs c)
content_counts c h =
    let p = sort_perm devices.key (entries_in DEVICES devices (secs c)) in
    let e = content_secs c h in
    record {
      reads = file_complete (secs c) (secs_valid c h);
      length_is = refl;
      sections_are = refl;
      devices_are = ap (λ (d : Content). length d.devices) (sym e) ∙ perm_length p;
      payloads_are = ap (λ (d : Content). weigh payload_size d.devices) (sym e) ∙ perm_weigh payload_size p;
    }

-- Opening a file that is taken makes the card whose numbers stand in its canonical form.
pub open_counts : (have : ℕ) (s b : List ℕ) (k : Card) → canonical have s ≡ taken b → open_file s ≡ taken k → (l : List (List ℕ)) × Counts k b l
open_counts have s b k h o =
    let (c, r, e) = card_open s k o in
    let (d, t, w, _) = (canonical_exactly have s b).0 h in
    let i : d ≡ c = taken_is (sym t ∙ r) in
    let g : render c ≡ b = ap render (sym i) ∙ w in
    (secs c, subst (λ (j : Card). Counts j b (secs c)) e (subst (λ (d : List ℕ). Counts (card_of c) d (secs c)) g (content_counts c (content_is s c r).0)))
