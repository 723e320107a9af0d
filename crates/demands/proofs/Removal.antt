-- Request 3, from the laws of edits (crates/aerosnap/proofs/Edited.antt) and of cards.
-- Assumes nothing.
use mathlib.Core.Path.{◌≡◌, refl, sym, ◌∙◌, ap, subst}
use mathlib.Core.Bool.{true, false}
use mathlib.Core.List.{List, []}
use Prim.Native.Nat.{ℕ, ◌≤◌}
use lib.ListN.{length}
use Rattle.answer.specs.Numbers.{ABSENT}
use Rattle.answer.specs.Outcome.{Outcome, taken, refused, after}
use Rattle.answer.proofs.Outcomes.{taken_is}
use Rattle.order.specs.Keyed.{keep, without}
use Rattle.aerosnap.specs.File.{file_of}
use Rattle.aerosnap.specs.Content.{is_id, Content, content_at, secs, kind_at, id_at, entries_at, tail_at, IsCanonical}
use Rattle.aerosnap.specs.Adding.{Item, Name, device_named, name_of, side_of}
use Rattle.aerosnap.specs.Edits.{key_of, stands, add, remove, replace, apply, edit_to, EditCall}
use Rattle.aerosnap.proofs.Taken.{file_complete}
use Rattle.aerosnap.proofs.Back.{secs_valid}
use Rattle.aerosnap.proofs.Ranked.{with_entries}
use Rattle.aerosnap.proofs.Edited.{edit_gives, undo, removed_gone, removed_last, replace_same, replace_stands, replace_twice}
use Rattle.cards.specs.declared.Card.{Card}
use Rattle.cards.specs.Cards.{edit_card_to, edit_card}
use Rattle.demands.specs.Beside.{TrueCard, CallBeside}
use Rattle.demands.specs.Removal.{Removal}
use Rattle.demands.proofs.Beside.{edit_true, edit_keeps, bare_call}

last : (have : ℕ) (s : List ℕ) (n : Name) (b : List ℕ) (c : Content) (l : List (List ℕ)) → EditCall have s (remove n) b → content_at s ≡ taken c → length (entries_at (side_of n) c) ≡ 1 → tail_at (side_of n) c ≡ []
    → file_of b ≡ taken l → keep (is_id (id_at (side_of n))) l ≡ []
last have s n b c l k r one w f =
    let g = edit_gives have s (remove n) b k in
    let i : g.old ≡ c = taken_is (sym g.read ∙ r) in
    let e : secs (apply (remove n) g.old) ≡ l = taken_is (sym (file_complete (secs (apply (remove n) g.old)) (secs_valid (apply (remove n) g.old) g.canon)) ∙ ap file_of g.writes ∙ f) in
    subst (λ (m : List (List ℕ)). keep (is_id (id_at (side_of n))) m ≡ []) e (removed_last n g.old g.in_canon g.passes.0 (ap (λ (d : Content). length (entries_at (side_of n) d)) i ∙ one) (ap (λ (d : Content). tail_at (side_of n) d) i ∙ w))

keeps : (have : ℕ) (s : List ℕ) (id v f : ℕ) (p b : List ℕ) (c : Content) → EditCall have s (replace id v f p) b → content_at s ≡ taken c
    → (u : Content) × (content_at b ≡ taken u) × (stands (device_named id v f) u ≡ true) × (length u.devices ≡ length c.devices) × (u.disks ≡ c.disks) × (u.rest ≡ c.rest)
keeps have s id v f p b c k r =
    let g = edit_gives have s (replace id v f p) b k in
    let i : g.old ≡ c = taken_is (sym g.read ∙ r) in
    let t = g.passes.1.0 in
    (apply (replace id v f p) g.old, g.content_is, replace_stands id v f p g.old, (replace_same id v f p g.old g.in_canon t).count ∙ ap (λ (d : Content). length d.devices) i, ap (λ (d : Content). d.disks) i, ap (λ (d : Content). d.rest) i)

absent : (have : ℕ) (k : Card) (s : List ℕ) (n : Name) (c : Content) → content_at s ≡ taken c → stands n c ≡ false → edit_card have k s (remove n) ≡ refused ABSENT 0
unfolding edit_card edit_card_to edit_to
absent have k s n c r h = ap (λ (o : Outcome Content). after o (λ c. edit_card_to have k c (remove n))) r ∙ rw h

undo_beside : (have room : ℕ) (s : List ℕ) (k : Card) (x : Item) (b : List ℕ) (j : Card) → IsCanonical s → TrueCard s k → CallBeside have s k (add x) b j → length s ≤ room → edit_card room j b (remove (name_of x)) ≡ taken (s, k)
undo_beside have room s k x b j o t c n =
    edit_true room b j (remove (name_of x)) s k (edit_keeps have s k (add x) b j t c.wide c.accepts) c.wide (undo have room s x b o (bare_call c) n) t

twice : (have room : ℕ) (s : List ℕ) (k : Card) (b : List ℕ) (i : Card) (d : List ℕ) (j : Card) (id v f : ℕ) (p q : List ℕ) → TrueCard s k → CallBeside have s k (replace id v f p) b i → CallBeside room b i (replace id v f q) d j
    → (more : ℕ) → length d ≤ more → edit_card more k s (replace id v f q) ≡ taken (d, j)
twice have room s k b i d j id v f p q t x y more n =
    let u = edit_keeps have s k (replace id v f p) b i t x.wide x.accepts in
    edit_true more s k (replace id v f q) d j t x.wide (replace_twice have room s b d id v f p q (bare_call x) (bare_call y) more n) (edit_keeps room b i (replace id v f q) d j u y.wide y.accepts)

pub removal : Removal
removal = record {
  absent = absent;
  on_list = refl;
  leaves = λ n c. (with_entries (side_of n) (without (kind_at (side_of n)).key (key_of n) (entries_at (side_of n) c)) c, removed_gone n c);
  last = λ have s k n b j c l x r one w f. last have s n b c l (bare_call x) r one w f;
  undo = undo_beside;
  keeps = λ have s k id v f p b j c x r. keeps have s id v f p b c (bare_call x) r;
  twice = twice;
}
