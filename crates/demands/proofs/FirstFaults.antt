-- The fault that is named is the first in its order: of a file, a wrapper, a list, an edit, and a message that is read or written.
-- Assumes nothing.
use mathlib.Core.Path.{◌≡◌, refl, sym, ap, ◌∙◌}
use mathlib.Core.Logic.{◌↔◌, ◌⊎◌, inl, inr}
use mathlib.Core.Bool.{Bool, true, false}
use mathlib.Core.List.{List, [], ◌∷◌, ◌++◌}
use Prim.Native.Nat.{ℕ, ◌+◌, ◌≤◌}
use native.Mathlib.Omega.{arith}
use borrow.Author.Tests.{leb-true}
use lib.ListN.{length, drop, length-append}
use Rattle.answer.specs.Numbers.{VALUE}
use Rattle.answer.specs.Outcome.{Outcome, taken, refused, Checks, checked, Pass, after, moved, room, First, FirstOr, FaultAt}
use Rattle.answer.proofs.Outcomes.{taken_refused}
use Rattle.wire.specs.Numbers.{le_at}
use Rattle.format.specs.Format.{Is, read}
use Rattle.order.specs.Keyed.{Every, Apart, has, inserts}
use Rattle.order.specs.Entries.{join, starts_from}
use Rattle.order.proofs.Starts.{drop_past}
use Rattle.entries.specs.declared.Kind.{Kind}
use Rattle.entries.specs.Code.{describe}
use Rattle.entries.specs.Kinds.{Description, controllers}
use Rattle.entries.proofs.Lawful.{lawful}
use Rattle.lists.specs.Lists.{key_at, entry_checks, entry_at, end_checks, walk, count_checks, list_at}
use Rattle.lists.proofs.Faults.{StopsAt, walk_stop, stop_walk, starts_distinct, distinct_starts, seen_has}
use Rattle.aerosnap.specs.Known.{known}
use Rattle.aerosnap.specs.Payloads.{body_of, payload}
use Rattle.aerosnap.specs.File.{file_most, sections_most, header, header_checks, id_of, version_of, flags_of, length_of, payload_of, frame_checks, known_checks, ruled, section_of, sections, file_of}
use Rattle.aerosnap.specs.Rules.{IsFile}
use Rattle.aerosnap.proofs.Taken.{header_sound}
use Rattle.aerosnap.proofs.Faults.{Stops, sections_stop, stop_sections}
use Rattle.dskc.specs.Wrapper as wrapped
use Rattle.kinds.specs.declared.Message.{Message}
use Rattle.kinds.specs.Kinds.{Kind as MessageKind, kinds, blank, paper}
use Rattle.messages.specs.Fields.{message_at}
use Rattle.messages.specs.Reading as messages
use Rattle.messages.specs.Writing.{write_checks, written, write_message}
use Rattle.numbers.specs.declared.Numbers.{Numbers}
use Rattle.numbers.specs.Numbers.{kind_in, all_within, message_of, write_numbers}
use Rattle.demands.specs.Demand2.{SectionFault, EntryFault, ListFault, Faults}
use Rattle.demands.proofs.Beside.{card_first}
use Rattle.answer.proofs.Firsts.{checked-first, then-first, or_else, moved-first, shift-first, after_refused, after-only}

-- ---- a section, and a file

ruled-first : (before : List (List ℕ)) (at id v f : ℕ) (b : List ℕ) (n p : ℕ) → (ruled before at id v f b ≡ refused n p)
    ↔ ((known id ≡ true) × FirstOr (known_checks before at id v f b) n p (FaultAt (at + 16) (payload (body_of id v) b) n p))
unfolding ruled
ruled-first before at id v f b n p = (to (known id) refl, back)
  where
    rows : Checks
    rows = known_checks before at id v f b

    behind : Outcome (Unit {0})
    behind = moved (at + 16) (payload (body_of id v) b)

    to : (k : Bool) → known id ≡ k → ◌≡◌ {A = Outcome (Unit {0})} (elim k as (λ _. Outcome (Unit {0})) [ true ↦ checked rows behind | false ↦ taken tt ]) (refused n p)
        → (known id ≡ true) × FirstOr rows n p (FaultAt (at + 16) (payload (body_of id v) b) n p)
    to true q e = (q, or_else rows n p (λ _ h. (moved-first (at + 16) (payload (body_of id v) b) n p).0 h) ((then-first rows behind n p).0 e))
    to false q e = absurd (taken_refused e)

    back : (known id ≡ true) × FirstOr rows n p (FaultAt (at + 16) (payload (body_of id v) b) n p) → ruled before at id v f b ≡ refused n p
    back (k, h) = rw (k, ruled) ((then-first rows behind n p).1 (or_else rows n p (λ _ x. (moved-first (at + 16) (payload (body_of id v) b) n p).1 x) h))

section_first : (before : List (List ℕ)) (at : ℕ) (b : List ℕ) (n p : ℕ) → (section_of before at b ≡ refused n p) ↔ SectionFault before at b n p
unfolding section_of
section_first before at b n p =
    let rows = frame_checks before at b in
    let r : Outcome (Unit {0}) = ruled before at (id_of b) (version_of b) (flags_of b) (payload_of b) in
    let rule = ruled-first before at (id_of b) (version_of b) (flags_of b) (payload_of b) n p in
    let only = after-only r (λ _. 16 + length_of b) n p in
    let all = then-first rows (after r (λ _. taken (16 + length_of b))) n p in (
      (λ e. or_else rows n p (λ _ h. rule.0 (only.0 h)) (all.0 e)),
      λ f. all.1 (or_else rows n p (λ _ h. only.1 (rule.1 h)) f),
    )

abbrev FileFault : List ℕ → ℕ → ℕ → Type 0
FileFault s n p = (l : List (List ℕ)) × (b : List ℕ) × (s ≡ header ++ (join l ++ b)) × (1 ≤ length b) × IsFile l × SectionFault l (16 + length (join l)) b n p

file_first : (s : List ℕ) (n p : ℕ) → (file_of s ≡ refused n p) ↔ FirstOr (header_checks s) n p (FileFault s n p)
unfolding file_of
file_first s n p =
    let all = then-first (header_checks s) (sections sections_most [] 16 (drop 16 s)) n p in (
      (λ e. or_else (header_checks s) n p (λ k h. there k (sections_stop sections_most [] 16 (drop 16 s) refl tt h)) (all.0 e)),
      λ f. all.1 (or_else (header_checks s) n p (λ k h. back h) f),
    )
  where
    there : Pass (header_checks s) → Stops [] 16 (drop 16 s) n p → FileFault s n p
    there k v =
        let e : s ≡ header ++ (join v.fine ++ v.rest) = header_sound s k ∙ ap (λ (t : List ℕ). header ++ t) v.cut in
        let z : length (header ++ join v.fine) ≤ file_most = omega (arith, leb-true (length s) file_most k.0, ap length e, length-append (join v.fine) v.rest) in
        (v.fine, v.rest, e, v.more, record { few = omega (arith, v.few); short = z; are = v.are; once = v.once }, (section_first v.fine (16 + length (join v.fine)) v.rest n p).0 v.fault)

    back : FileFault s n p → sections sections_most [] 16 (drop 16 s) ≡ refused n p
    back (l, b, e, m, v, f) =
        ap (λ (t : List ℕ). sections sections_most [] 16 (drop 16 t)) e
        ∙ stop_sections l sections_most [] 16 b m v.few (omega (arith, v.few)) v.are v.once ((section_first l (16 + length (join l)) b n p).1 f)

-- ---- a wrapper

wrapper_first : (s : List ℕ) (n p : ℕ) → (wrapped.wrapper_of s ≡ refused n p) ↔ FirstOr (wrapped.wrapper_header_checks s) n p (FaultAt 16 (list_at controllers (drop 16 s)) n p)
unfolding wrapped.wrapper_of
wrapper_first s n p =
    let all = then-first (wrapped.wrapper_header_checks s) (moved 16 (list_at controllers (drop 16 s))) n p in
    let part = moved-first 16 (list_at controllers (drop 16 s)) n p in (
      (λ e. or_else (wrapped.wrapper_header_checks s) n p (λ _ h. part.0 h) (all.0 e)),
      λ f. all.1 (or_else (wrapped.wrapper_header_checks s) n p (λ _ h. part.1 h) f),
    )

-- ---- a list

module _ (k : Kind) (s : List ℕ) (n p : ℕ) where
  abbrev d : Description
  d = describe k

  abbrev Found : Type 0
  Found = (l : List (List ℕ)) × (b : List ℕ) × (drop 4 s ≡ join l ++ b) × Every (Is d.form) l × Apart d.key l × ListFault d s l b n p

  module _ (l : List (List ℕ)) (b : List ℕ) (c : drop 4 s ≡ join l ++ b) (a : Every (Is d.form) l) where
    abbrev at : ℕ
    at = 4 + length (join l)

    abbrev seen : List ℕ
    seen = inserts (key_at d s) [] (starts_from 4 l)

    rows_same : entry_checks d (has (key_at d s) (key_at d s at) seen) (drop at s) ≡ entry_checks d (has d.key (d.key b) l) b
    rows_same =
        let e : drop at s ≡ b = drop_past s 4 (join l) b c in
        let h : has (key_at d s) (key_at d s at) seen ≡ has d.key (d.key b) l = ap (λ (t : List ℕ). has (key_at d s) (d.key t) seen) e ∙ seen_has (lawful k) s l b 4 c a (d.key b) in
        ap (λ (r : Bool). entry_checks d r (drop at s)) h ∙ ap (entry_checks d (has d.key (d.key b) l)) e

    entry_first : (entry_at d s at seen ≡ refused n p) ↔ ((q : ℕ) × EntryFault d l b n q × (p ≡ at + q))
    unfolding entry_at
    entry_first =
        let rows : Checks = entry_checks d (has (key_at d s) (key_at d s at) seen) (drop at s) in
        let o : Outcome ℕ = checked rows (read d.form (drop at s)) in
        let same : o ≡ checked (entry_checks d (has d.key (d.key b) l) b) (read d.form b) =
        ap (λ (r : Checks). checked r (read d.form (drop at s))) rows_same ∙ ap (λ (t : List ℕ). checked (entry_checks d (has d.key (d.key b) l) b) (read d.form t)) (drop_past s 4 (join l) b c) in
        let part = shift-first at o n p in (
          (λ e. let (q, h, i) = part.0 e in (q, (then-first (entry_checks d (has d.key (d.key b) l) b) (read d.form b) n q).0 (sym same ∙ h), i)),
          λ (q, h, i). part.1 (q, same ∙ (then-first (entry_checks d (has d.key (d.key b) l) b) (read d.form b) n q).1 h, i),
        )

    to_fault : StopsAt (lawful k) s (le_at 4 s 0) (length l) at seen n p → ListFault d s l b n p
    to_fault (inl (i, h)) = inl (i, entry_first.0 h)
    to_fault (inr (i, h)) = inr (i, (checked-first (end_checks d s at) seen n p).0 h)

    from_fault : ListFault d s l b n p → StopsAt (lawful k) s (le_at 4 s 0) (length l) at seen n p
    from_fault (inl (i, h)) = inl (i, entry_first.1 h)
    from_fault (inr (i, h)) = inr (i, (checked-first (end_checks d s at) seen n p).1 h)

  list_first : (list_at d s ≡ refused n p) ↔ FirstOr (count_checks d s) n p Found
  unfolding list_at
  list_first =
      let all = then-first (count_checks d s) (walk d s (le_at 4 s 0) 4 []) n p in (
        (λ e. or_else (count_checks d s) n p there (all.0 e)),
        λ f. all.1 (or_else (count_checks d s) n p back f),
      )
    where
      there : Pass (count_checks d s) → walk d s (le_at 4 s 0) 4 [] ≡ refused n p → Found
      there c h =
          let v = walk_stop (lawful k) s (le_at 4 s 0) 4 [] (leb-true _ _ c.0) tt h in
          (v.fine, v.rest, v.cut, v.are, distinct_starts (lawful k) s v.fine v.rest 4 v.cut v.are v.apart, to_fault v.fine v.rest v.cut v.are v.fault)

      back : Pass (count_checks d s) → Found → walk d s (le_at 4 s 0) 4 [] ≡ refused n p
      back c (l, b, e, a, u, f) = stop_walk (lawful k) s l (le_at 4 s 0) 4 [] b (leb-true _ _ c.0) e a (starts_distinct (lawful k) s l b 4 e a u) (from_fault l b e a f)

-- ---- messages

reading-first : (m : List ℕ) (n p : ℕ) → (messages.read_message m ≡ refused n p) ↔ First (messages.read_checks (paper (message_at m)) m) n p
unfolding messages.read_message
reading-first m n p = checked-first (messages.read_checks (paper (message_at m)) m) _ n p

writing-first : (k : Message) (d : List ℕ) (have n p : ℕ) → (write_message k d have ≡ refused n p) ↔ First (write_checks (paper k) d ++ room have (length (written k d))) n p
unfolding write_message
writing-first k d have n p = checked-first (write_checks (paper k) d ++ room have (length (written k d))) (written k d) n p

module _ (v : Numbers) (d : List ℕ) (have n p : ℕ) where
  abbrev made : MessageKind → Message
  made k = k v.a v.b v.c v.d

  abbrev rows : MessageKind → Checks
  rows k = (all_within (blank k) v, VALUE, 0) ∷ (write_checks (paper (made k)) d ++ room have (length (written (made k) d)))

  -- all of it as one list of checks, once the kind is known
  whole : write_numbers v d have ≡ after (kind_in kinds v.tag) (λ k. checked (rows k) (taken (written (made k) d)))
  unfolding write_numbers message_of write_message
  whole = go (kind_in kinds v.tag)
    where
      row : (k : MessageKind) (b : Bool) → after (checked ((b, VALUE, 0) ∷ []) (taken (made k))) (λ m. write_message m d have)
          ≡ checked ((b, VALUE, 0) ∷ (write_checks (paper (made k)) d ++ room have (length (written (made k) d)))) (taken (written (made k) d))
      row k true = refl
      row k false = refl

      go : (o : Outcome MessageKind) → after (after o (λ k. checked ((all_within (blank k) v, VALUE, 0) ∷ []) (taken (made k)))) (λ m. write_message m d have) ≡ after o (λ k. checked (rows k) (taken (written (made k) d)))
      go (taken k) = row k (all_within (blank k) v)
      go (refused a q) = refl

  numbers-first : (write_numbers v d have ≡ refused n p) ↔ ((kind_in kinds v.tag ≡ refused n p) ⊎ ((k : MessageKind) × (kind_in kinds v.tag ≡ taken k) × First (rows k) n p))
  numbers-first = ((λ e. there (after_refused (kind_in kinds v.tag) (λ k. checked (rows k) (taken (written (made k) d))) n p (sym whole ∙ e))), back)
    where
      there : ((kind_in kinds v.tag ≡ refused n p) ⊎ ((k : MessageKind) × (kind_in kinds v.tag ≡ taken k) × (checked (rows k) (taken (written (made k) d)) ≡ refused n p)))
          → (kind_in kinds v.tag ≡ refused n p) ⊎ ((k : MessageKind) × (kind_in kinds v.tag ≡ taken k) × First (rows k) n p)
      there (inl e) = inl e
      there (inr (k, e, h)) = inr (k, e, (checked-first (rows k) (written (made k) d) n p).0 h)

      back : ((kind_in kinds v.tag ≡ refused n p) ⊎ ((k : MessageKind) × (kind_in kinds v.tag ≡ taken k) × First (rows k) n p)) → write_numbers v d have ≡ refused n p
      back (inl e) = whole ∙ ap (λ (o : Outcome MessageKind). after o (λ k. checked (rows k) (taken (written (made k) d)))) e
      back (inr (k, e, h)) = whole ∙ ap (λ (o : Outcome MessageKind). after o (λ k. checked (rows k) (taken (written (made k) d)))) e ∙ (checked-first (rows k) (written (made k) d) n p).1 h

pub faults : Faults
faults = record {
  file = file_first;
  wrapper = wrapper_first;
  list = list_first;
  reading = reading-first;
  writing = writing-first;
  by-numbers = numbers-first;
  edit = card_first;
}
