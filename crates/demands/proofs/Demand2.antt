-- Demand 2, from the theorems of the crates on files, wrappers and messages.
-- Assumes nothing.
use mathlib.Core.Path.{◌≡◌, refl, sym, ap, ◌∙◌, subst}
use mathlib.Core.Logic.{◌↔◌, ◌⊎◌, inl, inr}
use mathlib.Core.Bool.{Bool, true, false}
use mathlib.Core.List.{List, [], ◌∷◌, append-nil}
use Prim.Native.Nat.{ℕ, ◌+◌, ◌*◌, ◌≤◌, ◌<◌}
use native.Mathlib.Decide.{dec_lt}
use native.Mathlib.Omega.{arith}
use borrow.Author.Tests.{leb-true, leb-false, lt-leb}
use lib.Dec.{leb}
use lib.ListN.{length, drop}
use Rattle.answer.specs.Numbers.{ROOM}
use Rattle.answer.specs.Outcome.{Outcome, taken, refused, checked, after, fitting}
use Rattle.answer.proofs.Outcomes.{after_taken}
use Rattle.wire.specs.Numbers.{Bytes, le_at}
use Rattle.wire.proofs.Numbers.{le_at_bound, le_at-bytes_of}
use Rattle.order.specs.Keyed.{Every, flat}
use Rattle.order.specs.Entries.{join}
use Rattle.order.proofs.Folds.{every_imp}
use Rattle.entries.specs.Kinds.{address}
use Rattle.tables.specs.declared.Table.TheVariants.{Controllers}
use Rattle.tables.specs.Tables.{described, rows_at}
use Rattle.tables.specs.Named.{IsTable}
use Rattle.tables.proofs.Named.{list-table}
use Rattle.aerosnap.specs.Known.{DEVICES, DISKS, CPUS, MMUS, known}
use Rattle.aerosnap.specs.Payloads.{list, body_of}
use Rattle.aerosnap.specs.File.{file_most, file_of}
use Rattle.aerosnap.specs.Rules.{IsSection}
use Rattle.aerosnap.specs.Content.{content_of, content_at, render, entries_in, canonical}
use Rattle.aerosnap.specs.Tables.{placed, table_in, list_rows, section_rows, table, list_table}
use Rattle.aerosnap.proofs.Slots.{Once}
use Rattle.aerosnap.proofs.Taken.{file_sound, taken_exactly, file_unique}
use Rattle.aerosnap.proofs.Records.{SectionRows, section-rows, one_version, list-rows}
use Rattle.aerosnap.proofs.Canonical.{fits_taken, taken_fits, canonical_is, same-canonical, same_content, any_saver}
use Rattle.dskc.specs.Wrapper as wrapped
use Rattle.dskc.proofs.Taken.{wrapper_sound, wrapper_complete, controllers_back, wrapper_one, ordered-length, ordered_valid, ordered_again, address_parts, parts_address}
use Rattle.dskc.proofs.Reading.{whole}
use Rattle.kinds.specs.declared.Message.{Message}
use Rattle.messages.specs.Reading as messages
use Rattle.messages.proofs.Back.{told, read-written}
use Rattle.messages.proofs.Exactly.{taken_writing, writing_unique, read_write}
use Rattle.numbers.proofs.Back.{numbers_write}
use Rattle.demands.specs.Demand1.{Taken}
use Rattle.demands.specs.Demand2.{Writing, Canonical, Files, OfVersion, Tables, Keys, Addresses, Editing, ordered, Wrappers, Says, data_of, Messages, Demand2}
use Rattle.answer.proofs.Firsts.{after_refused}
use Rattle.demands.proofs.FirstFaults.{faults}
use Rattle.demands.proofs.Beside.{card_exactly, card_gives}

-- ---- what is written of what was read

fit_refused : (have : ℕ) (b : List ℕ) (n p : ℕ) → fitting have b ≡ refused n p → (have < length b) × (n ≡ ROOM) × (p ≡ length b)
fit_refused have b n p e = go (leb (length b) have) refl e
  where
    go : (t : Bool) → leb (length b) have ≡ t → ◌≡◌ {A = Outcome (List ℕ)} (checked ((t, ROOM, length b) ∷ []) (taken b)) (refused n p) → (have < length b) × (n ≡ ROOM) × (p ≡ length b)
    go true q e = let z : ◌≡◌ {A = ℕ} 0 1 = cc in absurd (omega arith)
    go false q e = (leb-false (length b) have q, cc, cc)

refused_fit : (have : ℕ) (b : List ℕ) → have < length b → fitting have b ≡ refused ROOM (length b)
refused_fit have b h = rw (lt-leb (length b) have h)

writing : {A : Type 0} (r : Outcome A) (f : A → List ℕ) → Writing r f (λ have. after r (λ a. fitting have (f a)))
writing {A} r f = record { exactly = exactly; refuses = λ have n p. (λ e. there have n p (after_refused r (λ a. fitting have (f a)) n p e), back have n p) }
  where
    exactly : (have : ℕ) (b : List ℕ) → (after r (λ a. fitting have (f a)) ≡ taken b) ↔ ((a : A) × (r ≡ taken a) × (f a ≡ b) × (length b ≤ have))
    exactly have b = (
      λ h.
          let (a, e, q) = after_taken r (λ a. fitting have (f a)) h in
          let (l, i) = fits_taken have (f a) q in
          (a, e, i, omega (arith, l, ap length i)),
      λ (a, e, q, n). ap (λ (o : Outcome A). after o (λ a. fitting have (f a))) e ∙ taken_fits have (f a) (omega (arith, ap length q)) ∙ ap taken q,
    )

    there : (have n p : ℕ) → ((r ≡ refused n p) ⊎ ((a : A) × (r ≡ taken a) × (fitting have (f a) ≡ refused n p)))
        → (r ≡ refused n p) ⊎ ((a : A) × (r ≡ taken a) × (have < length (f a)) × (n ≡ ROOM) × (p ≡ length (f a)))
    there have n p (inl e) = inl e
    there have n p (inr (a, e, h)) = let (i, j, k) = fit_refused have (f a) n p h in inr (a, e, i, j, k)

    back : (have n p : ℕ) → ((r ≡ refused n p) ⊎ ((a : A) × (r ≡ taken a) × (have < length (f a)) × (n ≡ ROOM) × (p ≡ length (f a)))) → after r (λ a. fitting have (f a)) ≡ refused n p
    back have n p (inl e) = ap (λ (o : Outcome A). after o (λ a. fitting have (f a))) e
    back have n p (inr (a, e, h, i, j)) = ap (λ (o : Outcome A). after o (λ a. fitting have (f a))) e ∙ refused_fit have (f a) h ∙ cc

-- ---- files

canonical-writing : (s : List ℕ) → Writing (content_at s) render (λ have. canonical have s)
unfolding canonical
canonical-writing s = writing (content_at s) render

is_canonical : (have : ℕ) (s b : List ℕ) → canonical have s ≡ taken b → Canonical s b
is_canonical have s b h = let c = canonical_is have s b h in record { same = c.same; shorter = c.shorter; again = c.again }

files : Files
files = record {
  exactly = taken_exactly;
  unique = file_unique;
  tables = λ rows s. writing (file_of s) rows;
  canonical = canonical-writing;
  is_canonical = is_canonical;
  same = same-canonical;
  only = same_content;
  any_saver = any_saver;
  content = λ s l e. ap (λ (r : Outcome (List (List ℕ))). after r (λ l. taken (content_of l))) e;
  no_content = λ s n p e. ap (λ (r : Outcome (List (List ℕ))). after r (λ l. taken (content_of l))) e;
}

-- ---- tables

-- a file that is taken, with its sections behind the header
pub record Read (s : List ℕ) (l : List (List ℕ)) : Type 0 where
  pub cut : drop 16 s ≡ join l
  pub short : length s ≤ file_most
  pub are : Every IsSection l
  pub once : Once l

pub file_read : (s : List ℕ) (l : List (List ℕ)) → file_of s ≡ taken l → Read s l
file_read s l e =
    let w = file_sound s e in
    record { cut = ap (drop 16) w.0; short = omega (arith, ap length w.0, w.1.short); are = w.1.are; once = w.1.once }

-- the records of a table that is taken
pub table-rows : (rows : List (List ℕ) → List ℕ) (have : ℕ) (s b : List ℕ) → table rows have s ≡ taken b → (l : List (List ℕ)) × (file_of s ≡ taken l) × (rows l ≡ b)
table-rows rows have s b h =
    let (l, e, q) = after_taken (file_of s) (λ l. fitting have (rows l)) h in
    (l, e, (fits_taken have (rows l) q).1)

-- the table of its sections, one by one
pub sections_named : (s b : List ℕ) → Bytes s → (l : List (List ℕ)) → file_of s ≡ taken l → section_rows 16 0 l ≡ b → SectionRows s 0 l b
sections_named s b y l e q =
    let r = file_read s l e in
    subst (SectionRows s 0 l) q (section-rows s y r.short 16 0 l (omega (arith, (file_sound s e).1.few)) r.cut r.are)

-- the table of a list in a file that is taken, whose section has a version
module _ (i : ℕ) (k : known i ≡ true) (m : (v : ℕ) → body_of i v ≡ list (described (table_in i v))) where
  pub list_is : (s : List ℕ) (l : List (List ℕ)) → Bytes s → file_of s ≡ taken l → (v : ℕ) → OfVersion i v l → IsTable (table_in i v) s (entries_in i (described (table_in i v)) l) (flat (list_rows i) (placed 16 l))
  list_is s l y e v w = let r = file_read s l e in list-rows s y r.short (table_in i v) i k m 16 l r.cut r.are r.once (every_imp (λ x h g. ap (table_in i) (h g)) l w)

  pub list_are : (have : ℕ) (s b : List ℕ) → Bytes s → list_table i have s ≡ taken b
      → (l : List (List ℕ)) × (file_of s ≡ taken l) × ((v : ℕ) × OfVersion i v l × IsTable (table_in i v) s (entries_in i (described (table_in i v)) l) b)
  list_are have s b y h =
      let (l, e, q) = table-rows (λ l. flat (list_rows i) (placed 16 l)) have s b h in
      let (v, w) = one_version i k l (file_read s l e).once in
      (l, e, (v, w, subst (IsTable (table_in i v) s (entries_in i (described (table_in i v)) l)) q (list_is s l y e v w)))

tables : Tables
tables = record {
  sections = λ have s b y h.
      let (l, e, q) = table-rows (section_rows 16 0) have s b h in
      let v = sections_named s b y l e q in
      (l, e, (v.rows, v.bytes, v.names));
  devices_are = λ have s b y h. let (l, e, (v, w, q)) = list_are DEVICES refl (λ v. refl) have s b y h in (l, e, q);
  disks_are = λ have s b y h. let (l, e, (v, w, q)) = list_are DISKS refl (λ v. refl) have s b y h in (l, e, q);
  cpus_are = list_are CPUS refl (λ v. refl);
  mmus_are = list_are MMUS refl (λ v. refl);
  controllers_are = λ have s b y h.
      let (r, e, q) = after_taken (wrapped.wrapper_of s) (λ l. fitting have (rows_at Controllers 16 (drop 16 s) l)) h in
      let w = whole s e in
      subst (IsTable Controllers s (wrapped.controllers_of s)) (fits_taken have (rows_at Controllers 16 (drop 16 s) r) q).1
      (list-table Controllers s 16 (drop 16 s) [] (sym (append-nil (drop 16 s))) y (omega (arith, leb-true (length s) wrapped.wrapper_most w.0.0)) w.1);
}

-- ---- keys and addresses

-- three numbers as one, the second and the third below 65536
module _ (a b c x y z : ℕ) (h : b < 65536) (i : c < 65536) (j : y < 65536) (k : z < 65536) where
  lower : (a * 65536 + b) * 65536 + c < (x * 65536 + y) * 65536 + z → (a < x) ⊎ ((a ≡ x) × ((b < y) ⊎ ((b ≡ y) × (c < z))))
  lower l = go (dec_lt a x) (dec_lt b y)
    where
      go : Dec (a < x) → Dec (b < y) → (a < x) ⊎ ((a ≡ x) × ((b < y) ⊎ ((b ≡ y) × (c < z))))
      go (yes p) q = inl p
      go (no p) (yes q) = inr (omega (arith, p), inl q)
      go (no p) (no q) = inr (omega (arith, p), inr (omega (arith, p, q), omega (arith, p, q)))

  below : (a < x) ⊎ ((a ≡ x) × ((b < y) ⊎ ((b ≡ y) × (c < z)))) → (a * 65536 + b) * 65536 + c < (x * 65536 + y) * 65536 + z
  below (inl p) = omega arith
  below (inr (p, inl q)) = omega arith
  below (inr (p, inr (q, r))) = omega arith

  alike : ((a * 65536 + b) * 65536 + c ≡ (x * 65536 + y) * 65536 + z) ↔ ((a ≡ x) × (b ≡ y) × (c ≡ z))
  alike = ((λ e. (omega arith, omega arith, omega arith)), λ (p, q, r). omega arith)

-- a u16 of an entry
half : (e : List ℕ) (at : ℕ) → Bytes e → le_at 2 e at < 65536
half e at y = le_at_bound 2 e at y

keys : Keys
keys = record {
  order = λ e f y z. (
    lower _ _ _ _ _ _ (half e 4 y) (half e 6 y) (half f 4 z) (half f 6 z),
    below _ _ _ _ _ _ (half e 4 y) (half e 6 y) (half f 4 z) (half f 6 z),
  );
  same = λ e f y z. alike _ _ _ _ _ _ (half e 4 y) (half e 6 y) (half f 4 z) (half f 6 z);
}

addresses : Addresses
addresses = record {
  parts = address_parts;
  stored = λ b d f rest h i j. le_at-bytes_of 2 (address b d f) rest (omega arith);
  apart = parts_address;
}

-- ---- edits

editing : Editing
editing = record { exactly = card_exactly; gives = card_gives }

-- ---- wrappers

wrapper_exactly : (s : List ℕ) → Bytes s → Taken (wrapped.wrapper_of s) ↔ ((l : List (List ℕ)) × (s ≡ wrapped.wrapper_bytes l) × wrapped.IsWrapper l)
wrapper_exactly s y = (
  λ (r, e). let w = wrapper_sound s y e in (wrapped.controllers_of s, w.0, w.1),
  λ (l, e, v). (_, ap wrapped.wrapper_of e ∙ wrapper_complete l v),
)

wrappers : Wrappers
wrappers = record {
  exactly = wrapper_exactly;
  unique = wrapper_one;
  back = controllers_back;
  table = λ s. writing (wrapped.wrapper_of s) (rows_at Controllers 16 (drop 16 s));
  canonical = λ s. writing (wrapped.wrapper_of s) (λ _. wrapped.wrapper_bytes (ordered (wrapped.controllers_of s)));
  long = ordered-length;
  valid = ordered_valid;
  again = ordered_again;
}

-- ---- messages

said : (m : List ℕ) (k : Message) (d : List ℕ) → Says m k d → (c : messages.MessageAndData) × (messages.read_message m ≡ taken c) × (c.message ≡ k) × (data_of c m ≡ d)
said m k d s = let r = read-written k d s.typed s.passes in rw (← s.bytes) (told k d, r.reads, refl, r.bytes)

message_exactly : (m : List ℕ) → Bytes m → Taken (messages.read_message m) ↔ ((k : Message) × (d : List ℕ) × Says m k d)
message_exactly m y = (
  λ (c, e). let w = taken_writing m y (record { content = c; reads = e }) in (w.message, w.content, record { typed = w.typed; passes = w.passes; bytes = w.bytes }),
  λ (k, d, s). let r = said m k d s in (r.0, r.1),
)

message_unique : (m : List ℕ) (k k' : Message) (d d' : List ℕ) → Says m k d → Says m k' d' → (k ≡ k') × (d ≡ d')
message_unique m k k' d d' v w =
    writing_unique m (record { message = k; content = d; typed = v.typed; passes = v.passes; bytes = v.bytes }) (record { message = k'; content = d'; typed = w.typed; passes = w.passes; bytes = w.bytes })

messages_are : Messages
messages_are = record { exactly = message_exactly; unique = message_unique; reads = said; writes = read_write; by-numbers = numbers_write }

pub demand2 : Demand2
demand2 = record { files = files; tables = tables; keys = keys; addresses = addresses; editing = editing; wrappers = wrappers; messages_are = messages_are; faults = faults }
