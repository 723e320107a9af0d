-- Demand 1, from the numbers of each definition and from the shape that all calls that write have: what is to be written, and then the room for it.
-- Assumes nothing.
use mathlib.Core.Path.{◌≡◌, refl, sym, ap, ◌∙◌}
use mathlib.Core.Logic.{◌≢◌, ◌↔◌}
use mathlib.Core.Bool.{Bool, true, false, cond}
use mathlib.Core.List.{List, [], ◌∷◌, ◌++◌}
use Prim.Native.Nat.{ℕ, ◌+◌, ◌≤◌, ◌<◌}
use native.Mathlib.Omega.{arith}
use borrow.Author.Tests.{leb-true, leb-false, le-leb}
use lib.Dec.{leb, eqb}
use lib.ListN.{length, drop}
use Rattle.answer.specs.declared.Answer.{Answer}
use Rattle.answer.specs.Numbers.{VALUE, ROOM, is_number, is_fault}
use Rattle.answer.specs.Outcome.{Outcome, taken, refused, Faulty, Checks, checked, after, room, fitting}
use Rattle.answer.specs.Calls.{verdict, answer, Writes}
use Rattle.answer.proofs.Checks.{checked-after, checked-append}
use Rattle.answer.proofs.Outcomes.{taken_refused, after-after}
use Rattle.answer.proofs.Table.{number_some, fault_number, fault_some, fault_no_room}
use Rattle.answer.proofs.Once.{equal_once, writes_once}
use Rattle.order.specs.Keyed.{Every, flat, sort}
use Rattle.order.proofs.Folds.{every_append}
use Rattle.entries.specs.Kinds.{controllers}
use Rattle.tables.specs.declared.Table.TheVariants.{Controllers}
use Rattle.aerosnap.specs.Known.{META, DEVICES, DISKS, CPUS, MMUS}
use Rattle.tables.specs.Tables.{rows_at}
use Rattle.aerosnap.specs.File.{file_of}
use Rattle.aerosnap.specs.Content.{Content, is_id, content_at, render, canonical}
use Rattle.aerosnap.specs.Tables.{placed, list_rows, section_rows, table}
use Rattle.aerosnap.specs.Adding.{Item, device, disk, own_checks, add_checks}
use Rattle.aerosnap.specs.Edits.{Edit, add, remove, replace, apply, edit_checks, edit_to, edit_file}
use Rattle.aerosnap.proofs.Refusals.{Refuses, checked_refuses, after_refuses, refuses_more}
use Rattle.aerosnap.proofs.Named.{checked_faulty, after_faulty, file_faulty, content_faulty}
use Rattle.snapshot.specs.declared.MetaFields.{MetaFields}
use Rattle.snapshot.specs.MetaSection.{meta_at, meta_in, as_meta}
use Rattle.dskc.specs.Wrapper as wrapped
use Rattle.kinds.specs.declared.Message.{Message}
use Rattle.kinds.specs.declared.Message.TheVariants.{Nothing}
use Rattle.kinds.specs.declared.Body.{Body}
use Rattle.kinds.specs.declared.Body.TheVariants.{Empty, Bytes, Text}
use Rattle.kinds.specs.declared.Cell.{Cell}
use Rattle.kinds.specs.declared.Form.{Form}
use Rattle.kinds.specs.Kinds.{Kind, kinds, blank, paper, cells, ok_of}
use Rattle.messages.specs.declared.Reading.{Reading}
use Rattle.messages.specs.Reading.{MessageAndData, reading, read_message}
use Rattle.messages.specs.Writing.{value_checks, data_checks, write_checks, written, write_message}
use Rattle.numbers.specs.declared.Numbers.{Numbers}
use Rattle.numbers.specs.declared.Told.{Told}
use Rattle.numbers.specs.Numbers.{numbers_of, kind_in, all_within, message_of, told, write_numbers}
use Rattle.demands.specs.Demand1.{Taken, InTable, Answers, Fills, ReadsMessage, TellsMessage, numbers_in, TellsMeta, Demand1}
use Rattle.demands.proofs.Faults.{wrapper_faulty, message_faulty}
use Rattle.demands.proofs.Beside.{edit_fills, many_fills, opens, enough}

-- ---- numbers

-- a number of the list other than ROOM
abbrev pub Plain : ℕ → Type 0
Plain n = (is_number n ≡ true) × (n ≢ ROOM)

-- the outcome of a call before its room is looked at
abbrev pub Unroomed : {A : Type 0} → Outcome A → Type 0
Unroomed o = Refuses Plain o

pub plain : (n : ℕ) → is_fault n ≡ true → Plain n
plain n h = (fault_number n h, fault_no_room n h)

faulty_unroomed : {A : Type 0} (o : Outcome A) → Faulty o → Unroomed o
faulty_unroomed o h = refuses_more (λ n. is_fault n ≡ true) Plain plain o h

-- each of the checks has such a number
abbrev pub Rows : Checks → Type 0
Rows = Every (λ c. Plain c.1)

-- ---- calls that write nothing

unroomed_zero : {A : Type 0} (o : Outcome A) → Unroomed o → (r : Answer) → r ≡ verdict o → (r.number ≡ 0) ↔ Taken o
unroomed_zero (taken a) h r e = ((λ z. (a, refl)), λ t. ap (λ (x : Answer). x.number) e)
unroomed_zero {A} (refused n p) h r e = (
  (λ z. absurd (omega (arith, ap (λ (x : Answer). x.number) e, number_some n h.0))),
  λ (a, t). let z : ◌≡◌ {A = ℕ} 0 1 = cc in absurd (omega arith),
)

answers : {A : Type 0} (o : Outcome A) → Faulty o → Answers o
answers o h = record {
  faults = h;
  zero = unroomed_zero o (faulty_unroomed o h);
  takes = λ r e (a, t). ap (λ (x : Answer). x.place) (e ∙ ap verdict t);
  refuses = λ r n p e t. let q : r ≡ record { number = n; place = p } = e ∙ ap verdict t in (ap (λ (x : Answer). x.number) q, ap (λ (x : Answer). x.place) q);
  once = λ r s e f. equal_once e f;
}

-- ---- readings

-- taken and refused are told apart by the number, whatever else is answered
reading-zero : {A : Type 0} (number : A → ℕ) (made : Outcome MessageAndData → A) → ((c : MessageAndData) → number (made (taken c)) ≡ 0) → ((n p : ℕ) → number (made (refused n p)) ≡ n)
    → (o : Outcome MessageAndData) → Faulty o → (r : A) → r ≡ made o → (number r ≡ 0) ↔ Taken o
reading-zero number made t f (taken c) h r e = ((λ z. (c, refl)), λ _. ap number e ∙ t c)
reading-zero number made t f (refused n p) h r e = (
  (λ z. absurd (omega (arith, ap number e ∙ f n p, fault_some n h))),
  λ (a, q). absurd (taken_refused (sym q)),
)

reads : (o : Outcome MessageAndData) → Faulty o → ReadsMessage o
reads o h = record {
  faults = h;
  zero = reading-zero (λ r. r.number) reading (λ c. refl) (λ n p. refl) o h;
  takes = λ r c e t. let q = e ∙ ap reading t in (ap (λ (x : Reading). x.place) q, ap (λ (x : Reading). x.message) q, ap (λ (x : Reading). x.start) q, ap (λ (x : Reading). x.len) q);
  refuses = λ r n p e t. let q = e ∙ ap reading t in
      (ap (λ (x : Reading). x.number) q, ap (λ (x : Reading). x.place) q, ap (λ (x : Reading). x.message) q, ap (λ (x : Reading). x.start) q, ap (λ (x : Reading). x.len) q);
  once = λ r s e f. equal_once e f;
}

-- by tag and numbers
abbrev told_of : Outcome MessageAndData → Told
told_of o = told (reading o)

nothing-told : numbers_of Nothing ≡ record { tag = 0; a = 0; b = 0; c = 0; d = 0 }
unfolding paper
nothing-told = refl

tells : (o : Outcome MessageAndData) → Faulty o → TellsMessage o
tells o h = record {
  faults = h;
  zero = reading-zero (λ r. r.number) told_of (λ c. refl) (λ n p. refl) o h;
  takes = λ r c e t. let q = e ∙ ap told_of t in (ap (λ (x : Told). x.place) q, ap numbers_in q, ap (λ (x : Told). x.data_place) q, ap (λ (x : Told). x.data_length) q);
  refuses = λ r n p e t. let q = e ∙ ap told_of t in
      (ap (λ (x : Told). x.number) q, ap (λ (x : Told). x.place) q, ap numbers_in q ∙ nothing-told, ap (λ (x : Told). x.data_place) q, ap (λ (x : Told). x.data_length) q);
  once = λ r s e f. equal_once e f;
}

-- ---- META

-- a file that is taken answers 0 at 0, whether it has META or not
meta_zero : (at : ℕ) (l : List (List ℕ)) → ((meta_in at l).number ≡ 0) × ((meta_in at l).place ≡ 0)
unfolding meta_in
meta_zero at [] = (refl, refl)
meta_zero at (e ∷ l) = go (is_id META e) (meta_zero (at + length e) l)
  where
    go : (b : Bool) → ((meta_in (at + length e) l).number ≡ 0) × ((meta_in (at + length e) l).place ≡ 0)
        → ((cond b (meta_at (at + 16) (drop 16 e)) (meta_in (at + length e) l)).number ≡ 0) × ((cond b (meta_at (at + 16) (drop 16 e)) (meta_in (at + length e) l)).place ≡ 0)
    go true h = (refl, refl)
    go false h = h

-- what is answered of META, by the outcome of the check
abbrev meta_of : Outcome (List (List ℕ)) → MetaFields
meta_of o = as_meta (after o (λ l. taken (meta_in 16 l)))

meta_number : (o : Outcome (List (List ℕ))) → Faulty o → (r : MetaFields) → r ≡ meta_of o → (r.number ≡ 0) ↔ Taken o
meta_number (taken l) h r e = ((λ z. (l, refl)), λ _. ap (λ (m : MetaFields). m.number) e ∙ (meta_zero 16 l).0)
meta_number (refused n p) h r e = ((λ z. absurd (omega (arith, ap (λ (m : MetaFields). m.number) e, fault_some n h))), λ (a, t). absurd (taken_refused (sym t)))

tells_meta : (file : List ℕ) → TellsMeta file
tells_meta file = record {
  faults = after_faulty (file_of file) (λ l. taken (meta_in 16 l)) (file_faulty file) (λ l. tt);
  zero = meta_number (file_of file) (file_faulty file);
  takes = λ r e (l, t). ap (λ (m : MetaFields). m.place) (e ∙ ap meta_of t) ∙ (meta_zero 16 l).1;
  refuses = λ r n p e t. e ∙ ap meta_of t;
  once = λ r s e f. equal_once e f;
}

-- ---- calls that write

-- what a call is to write, or its first refusal before the room for it is looked at
pub record Core (o : ℕ → Outcome (List ℕ)) : Type 0 where
  pub core : Outcome (List ℕ)
  pub apart : Unroomed core
  pub same : (have : ℕ) → o have ≡ after core (fitting have)

-- the numbers of an answer and of what it leaves
number_is : {o : Outcome (List ℕ)} {old new : List ℕ} {r : Answer} → Writes o old r new → r.number ≡ (answer o).number
number_is w = ap (λ (a : Answer). a.number) w.answers

place_is : {o : Outcome (List ℕ)} {old new : List ℕ} {r : Answer} → Writes o old r new → r.place ≡ (answer o).place
place_is w = ap (λ (a : Answer). a.place) w.answers

refused_stays : (o : Outcome (List ℕ)) (old new : List ℕ) (r : Answer) → Writes o old r new → r.number ≢ 0 → new ≡ old
refused_stays (taken b) old new r w h = absurd (h (number_is w))
refused_stays (refused n p) old new r w h = w.leaves

-- by what is to be written and the room for it
fitted_table : (have : ℕ) (c : Outcome (List ℕ)) → Unroomed c → InTable (after c (fitting have))
fitted_table have (taken b) h = go (leb (length b) have)
  where
    go : (t : Bool) → InTable {A = List ℕ} (checked ((t, ROOM, length b) ∷ []) (taken b))
    go true = tt
    go false = refl
fitted_table have (refused n p) h = h.0

fitted_writes : (c : Outcome (List ℕ)) → Unroomed c → (old new : List ℕ) (r : Answer) → Writes (after c (fitting (length old))) old r new → r.number ≡ 0
    → (b : List ℕ) × (after c (fitting (length old)) ≡ taken b) × (length b ≤ length old) × (r.place ≡ length b) × (new ≡ b ++ drop (length b) old)
fitted_writes (taken b) h old new r w z = go (leb (length b) (length old)) refl w
  where
    go : (t : Bool) → leb (length b) (length old) ≡ t → Writes (checked ((t, ROOM, length b) ∷ []) (taken b)) old r new
        → (a : List ℕ) × (checked ((t, ROOM, length b) ∷ []) (taken b) ≡ taken a) × (length a ≤ length old) × (r.place ≡ length a) × (new ≡ a ++ drop (length a) old)
    go true e w = (b, refl, leb-true _ _ e, place_is w, w.leaves)
    go false e w = absurd (omega (arith, number_is w))
fitted_writes (refused n p) h old new r w z = absurd (omega (arith, number_is w, number_some n h.0))

fitted_room : (c : Outcome (List ℕ)) → Unroomed c → (old new : List ℕ) (r : Answer) → Writes (after c (fitting (length old))) old r new → r.number ≡ ROOM
    → (length old < r.place) × ((b : List ℕ) × (after c (fitting r.place) ≡ taken b) × (length b ≡ r.place))
fitted_room (taken b) h old new r w z = go (leb (length b) (length old)) refl w
  where
    go : (t : Bool) → leb (length b) (length old) ≡ t → Writes (checked ((t, ROOM, length b) ∷ []) (taken b)) old r new
        → (length old < r.place) × ((a : List ℕ) × (fitting r.place b ≡ taken a) × (length a ≡ r.place))
    go true e w = absurd (omega (arith, number_is w))
    go false e w =
        let p : r.place ≡ length b = place_is w in
        (omega (arith, leb-false (length b) (length old) e), (b, rw (le-leb (length b) r.place (omega arith)), sym p))
fitted_room (refused n p) h old new r w z = absurd (h.1 (sym (number_is w) ∙ z))

pub fills : (o : ℕ → Outcome (List ℕ)) → Core o → Fills o
fills o k = record {
  table = λ have. rw (k.same have) (fitted_table have k.core k.apart);
  stays = λ old new r w h. refused_stays (o (length old)) old new r w h;
  writes = λ old new r w z. rw (k.same (length old)) (fitted_writes k.core k.apart old new r (rw (k.same (length old)) at w) z);
  refuses = λ old new r n p w e. let q : r ≡ record { number = n; place = p } = w.answers ∙ ap answer e in (ap (λ (x : Answer). x.number) q, ap (λ (x : Answer). x.place) q);
  room = λ old new r w z. rw (k.same r.place) (fitted_room k.core k.apart old new r (rw (k.same (length old)) at w) z);
  once = λ old new now r s a b. writes_once a b;
}

-- ---- each of them

-- what is written of what was read
read_core : {A : Type 0} (r : Outcome A) (f : A → List ℕ) → Faulty r → Core (λ have. after r (λ a. fitting have (f a)))
read_core r f h = record { core = after r (λ a. taken (f a)); apart = after_refuses Plain r (λ a. taken (f a)) (faulty_unroomed r h) (λ a. tt); same = λ have. sym (after-after r (λ a. taken (f a)) (fitting have)) }

table_core : (rows : List (List ℕ) → List ℕ) (s : List ℕ) → Core (λ have. table rows have s)
table_core rows s = read_core (file_of s) rows (file_faulty s)

canonical_core : (s : List ℕ) → Core (λ have. canonical have s)
unfolding canonical
canonical_core s = read_core (content_at s) render (content_faulty s)

own-rows : (x : Item) → Rows (own_checks x)
own-rows (device id v f p) = (plain 12 refl, tt)
own-rows (disk id x y) = (plain 12 refl, (plain 14 refl, tt))

edit_rows : (e : Edit) (c u : Content) → Rows (edit_checks e c u)
edit_rows (add x) c u = every_append _ (own_checks x) (add_checks x c u) (own-rows x) ((refl, λ e. omega arith), (plain 12 refl, (plain 12 refl, (plain 8 refl, (plain 6 refl, tt)))))
edit_rows (remove n) c u = ((refl, λ e. omega arith), tt)
edit_rows (replace id v f p) c u = (plain 12 refl, ((refl, λ e. omega arith), (plain 12 refl, (plain 6 refl, tt))))

edit_core : (s : List ℕ) (e : Edit) → Core (λ have. edit_file have s e)
unfolding edit_file edit_to
edit_core s e =
    let rows : Content → Checks = λ c. edit_checks e c (apply e c) in
    let all : Content → Outcome (List ℕ) = λ c. checked (rows c) (taken (render (apply e c))) in
    record {
      core = after (content_at s) all;
      apart = after_refuses Plain (content_at s) all (faulty_unroomed (content_at s) (content_faulty s)) (λ c. checked_refuses Plain (rows c) (taken (render (apply e c))) (edit_rows e c (apply e c)) tt);
      same = λ have. by have (content_at s);
    }
  where
    by : (have : ℕ) (r : Outcome Content)
        → after r (λ c. checked (edit_checks e c (apply e c)) (fitting have (render (apply e c)))) ≡ after (after r (λ c. checked (edit_checks e c (apply e c)) (taken (render (apply e c))))) (fitting have)
    by have (taken c) = sym (checked-after (edit_checks e c (apply e c)) (taken (render (apply e c))) (fitting have))
    by have (refused n p) = refl

value_rows : (ok : ℕ) (cs : List Cell) → Rows (value_checks ok cs)
unfolding value_checks
value_rows ok [] = tt
value_rows ok (c ∷ cs) = (plain 15 refl, value_rows ok cs)

data_rows : (b : Body) (d : List ℕ) → Rows (data_checks b d)
data_rows Empty d = (plain 15 refl, tt)
data_rows Bytes d = tt
data_rows Text d = (plain 14 refl, tt)

write_rows : (f : Form) (d : List ℕ) → Rows (write_checks f d)
unfolding write_checks
write_rows f d = (plain 15 refl, every_append _ (value_checks (ok_of f) (cells f)) _ (value_rows (ok_of f) (cells f)) (every_append _ (data_checks f.body d) _ (data_rows f.body d) (plain 12 refl, tt)))

write_core : (k : Message) (d : List ℕ) → Core (write_message k d)
unfolding write_message
write_core k d = record {
  core = checked (write_checks (paper k) d) (taken (written k d));
  apart = checked_refuses Plain (write_checks (paper k) d) (taken (written k d)) (write_rows (paper k) d) tt;
  same = λ have. checked-append (write_checks (paper k) d) (room have (length (written k d))) (taken (written k d)) ∙ sym (checked-after (write_checks (paper k) d) (taken (written k d)) (fitting have));
}

kind_faulty : (ks : List Kind) (t : ℕ) → Faulty (kind_in ks t)
kind_faulty [] t = refl
kind_faulty (k ∷ ks) t = go (eqb t (blank k).tag) (kind_faulty ks t)
  where
    go : (b : Bool) → Faulty (kind_in ks t) → Faulty (cond b (taken k) (kind_in ks t))
    go true h = tt
    go false h = h

made_faulty : (n : Numbers) → Faulty (message_of n)
unfolding message_of
made_faulty n =
    after_faulty (kind_in kinds n.tag) (λ k. checked ((all_within (blank k) n, VALUE, 0) ∷ []) (taken (k n.a n.b n.c n.d))) (kind_faulty kinds n.tag)
    (λ k. checked_faulty ((all_within (blank k) n, VALUE, 0) ∷ []) (taken (k n.a n.b n.c n.d)) (refl, tt) tt)

numbers_core : (n : Numbers) (d : List ℕ) → Core (write_numbers n d)
unfolding write_numbers
numbers_core n d =
    record {
      core = after (message_of n) (λ k. (write_core k d).core);
      apart = after_refuses Plain (message_of n) (λ k. (write_core k d).core) (faulty_unroomed (message_of n) (made_faulty n)) (λ k. (write_core k d).apart);
      same = λ have. by have (message_of n);
    }
  where
    by : (have : ℕ) (r : Outcome Message) → after r (λ k. write_message k d have) ≡ after (after r (λ k. (write_core k d).core)) (fitting have)
    by have (taken k) = (write_core k d).same have
    by have (refused n p) = refl

-- ---- the demand

pub demand1 : Demand1
demand1 = record {
  check = λ file. answers (file_of file) (file_faulty file);
  sections = λ file. fills _ (table_core (section_rows 16 0) file);
  devices = λ file. fills _ (table_core (λ l. flat (list_rows DEVICES) (placed 16 l)) file);
  disks = λ file. fills _ (table_core (λ l. flat (list_rows DISKS) (placed 16 l)) file);
  cpus = λ file. fills _ (table_core (λ l. flat (list_rows CPUS) (placed 16 l)) file);
  mmus = λ file. fills _ (table_core (λ l. flat (list_rows MMUS) (placed 16 l)) file);
  meta = tells_meta;
  canonical = λ file. fills _ (canonical_core file);
  opens = opens;
  edit = edit_fills;
  many = many_fills;
  enough = enough;
  wrapper_check = λ wrapper. answers (wrapped.wrapper_of wrapper) (wrapper_faulty wrapper);
  controllers = λ wrapper. fills _ (read_core (wrapped.wrapper_of wrapper) (rows_at Controllers 16 (drop 16 wrapper)) (wrapper_faulty wrapper));
  wrapper_canonical = λ wrapper. fills _ (read_core (wrapped.wrapper_of wrapper) (λ _. wrapped.wrapper_bytes (sort controllers.key (wrapped.controllers_of wrapper))) (wrapper_faulty wrapper));
  message_read = λ message. reads (read_message message) (message_faulty message);
  message_write = λ message bytes. fills _ (write_core message bytes);
  numbers-read = λ message. tells (read_message message) (message_faulty message);
  numbers_write = λ n bytes. fills _ (numbers_core n bytes);
  message-of = made_faulty;
}
