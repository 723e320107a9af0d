-- No address failed the check that is withdrawn, and no call answers its number.
-- Assumes nothing.
use mathlib.Core.Path.{◌≡◌, refl, sym, ◌∙◌, ap}
use mathlib.Core.Logic.{◌≢◌}
use mathlib.Core.Bool.{true}
use mathlib.Core.List.{List, [], ◌∷◌}
use Prim.Native.Nat.{ℕ, ◌<◌}
use native.Mathlib.Omega.{arith}
use lib.ListN.{length}
use borrow.Author.Tests.{le-leb}
use Rattle.answer.specs.declared.Answer.{Answer}
use Rattle.answer.specs.Numbers.{SHAPE, VALUE, is_among, is_number}
use Rattle.answer.specs.Outcome.{Outcome, taken, refused, Faulty, Pass}
use Rattle.answer.specs.Calls.{verdict, answer}
use Rattle.answer.proofs.Checks.{pass-checked}
use Rattle.answer.proofs.Table.{fault_number}
use Rattle.entries.specs.Kinds.{device_of, function_of}
use Rattle.aerosnap.specs.Calls.{check_call}
use Rattle.snapshot.specs.declared.MetaFields.{MetaFields}
use Rattle.snapshot.specs.MetaSection.{meta_call, as_meta}
use Rattle.dskc.specs.Wrapper as wrapped
use Rattle.messages.specs.declared.Reading.{Reading}
use Rattle.messages.specs.Reading as messages
use Rattle.demands.specs.Demand1.{InTable, Fills}
use Rattle.demands.specs.Refusals.{withdrawn, address_check, WritesNever, Refusals}
use Rattle.demands.proofs.Demand1.{demand1}
use Rattle.cards.specs.declared.Card.{Card}
use Rattle.cards.specs.declared.Edited.{Edited}
use Rattle.cards.specs.Cards.{open_answer, answer_beside, edit_card}
use Rattle.cards.specs.Calls.{open_call}
use Rattle.fields.specs.declared.State.{State}
use Rattle.fields.specs.Fields.{set_call, stored_answer, Changes}
use Rattle.demands.proofs.Rings.{rings}
use Rattle.demands.proofs.Ready.{ready}
use Rattle.demands.proofs.Sheet.{sheet}

-- ---- addresses
device_below : (a : ℕ) → device_of a < 32
device_below a = omega arith

function_below : (a : ℕ) → function_of a < 8
function_below a = omega arith

never_fails : (a : ℕ) → Pass (address_check a)
never_fails a = (rw (le-leb (device_of a) 31 (omega (arith, device_below a)), le-leb (function_of a) 7 (omega (arith, function_below a))), tt)

-- ---- numbers
-- a number of the list is another, and so is 0
number_not : (n : ℕ) → is_number n ≡ true → n ≢ withdrawn
number_not n h e = let k : is_number withdrawn ≡ true = rw e at h in let z : ◌≡◌ {A = ℕ} 0 1 = cc in omega arith

zero_not : (n : ℕ) → n ≡ 0 → n ≢ withdrawn
zero_not n h e = omega arith

verdict_not : {A : Type 0} (o : Outcome A) → Faulty o → (r : Answer) → r ≡ verdict o → r.number ≢ withdrawn
verdict_not (taken a) h r e k = zero_not r.number (ap (λ (x : Answer). x.number) e) k
verdict_not (refused n p) h r e k = number_not n (fault_number n h) (sym (ap (λ (x : Answer). x.number) e) ∙ k)

reading_not : (o : Outcome messages.MessageAndData) → Faulty o → (r : Reading) → r ≡ messages.reading o → r.number ≢ withdrawn
reading_not (taken a) h r e k = zero_not r.number (ap (λ (x : Reading). x.number) e) k
reading_not (refused n p) h r e k = number_not n (fault_number n h) (sym (ap (λ (x : Reading). x.number) e) ∙ k)

answer_not : (o : Outcome (List ℕ)) → InTable o → (r : Answer) → r ≡ answer o → r.number ≢ withdrawn
answer_not (taken b) h r e k = zero_not r.number (ap (λ (x : Answer). x.number) e) k
answer_not (refused n p) h r e k = number_not n h (sym (ap (λ (x : Answer). x.number) e) ∙ k)

fills_not : {o : ℕ → Outcome (List ℕ)} → Fills o → WritesNever o
fills_not {o} f old new r w = answer_not (o (length old)) (f.table (length old)) r w.answers

open_not : (o : Outcome Card) → Faulty o → (r : Edited) → r ≡ open_answer o → r.number ≢ withdrawn
open_not (taken k) h r e z = zero_not r.number (ap (λ (x : Edited). x.number) e) z
open_not (refused n p) h r e z = number_not n (fault_number n h) (sym (ap (λ (x : Edited). x.number) e) ∙ z)

beside_not : (k : Card) (o : Outcome (List ℕ × Card)) → InTable o → (r : Edited) → r ≡ answer_beside k 0 o → r.number ≢ withdrawn
beside_not k (taken t) h r e z = zero_not r.number (ap (λ (x : Edited). x.number) e) z
beside_not k (refused n p) h r e z = number_not n h (sym (ap (λ (x : Edited). x.number) e) ∙ z)

-- META has the number of the file's check
meta_not : (file : List ℕ) (r : MetaFields) → r ≡ as_meta (meta_call file) → r.number ≢ withdrawn
meta_not file r e = go (check_call file) refl (demand1.check file).faults
  where
    go : (o : Outcome (List (List ℕ))) → check_call file ≡ o → Faulty o → r.number ≢ withdrawn
    go (taken l) q h = zero_not r.number (((demand1.meta file).zero r e).1 (l, q))
    go (refused n p) q h = λ k. number_not n (fault_number n h) (sym (ap (λ (m : MetaFields). m.number) ((demand1.meta file).refuses r n p e q)) ∙ k)

-- ---- fields of states

-- a set has only SHAPE and VALUE
set_not : (k : State) (s : List ℕ) (n i : ℕ) (v new : List ℕ) (r : Answer) → Changes (length v) (set_call k s n i v) s r new → r.number ≢ withdrawn
set_not k s n i v new r w = go (set_call k s n i v) refl w.answers
  where
    go : (o : Outcome (List ℕ)) → set_call k s n i v ≡ o → r ≡ stored_answer (length v) o → r.number ≢ withdrawn
    go (taken b) q e = zero_not r.number (ap (λ (x : Answer). x.number) e)
    go (refused m p) q e = λ z.
        let j : m ≡ withdrawn = sym (ap (λ (x : Answer). x.number) e) ∙ z in
        let y : is_among (SHAPE ∷ VALUE ∷ []) withdrawn ≡ true = rw j at ((sheet.setting k).numbers n i v s m p q) in
        let u : ◌≡◌ {A = ℕ} 0 1 = cc in
        omega arith

pub refusals : Refusals
refusals = record {
  device = device_below;
  function = function_below;
  never = never_fails;
  stays = λ a behind. pass-checked (address_check a) behind (never_fails a);
  gone = refl;
  check = λ file. verdict_not (check_call file) (demand1.check file).faults;
  sections = λ file. fills_not (demand1.sections file);
  devices = λ file. fills_not (demand1.devices file);
  disks = λ file. fills_not (demand1.disks file);
  cpus = λ file. fills_not (demand1.cpus file);
  mmus = λ file. fills_not (demand1.mmus file);
  meta = meta_not;
  canonical = λ file. fills_not (demand1.canonical file);
  opens = λ file. open_not (open_call file) (demand1.opens file).faults;
  edit = λ card file e old new r w. beside_not card (edit_card (length old) card file e) ((demand1.edit file e).table (length old) card) r w.answers;
  wrapper_check = λ wrapper. verdict_not (wrapped.wrapper_of wrapper) (demand1.wrapper_check wrapper).faults;
  controllers = λ wrapper. fills_not (demand1.controllers wrapper);
  wrapper_canonical = λ wrapper. fills_not (demand1.wrapper_canonical wrapper);
  message_read = λ message. reading_not (messages.read_message message) (demand1.message_read message).faults;
  message_write = λ message bytes. fills_not (demand1.message_write message bytes);
  numbers_write = λ n bytes. fills_not (demand1.numbers_write n bytes);
  ready = λ file old new r w k. number_not r.number (ready.numbers file old new r w (λ i. omega arith)) k;
  region_check = λ b r e k. let z = (rings.calls.check b r e).else (λ i. omega arith) in omega arith;
  report = λ b q r e k. let z = (rings.calls.report b q r e).else (λ i. omega arith) in omega arith;
  reserve = λ b q n new r w k. let z = rw k at ((rings.calls.reserve q n).stays b new r w (λ i. omega arith)).0 in let y : ◌≡◌ {A = ℕ} 0 1 = cc in omega arith;
  fill = λ b q start end m new r w k. let z = rw k at ((rings.calls.fill q start end m).stays b new r w (λ i. omega arith)).0 in let y : ◌≡◌ {A = ℕ} 0 1 = cc in omega arith;
  commit = λ b q start end new r w k. let z = rw k at ((rings.calls.commit q start end).stays b new r w (λ i. omega arith)).0 in let y : ◌≡◌ {A = ℕ} 0 1 = cc in omega arith;
  take = λ b q new r w k. let z = rw k at ((rings.calls.take q).stays b new r w (λ i. omega arith)).0 in let y : ◌≡◌ {A = ℕ} 0 1 = cc in omega arith;
  field = λ k s n i. fills_not ((sheet.reading k).fills s n i);
  set = set_not;
}
