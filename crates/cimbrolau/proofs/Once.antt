-- Each promise of the boundary fixes its answer and every byte of lent memory: any two that it allows are equal.
-- A promise here is that of the call behind it, so the laws are those of answers: one for calls that write nothing, one for those that write.
-- Assumes nothing.
use mathlib.Core.Path.{◌≡◌}
use mathlib.Core.List.{List}
use Prim.Native.Nat.{ℕ}
use lib.ListN.{length}
use Rattle.answer.specs.declared.Answer.{Answer}
use Rattle.answer.specs.Outcome.{Outcome}
use Rattle.answer.specs.Calls.{asked, verdict, Writes}
use Rattle.answer.proofs.Once.{equal_once, writes_once}
use Rattle.aerosnap.specs.Calls.{check_call, sections_call, devices_call, disks_call, cpus_call, mmus_call, canonical_call}
use Rattle.aerosnap.specs.Salvage.{salvage}
use Rattle.salvage.specs.declared.Salvaged.{Salvaged}
use Rattle.salvage.specs.Salvaging.{Salvages}
use Rattle.salvage.proofs.Once as rescued
use Rattle.aerosnap.specs.declared.NewDevice.{NewDevice}
use Rattle.cards.specs.declared.Card.{Card}
use Rattle.cards.specs.declared.Edited.{Edited}
use Rattle.cards.specs.Cards.{open_answer, WritesBeside}
use Rattle.cards.specs.Whole.{add_all_card}
use Rattle.cards.specs.Calls.{open_call, edit_call}
use Rattle.cards.specs.Whole.{many_card}
use Rattle.cards.proofs.Once.{beside_once}
use Rattle.aerosnap.specs.Edits.{Edit}
use Rattle.snapshot.specs.declared.MetaFields.{MetaFields}
use Rattle.snapshot.specs.MetaSection.{meta_call, as_meta}
use Rattle.dskc.specs.Wrapper as wrapped
use Rattle.messages.specs.Reading.{read_message, reading}
use Rattle.numbers.specs.declared.Numbers.{Numbers}
use Rattle.numbers.specs.declared.Told.{Told}
use Rattle.numbers.specs.Numbers.{told, write_numbers}
use Rattle.region.specs.declared.Cursors.{Cursors}
use Rattle.region.specs.Region.{region_checks}
use Rattle.region.specs.Report.{as_cursors, report_call}
use Rattle.ready.specs.declared.Readiness.{Readiness}
use Rattle.ready.specs.Missing.{ready_call, Tells}
use Rattle.ready.proofs.Once.{tells_once}
use Rattle.access.specs.declared.Access.{Access}
use Rattle.access.specs.Access.{access_of}
use Rattle.fields.specs.declared.State.TheVariants.{Cpu, Mmu}
use Rattle.fields.specs.Fields.{field_call, set_call, Changes}
use Rattle.fields.proofs.Once.{changes_once}
use Rattle.rings.specs.Calls.{Stores, as_answer, as_pair, as_record, Leaves, reserve_call, fill_call, commit_call, take_call}
use Rattle.rings.proofs.Once.{leaves_once}

-- a call that answers by a verdict on its input
abbrev Judges : {A : Type 0} → (List ℕ → Outcome A) → Type 0
Judges call = (input : List ℕ) (r s : Answer) → r ≡ verdict (call input) → s ≡ verdict (call input) → r ≡ s

-- a call that writes into one lent buffer
abbrev Fills : (ℕ → List ℕ → Outcome (List ℕ)) → Type 0
Fills call = (input old : List ℕ) (r s : Answer) (new now : List ℕ)
    → Writes (call (length old) input) old r new → Writes (call (length old) input) old s now → (r ≡ s) × (new ≡ now)

pub check_once : Judges check_call
check_once file r s e f = equal_once e f

pub sections_once : Fills sections_call
sections_once file old r s new now a b = writes_once a b

pub devices_once : Fills devices_call
devices_once file old r s new now a b = writes_once a b

pub disks_once : Fills disks_call
disks_once file old r s new now a b = writes_once a b

pub cpus_once : Fills cpus_call
cpus_once file old r s new now a b = writes_once a b

pub mmus_once : Fills mmus_call
mmus_once file old r s new now a b = writes_once a b

pub meta_once : (file : List ℕ) {r s : MetaFields} → r ≡ as_meta (meta_call file) → s ≡ as_meta (meta_call file) → r ≡ s
meta_once file e f = equal_once e f

pub canonical_once : Fills canonical_call
canonical_once file old r s new now a b = writes_once a b

pub salvage_once : (file out losses : List ℕ) (r s : Salvaged) (new now recs lines : List ℕ)
    → Salvages (salvage (length out) (length losses) file) out losses r new recs → Salvages (salvage (length out) (length losses) file) out losses s now lines → (r ≡ s) × (new ≡ now) × (recs ≡ lines)
salvage_once file out losses r s new now recs lines a b = rescued.salvage_once file out losses a b

pub open_once : (file : List ℕ) (r p : Edited) → r ≡ open_answer (open_call file) → p ≡ open_answer (open_call file) → r ≡ p
open_once file r p a b = equal_once a b

-- cimbrolau_add_device, cimbrolau_add_disk, cimbrolau_remove_device, cimbrolau_remove_disk, cimbrolau_replace_device
pub edit_once : (card : Card) (e : Edit) (file old : List ℕ) (r p : Edited) (new now : List ℕ) → WritesBeside card (edit_call (length old) card file e) old r new → WritesBeside card (edit_call (length old) card file e) old p now → (r ≡ p) × (new ≡ now)
edit_once card e file old r p new now a b = beside_once a b

pub add-devices_once : (card : Card) (table store file old : List ℕ) (r p : Edited) (new now : List ℕ) → WritesBeside card (many_card (length old) card file table store) old r new → WritesBeside card (many_card (length old) card file table store) old p now → (r ≡ p) × (new ≡ now)
add-devices_once card table store file old r p new now a b = beside_once a b

pub add-devices_of_once : (card : Card) (table : List NewDevice) (store file old : List ℕ) (r p : Edited) (new now : List ℕ) → WritesBeside card (add_all_card (length old) card file table store) old r new → WritesBeside card (add_all_card (length old) card file table store) old p now → (r ≡ p) × (new ≡ now)
add-devices_of_once card table store file old r p new now a b = beside_once a b

pub wrapper_check_once : Judges wrapped.wrapper_of
wrapper_check_once wrapper r s e f = equal_once e f

pub controllers_once : Fills wrapped.controllers_call
controllers_once wrapper old r s new now a b = writes_once a b

pub wrapper_canonical_once : Fills wrapped.wrapper_canonical_call
wrapper_canonical_once wrapper old r s new now a b = writes_once a b

pub message_read_once : (message : List ℕ) {r s : Told} → r ≡ told (reading (read_message message)) → s ≡ told (reading (read_message message)) → r ≡ s
message_read_once message e f = equal_once e f

pub message_write_once : (n : Numbers) → Fills (λ have bytes. write_numbers n bytes have)
message_write_once n bytes old r s new now a b = writes_once a b

-- a call that stores into one lent region
abbrev Stores-in : {A R : Type 0} → (Outcome (Stores × A) → R) → (List ℕ → Outcome (Stores × A)) → Type 0
Stores-in {A} {R} f call = (b : List ℕ) (r s : R) (new now : List ℕ) → Leaves f (call b) b r new → Leaves f (call b) b s now → (r ≡ s) × (new ≡ now)

pub region_check_once : Judges (λ b. asked (region_checks b))
region_check_once b r s e f = equal_once e f

pub ring_report_once : (b : List ℕ) (q : ℕ) {r s : Cursors} → r ≡ as_cursors (report_call b q) → s ≡ as_cursors (report_call b q) → r ≡ s
ring_report_once b q e f = equal_once e f

pub ring_reserve_once : (q n : ℕ) → Stores-in as_pair (λ b. reserve_call b q n)
ring_reserve_once q n b r s new now x y = leaves_once x y

pub ring_fill_once : (q start end : ℕ) (m : List ℕ) → Stores-in as_answer (λ b. fill_call b q start end m)
ring_fill_once q start end m b r s new now x y = leaves_once x y

pub ring_commit_once : (q start end : ℕ) → Stores-in as_answer (λ b. commit_call b q start end)
ring_commit_once q start end b r s new now x y = leaves_once x y

pub ring-take_once : (q : ℕ) → Stores-in as_record (λ b. take_call b q)
ring-take_once q b r s new now x y = leaves_once x y

module _ (b : List ℕ) (n i : ℕ) {r s : Answer} {new now : List ℕ} where
  pub cpu_field_once : (old : List ℕ) → Writes (field_call Cpu (length old) b n i) old r new → Writes (field_call Cpu (length old) b n i) old s now → (r ≡ s) × (new ≡ now)
  cpu_field_once old x y = writes_once x y

  pub mmu_field_once : (old : List ℕ) → Writes (field_call Mmu (length old) b n i) old r new → Writes (field_call Mmu (length old) b n i) old s now → (r ≡ s) × (new ≡ now)
  mmu_field_once old x y = writes_once x y

  pub cpu_set_once : (v : List ℕ) → Changes (length v) (set_call Cpu b n i v) b r new → Changes (length v) (set_call Cpu b n i v) b s now → (r ≡ s) × (new ≡ now)
  cpu_set_once v x y = changes_once x y

  pub mmu_set_once : (v : List ℕ) → Changes (length v) (set_call Mmu b n i v) b r new → Changes (length v) (set_call Mmu b n i v) b s now → (r ≡ s) × (new ≡ now)
  mmu_set_once v x y = changes_once x y

pub ready_once : (file old : List ℕ) {r s : Readiness} {new now : List ℕ} → Tells (ready_call (length old) file) old r new → Tells (ready_call (length old) file) old s now → (r ≡ s) × (new ≡ now)
ready_once file old x y = tells_once x y

pub access_once : (w : ℕ) {r s : Access} → r ≡ access_of w → s ≡ access_of w → r ≡ s
access_once w e f = equal_once e f
