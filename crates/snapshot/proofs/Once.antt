-- Each promise fixes its answer and every byte of lent memory: any two that it allows are equal. Those of the calls that write are the promises of crates canon, salvage and edits, whose laws serve here too.
-- Assumes nothing.
use mathlib.Core.Path.{◌≡◌}
use mathlib.Core.List.{List}
use lib.ListN.{length}
use Prim.Native.Nat.{ℕ}
use Rattle.answer.specs.declared.Answer.{Answer}
use Rattle.answer.specs.Calls.{verdict, Writes}
use Rattle.answer.proofs.Once.{equal_once, writes_once}
use Rattle.aerosnap.specs.Calls.{check_call, sections_call, devices_call, disks_call, cpus_call, mmus_call}
use Rattle.snapshot.specs.declared.MetaFields.{MetaFields}
use Rattle.snapshot.specs.MetaSection.{meta_call, as_meta}

pub check_once : (file : List ℕ) {r p : Answer} → r ≡ verdict (check_call file) → p ≡ verdict (check_call file) → r ≡ p
check_once file a b = equal_once a b

pub sections_once : (file old : List ℕ) {new now : List ℕ} {r p : Answer}
    → Writes (sections_call (length old) file) old r new → Writes (sections_call (length old) file) old p now → (r ≡ p) × (new ≡ now)
sections_once file old a b = writes_once a b

pub devices_once : (file old : List ℕ) {new now : List ℕ} {r p : Answer}
    → Writes (devices_call (length old) file) old r new → Writes (devices_call (length old) file) old p now → (r ≡ p) × (new ≡ now)
devices_once file old a b = writes_once a b

pub disks_once : (file old : List ℕ) {new now : List ℕ} {r p : Answer}
    → Writes (disks_call (length old) file) old r new → Writes (disks_call (length old) file) old p now → (r ≡ p) × (new ≡ now)
disks_once file old a b = writes_once a b

pub cpus_once : (file old : List ℕ) {new now : List ℕ} {r p : Answer}
    → Writes (cpus_call (length old) file) old r new → Writes (cpus_call (length old) file) old p now → (r ≡ p) × (new ≡ now)
cpus_once file old a b = writes_once a b

pub mmus_once : (file old : List ℕ) {new now : List ℕ} {r p : Answer}
    → Writes (mmus_call (length old) file) old r new → Writes (mmus_call (length old) file) old p now → (r ≡ p) × (new ≡ now)
mmus_once file old a b = writes_once a b

pub meta_once : (file : List ℕ) {r p : MetaFields} → r ≡ as_meta (meta_call file) → p ≡ as_meta (meta_call file) → r ≡ p
meta_once file a b = equal_once a b
