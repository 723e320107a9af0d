-- Each promise fixes its answer: any two that it allows are equal.
-- Assumes nothing.
use mathlib.Core.Path.{◌≡◌}
use mathlib.Core.Bool.{Bool}
use mathlib.Core.List.{List}
use Prim.Native.Nat.{ℕ, ◌+◌, ◌*◌}
use lib.ListN.{length, take, drop}
use Rattle.std.proofs.Common.{Result}
use Rattle.answer.specs.declared.Fault.{Fault}
use Rattle.answer.specs.Outcome.{moved}
use Rattle.answer.specs.Calls.{outcome_of, asked}
use Rattle.answer.proofs.Once.{equal_once, outcome_once}
use Rattle.format.specs.Format.{span}
use Rattle.format.specs.Places.{read_at}
use Rattle.format.proofs.Once.{read_once}
use Rattle.entries.specs.declared.Kind.{Kind}
use Rattle.entries.specs.States.{cpu_sized, cpu_whole, mmu_length}
use Rattle.entries.specs.Kinds.{lead_checks, devices}
use Rattle.entries.specs.Code.{describe}

pub most_once : (k : Kind) {r p : ℕ} → r ≡ (describe k).most → p ≡ (describe k).most → r ≡ p
most_once k e f = equal_once e f

pub closed_once : (k : Kind) {r p : Bool} → r ≡ (describe k).closed → p ≡ (describe k).closed → r ≡ p
closed_once k e f = equal_once e f

pub cpu_sized_once : (v : ℕ) (s : List ℕ) {r p : Bool} → r ≡ cpu_sized v s → p ≡ cpu_sized v s → r ≡ p
cpu_sized_once v s e f = equal_once e f

pub cpu_state_once : (v : ℕ) (s : List ℕ) (r p : Result (Unit {0}) Fault) → outcome_of r ≡ cpu_whole v s → outcome_of p ≡ cpu_whole v s → r ≡ p
cpu_state_once v s r p e f = outcome_once r p (equal_once e f)

pub mmu_length_once : (v : ℕ) {r p : ℕ} → r ≡ mmu_length v → p ≡ mmu_length v → r ≡ p
mmu_length_once v e f = equal_once e f

pub lead_once : (k : Kind) (b : List ℕ) (r p : Result (Unit {0}) Fault) → outcome_of r ≡ asked (lead_checks (describe k) b) → outcome_of p ≡ asked (lead_checks (describe k) b) → r ≡ p
lead_once k b r p e f = outcome_once r p (equal_once e f)

pub lead_at_once : (k : Kind) (s : List ℕ) (at : ℕ) (r p : Result (Unit {0}) Fault)
    → outcome_of r ≡ moved at (asked (lead_checks (describe k) (drop at s))) → outcome_of p ≡ moved at (asked (lead_checks (describe k) (drop at s))) → r ≡ p
lead_at_once k s at r p e f = outcome_once r p (equal_once e f)

-- `key_of`, and `key_at` of the bytes from its place on
pub key_once : (k : Kind) (b : List ℕ) {r p : ℕ} → r ≡ (describe k).key b → p ≡ (describe k).key b → r ≡ p
key_once k b e f = equal_once e f

pub entry_once : (k : Kind) (s : List ℕ) (at : ℕ) (r p : Result ℕ Fault) → outcome_of r ≡ read_at (describe k).form s at → outcome_of p ≡ read_at (describe k).form s at → r ≡ p
entry_once k s at r p e f = read_once (describe k).form s at r p e f

pub length_once : (k : Kind) (s : List ℕ) (at : ℕ) {r p : ℕ}
    → r ≡ length (take (span (describe k).form (drop at s)) (drop at s)) → p ≡ length (take (span (describe k).form (drop at s)) (drop at s)) → r ≡ p
length_once k s at e f = equal_once e f

pub device_key_once : (id version flags : ℕ) {r q : ℕ} → r ≡ (id * 65536 + version) * 65536 + flags → q ≡ (id * 65536 + version) * 65536 + flags → r ≡ q
device_key_once id version flags e f = equal_once e f

pub device_once : (s : List ℕ) (at : ℕ) (r p : Result ℕ Fault) → outcome_of r ≡ read_at devices.form s at → outcome_of p ≡ read_at devices.form s at → r ≡ p
device_once s at r p e f = read_once devices.form s at r p e f

pub device_length_once : (s : List ℕ) (at : ℕ) {r p : ℕ}
    → r ≡ length (take (span devices.form (drop at s)) (drop at s)) → p ≡ length (take (span devices.form (drop at s)) (drop at s)) → r ≡ p
device_length_once s at e f = equal_once e f
