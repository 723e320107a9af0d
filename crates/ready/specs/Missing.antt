-- Ready to restore? What a panel needs of a snapshot's content, what of it is missing, and the call.
-- Assumes nothing.
use Rattle.std.specs.Prelude.{◌≡◌, Result, Ok, Err, List, [], ◌∷◌, ◌++◌, Bool, true, false, ◌||◌, cond, ℕ, length, drop, eqb}
use Rattle.answer.specs.declared.Fault.{Fault}
use Rattle.answer.specs.Refusals.{number_of}
use Rattle.answer.specs.Outcome.{Outcome, taken, refused, after, fitting}
use Rattle.answer.specs.Calls.{memory}
use Rattle.wire.specs.Numbers.{bytes_of}
use Rattle.order.specs.Keyed.{flat, keep, has}
use Rattle.entries.specs.Kinds.{id_key}
use Rattle.aerosnap.specs.Content.{Content, content_at}
use Rattle.dskc.specs.Wrapper.{wrapper_of}
use Rattle.ready.specs.declared.Readiness.{Readiness}

-- ---- what is needed

-- an entry, of a device or of a disk, has the id, whatever else it holds: a device's version and flags and a disk's paths are free
abbrev pub has_id : ℕ → List (List ℕ) → Bool
has_id = has id_key

-- the entries that have it
abbrev pub with_id : ℕ → List (List ℕ) → List (List ℕ)
with_id id = keep (λ e. eqb (id_key e) id)

-- the outcome is no refusal
abbrev pub is_taken : {A : Type 0} → Outcome A → Bool
is_taken (taken a) = true
is_taken (refused n p) = false

-- a device's payload is an accepted wrapper
abbrev pub wraps : List ℕ → Bool
wraps e = is_taken (wrapper_of (drop 16 e))

-- exactly one entry, and its payload is one
abbrev pub one_wrapper : List (List ℕ) → Bool
one_wrapper [] = false
one_wrapper (e ∷ []) = wraps e
one_wrapper (e ∷ f ∷ l) = false

-- Something that is needed: the pair that names it, and whether a content has it.
pub record Need : Type 0 where
  pub part : ℕ
  pub id : ℕ
  pub there : Content → Bool

-- 1 stands for a device, 2 for a disk
abbrev pub wanted_device : ℕ → Need
wanted_device id = record { part = 1; id = id; there = λ c. has_id id c.devices }

abbrev pub wanted_disk : ℕ → Need
wanted_disk id = record { part = 2; id = id; there = λ c. has_id id c.disks }

-- exactly one device with id 6, its payload an accepted wrapper
abbrev pub wanted_wrapper : Need
wanted_wrapper = record { part = 1; id = 6; there = λ c. one_wrapper (with_id 6 c.devices) }

-- an interrupt controller, 2 or 21; 21 stands for both
abbrev pub wanted_controller : Need
wanted_controller = record { part = 1; id = 21; there = λ c. has_id 2 c.devices || has_id 21 c.devices }

-- PIT 3, RTC 4, the wrapper, i8042 13, ACPI PM 16, HPET 17, an interrupt controller; disks 0 and 1. The pairs ascend
abbrev pub wanted : List Need
wanted = wanted_device 3 ∷ wanted_device 4 ∷ wanted_wrapper ∷ wanted_device 13 ∷ wanted_device 16 ∷ wanted_device 17 ∷ wanted_controller ∷ wanted_disk 0 ∷ wanted_disk 1 ∷ []

-- ---- what is missing

abbrev pub name_in : Need → ℕ × ℕ
name_in n = (n.part, n.id)

-- the pair of what a content lacks
abbrev pub lacking : Content → Need → List (ℕ × ℕ)
lacking c n = cond (n.there c) [] (name_in n ∷ [])

abbrev pub missing : Content → List (ℕ × ℕ)
missing c = flat (lacking c) wanted

-- a pair as bytes, two u32
abbrev pub pair_bytes : ℕ × ℕ → List ℕ
pair_bytes p = bytes_of 4 p.0 ++ bytes_of 4 p.1

abbrev pub pairs_bytes : List (ℕ × ℕ) → List ℕ
pairs_bytes = flat pair_bytes

-- ---- the call

-- the file's faults, then ROOM for the list; `have` is the length of the lent list
unfoldable pub ready_call : ℕ → List ℕ → Outcome (List ℕ)
ready_call have file = after (content_at file) (λ c. fitting have (pairs_bytes (missing c)))

-- number and place as those of a call that writes; yes is 1 where nothing is missing, and 0 beside a list and beside a refusal
abbrev pub as_readiness : Outcome (List ℕ) → Readiness
as_readiness (taken []) = record { number = 0; ready = 1; place = 0 }
as_readiness (taken (x ∷ b)) = record { number = 0; ready = 0; place = length (x ∷ b) }
as_readiness (refused n p) = record { number = n; ready = 0; place = p }

-- what the code's own answer stands for: how many bytes of the list are written, none for a yes
abbrev pub list_answer : Result ℕ Fault → Readiness
list_answer (Ok n) = record { number = 0; ready = cond (eqb n 0) 1 0; place = n }
list_answer (Err f) = record { number = number_of f.0; ready = 0; place = f.1 }

-- the promise: the answer r, and `new` in the lent list that held `old`
pub record Tells (o : Outcome (List ℕ)) (old : List ℕ) (r : Readiness) (new : List ℕ) : Type 0 where
  pub answers : r ≡ as_readiness o
  pub leaves : new ≡ memory o old
