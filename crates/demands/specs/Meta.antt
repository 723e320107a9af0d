-- What META says of a snapshot, as `snapshot::meta` and `cimbrolau_meta` answer it: with request 6, for those who show a file.
-- They are statements only; proofs/ has their proofs. The call stands in crates/snapshot/specs (MetaSection), META's payload in crates/aerosnap/specs (Payloads).
-- Assumes nothing.
use Rattle.std.specs.Prelude.{◌≡◌, ◌↔◌, ◌⊎◌, List, [], ◌∷◌, ◌++◌, ℕ, ◌≤◌, length, take, drop}
use Rattle.answer.specs.Outcome.{taken}
use Rattle.wire.specs.Numbers.{le}
use Rattle.utf8.specs.Grammar.{Text}
use Rattle.order.specs.Keyed.{keep}
use Rattle.aerosnap.specs.Known.{META}
use Rattle.aerosnap.specs.Content.{is_id, content_at}
use Rattle.aerosnap.specs.Calls.{check_call}
use Rattle.snapshot.specs.declared.MetaFields.{MetaFields}
use Rattle.snapshot.specs.MetaSection.{silent, meta_call, as_meta}

-- the promise of snapshot::meta and cimbrolau_meta, for the file s
abbrev pub MetaAnswer : List ℕ → MetaFields → Type 0
MetaAnswer s r = r ≡ as_meta (meta_call s)

-- the file s is taken, and e is its section META
abbrev pub HasMeta : List ℕ → List ℕ → Type 0
HasMeta s e = (l : List (List ℕ)) × (check_call s ≡ taken l) × (keep (is_id META) l ≡ e ∷ [])

-- the bytes b are a u64 that may be there, a byte 0, or a byte 1 and its 8 bytes; and what is answered of it
abbrev pub MayNumber : List ℕ → ℕ → ℕ → Type 0
MayNumber b has n = ((b ≡ 0 ∷ []) × (has ≡ 0) × (n ≡ 0)) ⊎ ((x : List ℕ) × (b ≡ 1 ∷ x) × (length x ≡ 8) × (has ≡ 1) × (n ≡ le x))

-- they are a label that may be there, a byte 0, or a byte 1, a u32 length and as many bytes of UTF-8, at most 4096; place and length name these in the file s
abbrev pub MayLabel : List ℕ → List ℕ → ℕ → ℕ → ℕ → Type 0
MayLabel s b has place long =
    ((b ≡ 0 ∷ []) × (has ≡ 0) × (place ≡ 0) × (long ≡ 0))
    ⊎ ((n : List ℕ) × (x : List ℕ) × (b ≡ 1 ∷ (n ++ x)) × (length n ≡ 4) × (le n ≡ length x) × (length x ≤ 4096) × Text x × (has ≡ 1) × (long ≡ length x) × (take long (drop place s) ≡ x))

-- r says what the section e of the file s says: u64 id; a parent's u64 id or none; u64 time; a label or none; and a tail, of which nothing is answered
pub record SaysMeta (s e : List ℕ) (r : MetaFields) : Type 0 where
  pub there : (r.number ≡ 0) × (r.place ≡ 0) × (r.present ≡ 1)
  pub id : List ℕ
  pub parent : List ℕ
  pub time : List ℕ
  pub label : List ℕ
  pub tail : List ℕ
  pub bytes : drop 16 e ≡ id ++ (parent ++ (time ++ (label ++ tail)))
  pub id_is : (length id ≡ 8) × (r.id ≡ le id)
  pub parent_is : MayNumber parent r.has_parent r.parent
  pub time_is : (length time ≡ 8) × (r.time ≡ le time)
  pub label_is : MayLabel s label r.has_label r.label_place r.label_length

-- all that is answered but where the label stands
abbrev pub unplaced : MetaFields → MetaFields
unplaced r = record { number = r.number; present = r.present; place = r.place; id = r.id; has_parent = r.has_parent; has_label = r.has_label; parent = r.parent; time = r.time; label_place = 0; label_length = r.label_length }

pub record Meta : Type 0 where
  -- present exactly if the file is taken and has META, and that is said by 1 or 0
  pub present : (s : List ℕ) (r : MetaFields) → MetaAnswer s r → (r.present ≡ 1) ↔ ((e : List ℕ) × HasMeta s e)
  pub yes_or_no : (s : List ℕ) (r : MetaFields) → MetaAnswer s r → (r.present ≡ 0) ⊎ (r.present ≡ 1)
  -- then each field is the section's, and the label's place and length name its bytes in the file
  pub says : (s e : List ℕ) (r : MetaFields) → MetaAnswer s r → HasMeta s e → SaysMeta s e r
  -- a file that is taken has one META or none; where it has none, all that is answered is 0
  pub one_or_none : (s : List ℕ) (l : List (List ℕ)) → check_call s ≡ taken l → (keep (is_id META) l ≡ []) ⊎ ((e : List ℕ) × (keep (is_id META) l ≡ e ∷ []))
  pub none : (s : List ℕ) (l : List (List ℕ)) (r : MetaFields) → MetaAnswer s r → check_call s ≡ taken l → keep (is_id META) l ≡ [] → r ≡ silent 0 0
  -- files with the same content have the same META, and the same is answered but for where the label stands
  pub kept : (s t e : List ℕ) → content_at s ≡ content_at t → HasMeta s e → HasMeta t e
  pub same : (s t : List ℕ) (r q : MetaFields) → content_at s ≡ content_at t → MetaAnswer s r → MetaAnswer t q → unplaced r ≡ unplaced q
