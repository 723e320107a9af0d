-- Request 4 of document 02, fields from newer savers: what stands behind META's last field and behind the last entry of a list is a tail; longer CPU states.
-- They are statements only; proofs/ has their proofs. What a list is stands in crates/lists/specs (Lists), a content in crates/aerosnap/specs (Content), states in crates/entries/specs (States).
-- Assumes nothing.
use Rattle.std.specs.Prelude.{◌≡◌, ◌≢◌, true, false, List, [], ◌∷◌, ◌++◌, ℕ, ◌+◌, ◌<◌, length}
use Rattle.answer.specs.Numbers.{SHAPE}
use Rattle.answer.specs.Outcome.{taken, refused}
use Rattle.wire.specs.Numbers.{le, le_at}
use Rattle.format.specs.Format.{Is, read}
use Rattle.entries.specs.declared.Kind.{Kind}
use Rattle.entries.specs.declared.Kind.TheVariants.{Controllers}
use Rattle.entries.specs.Code.{describe}
use Rattle.entries.specs.States.{cpu_state, cpu_whole, held_state}
use Rattle.lists.specs.Lists.{list_at, entries, tail_of, list_bytes, IsList}
use Rattle.aerosnap.specs.declared.Side.{Side}
use Rattle.aerosnap.specs.Known.{META}
use Rattle.aerosnap.specs.Payloads.{meta_form, meta, payload}
use Rattle.aerosnap.specs.File.{id_of}
use Rattle.aerosnap.specs.Content.{framed, listed, tidy, Content, id_at, entries_at, tail_at, content_at}
use Rattle.aerosnap.specs.Adding.{Item, Name, side_of, grown}
use Rattle.aerosnap.specs.Edits.{stands, Edit, remove, apply}
use Rattle.aerosnap.specs.Calls.{canonical_call}

-- ---- bytes behind the last field

pub record Taking : Type 0 where
  -- whatever follows a list of a kind that may have a tail: it is taken, has the same entries, and has that behind its own tail
  pub list : (k : Kind) → (describe k).closed ≡ false → (s t : List ℕ) → IsList (describe k) s
      → IsList (describe k) (s ++ t) × (entries (describe k) (s ++ t) ≡ entries (describe k) s) × (tail_of (describe k) (s ++ t) ≡ tail_of (describe k) s ++ t)
  -- whatever follows META's last field
  pub meta_tail : (x t : List ℕ) → Is meta_form x → payload meta (x ++ t) ≡ taken tt
  -- the controllers of a wrapper have none
  pub closed : (s : List ℕ) (l : List ℕ) → list_at (describe Controllers) s ≡ taken l → tail_of (describe Controllers) s ≡ []

-- ---- kept in canonical form, and part of the content

pub record Keeping : Type 0 where
  -- META is copied, its tail too
  pub meta_kept : (e : List ℕ) → id_of e ≡ META → tidy e ≡ e ∷ []
  -- a list is written with its tail behind its entries; so is one with no entries but a tail, with its own version
  pub written : (id v : ℕ) (l : List (List ℕ)) (b : ℕ) (t : List ℕ) → listed id v l (b ∷ t) ≡ framed id v 0 (list_bytes l ++ (b ∷ t)) ∷ []
  -- one with neither is not
  pub absent : (id v : ℕ) → listed id v [] [] ≡ []
  -- files with one canonical form have the same tails
  pub part : (have : ℕ) (s t b : List ℕ) (c d : Content) (i : Side) → canonical_call have s ≡ taken b → canonical_call have t ≡ taken b → content_at s ≡ taken c → content_at t ≡ taken d → tail_at i c ≡ tail_at i d

-- ---- edits read it as old content

pub record OldContent : Type 0 where
  -- every edit keeps the tails
  pub stays : (e : Edit) (c : Content) (i : Side) → tail_at i (apply e c) ≡ tail_at i c
  -- and so do adds in every order
  pub adds : (c : Content) (l : List Item) (i : Side) → tail_at i (grown c l) ≡ tail_at i c
  -- removal of the last entry keeps a section that has a tail
  pub last : (s : List ℕ) (n : Name) (c : Content) → content_at s ≡ taken c → stands n c ≡ true → length (entries_at (side_of n) c) ≡ 1 → (b : ℕ) (t : List ℕ) → tail_at (side_of n) c ≡ b ∷ t
      → listed (id_at (side_of n)) 1 (entries_at (side_of n) (apply (remove n) c)) (tail_at (side_of n) (apply (remove n) c)) ≡ framed (id_at (side_of n)) 1 0 (list_bytes [] ++ (b ∷ t)) ∷ []

-- ---- CPU states of version 2 above 1191 bytes

pub record Longer : Type 0 where
  -- one that is taken has 1187 bytes and as many as its extension's length says
  pub says : (e : List ℕ) → 1191 < length e → cpu_whole 2 e ≡ taken tt → length e ≡ 1187 + le_at 4 e 1183
  -- else its length is wrong: at its start, and in CPUS at its length, once it fits
  pub wrong : (e : List ℕ) → 1191 < length e → length e ≢ 1187 + le_at 4 e 1183 → cpu_whole 2 e ≡ refused SHAPE 0
  pub held_wrong : (x e rest : List ℕ) → length x ≡ 4 → le x ≡ length e → 1191 < length e → length e ≢ 1187 + le_at 4 e 1183 → read (held_state 2) (x ++ (e ++ rest)) ≡ refused SHAPE 0
  -- VALUE at 1183 only in states of 1191 bytes
  pub value : (v : ℕ) (e : List ℕ) (m : ℕ) → cpu_state v e ≡ refused m 1183 → length e ≡ 1191

pub record Tails : Type 0 where
  pub taking : Taking
  pub keeping : Keeping
  pub editing : OldContent
  pub longer : Longer
