-- What META says of a snapshot, as the call `meta` hands it out.
-- Assumes nothing.
use Rattle.std.specs.Prelude.{List, [], ◌∷◌, Bool, cond, ℕ, ◌+◌, eqb, length, drop}
use Rattle.answer.specs.Outcome.{Outcome, taken, refused, after}
use Rattle.wire.specs.Numbers.{le_at}
use Rattle.aerosnap.specs.Known.{META}
use Rattle.aerosnap.specs.File.{file_of}
use Rattle.aerosnap.specs.Content.{is_id}
use Rattle.snapshot.specs.declared.MetaFields.{MetaFields}

-- a refusal, or a file that has no META: all else is 0
abbrev pub silent : ℕ → ℕ → MetaFields
silent n p = record { number = n; present = 0; place = p; id = 0; has_parent = 0; has_label = 0; parent = 0; time = 0; label_place = 0; label_length = 0 }

-- whether the byte at a place says that nothing follows it
abbrev pub absent : List ℕ → ℕ → Bool
absent b at = eqb (le_at 1 b at) 0

-- where the time stands: behind the id, the byte for a parent, and the parent
abbrev pub time_in : List ℕ → ℕ
time_in b = cond (absent b 8) 9 17

-- where the byte for a label stands; if it is 1, the label's u32 length and the label stand behind it
abbrev pub label_in : List ℕ → ℕ
label_in b = time_in b + 8

-- the payload b of META, which stands at a place of the file
abbrev pub meta_at : ℕ → List ℕ → MetaFields
meta_at at b = record {
  number = 0;
  present = 1;
  place = 0;
  id = le_at 8 b 0;
  has_parent = cond (absent b 8) 0 1;
  has_label = cond (absent b (label_in b)) 0 1;
  parent = cond (absent b 8) 0 (le_at 8 b 9);
  time = le_at 8 b (time_in b);
  label_place = cond (absent b (label_in b)) 0 (at + (label_in b + 5));
  label_length = cond (absent b (label_in b)) 0 (le_at 4 b (label_in b + 1));
}

-- META among sections, the first of them at a place
unfoldable pub meta_in : ℕ → List (List ℕ) → MetaFields
meta_in at [] = silent 0 0
meta_in at (e ∷ l) = cond (is_id META e) (meta_at (at + 16) (drop 16 e)) (meta_in (at + length e) l)

-- the whole file is checked first
abbrev pub meta_call : List ℕ → Outcome MetaFields
meta_call s = after (file_of s) (λ l. taken (meta_in 16 l))

abbrev pub as_meta : Outcome MetaFields → MetaFields
as_meta (taken m) = m
as_meta (refused n p) = silent n p
