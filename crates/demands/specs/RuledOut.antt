-- Wrong answers that the promises rule out, as document 01 lists them: each is a program that would meet the promise of a call and still be of no use. There is none.
-- Assumes nothing.
use Rattle.std.specs.Prelude.{◌≡◌, ◌≢◌, List, [], ◌∷◌, ℕ, ◌<◌, length, take}
use Rattle.answer.specs.declared.Answer.{Answer}
use Rattle.answer.specs.Outcome.{Outcome, taken}
use Rattle.answer.specs.Calls.{verdict, Writes}
use Rattle.aerosnap.specs.Content.{content_at, IsCanonical}
use Rattle.aerosnap.specs.Adding.{Item, Wide}
use Rattle.aerosnap.specs.Edits.{Edit, add}
use Rattle.aerosnap.specs.Calls.{check_call, canonical_call}
use Rattle.cards.specs.declared.Card.{Card}
use Rattle.cards.specs.declared.Edited.{Edited}
use Rattle.cards.specs.Cards.{edit_card, WritesBeside}
use Rattle.dskc.specs.Wrapper as wrapped
use Rattle.kinds.specs.declared.Message.{Message}
use Rattle.messages.specs.declared.Reading.{Reading}
use Rattle.messages.specs.Reading.{read_message, reading}
use Rattle.messages.specs.Writing.{write_message}
use Rattle.numbers.specs.declared.Numbers.{Numbers}
use Rattle.numbers.specs.Numbers.{write_numbers}

-- a program that writes: what it answers, and what it leaves in the lent memory; it meets the promise of a call
pub record Program {I : Type 0} (call : ℕ → I → Outcome (List ℕ)) : Type 0 where
  pub answers : I → List ℕ → Answer
  pub leaves : I → List ℕ → List ℕ
  pub meets : (i : I) (old : List ℕ) → Writes (call (length old) i) old (answers i old) (leaves i old)

module _ {I : Type 0} {call : ℕ → I → Outcome (List ℕ)} (P : Program call) where
  -- it takes its input
  abbrev pub Takes : I → List ℕ → Type 0
  Takes i old = (P.answers i old).number ≡ 0

  -- what it wrote: as many bytes as it says
  abbrev pub output : I → List ℕ → List ℕ
  output i old = take (P.answers i old).place (P.leaves i old)

-- no program for a call refuses everything, writes one fixed output, copies its input, or makes a length up
pub record Useful {I : Type 0} (call : ℕ → I → Outcome (List ℕ)) (input : I → List ℕ) : Type 0 where
  pub refuses_everything : (P : Program call) → ((i : I) (old : List ℕ) → (P.answers i old).number ≢ 0) → ⊥
  pub one_fixed_output : (P : Program call) (fixed : List ℕ) → ((i : I) (old : List ℕ) → Takes P i old → output P i old ≡ fixed) → ⊥
  pub copies_its_input : (P : Program call) → ((i : I) (old : List ℕ) → Takes P i old → output P i old ≡ input i) → ⊥
  pub made_up_length : (P : Program call) (i : I) (old b : List ℕ) → call (length old) i ≡ taken b → Takes P i old × ((P.answers i old).place ≡ length b) × (output P i old ≡ b)

pub record RuledOut : Type 0 where
  -- a reader that refuses everything: of files, of wrappers, of messages
  pub reader : (read : List ℕ → Answer) → ((file : List ℕ) → read file ≡ verdict (check_call file)) → ((file : List ℕ) → (read file).number ≢ 0) → ⊥
  pub wrapper_reader : (read : List ℕ → Answer) → ((wrapper : List ℕ) → read wrapper ≡ verdict (wrapped.wrapper_of wrapper)) → ((wrapper : List ℕ) → (read wrapper).number ≢ 0) → ⊥
  pub message_reader : (read : List ℕ → Reading) → ((message : List ℕ) → read message ≡ reading (read_message message)) → ((message : List ℕ) → (read message).number ≢ 0) → ⊥
  -- a writer of files, of wrappers, of messages by their kind or by their numbers
  pub canonical : Useful canonical_call (λ file. file)
  pub wrapper_canonical : Useful wrapped.wrapper_canonical_call (λ wrapper. wrapper)
  pub message_write : Useful (λ have (i : Message × List ℕ). write_message i.0 i.1 have) (λ i. i.1)
  pub numbers_write : Useful (λ have (i : Numbers × List ℕ). write_numbers i.0 i.1 have) (λ i. i.1)

-- ---- edits beside a card

-- a program for the calls that edit: by the card, the file, the edit and the lent memory, its answer and the memory afterwards
pub record EditProgram : Type 0 where
  pub answers : Card → List ℕ → Edit → List ℕ → Edited
  pub leaves : Card → List ℕ → Edit → List ℕ → List ℕ
  pub meets : (k : Card) (s : List ℕ) (e : Edit) (old : List ℕ) → WritesBeside k (0, edit_card (length old) k s e) old (answers k s e old) (leaves k s e old)

module _ (P : EditProgram) where
  -- it takes the edit
  abbrev pub TakesEdit : Card → List ℕ → Edit → List ℕ → Type 0
  TakesEdit k s e old = (P.answers k s e old).number ≡ 0

  -- the file that it wrote
  abbrev pub edit_output : Card → List ℕ → Edit → List ℕ → List ℕ
  edit_output k s e old = take (P.answers k s e old).place (P.leaves k s e old)

  -- adding items one after another, each with lent memory of its own: the program takes them all, and leads from the file s and the card k to the file b
  abbrev pub RunsBeside : List ℕ → Card → List (List ℕ × Item) → List ℕ → Type 0
  RunsBeside s k [] b = s ≡ b
  RunsBeside s k (q ∷ l) b = Wide q.1 × TakesEdit k s (add q.1) q.0 × RunsBeside (edit_output k s (add q.1) q.0) (P.answers k s (add q.1) q.0).card l b

pub record RuledOutBeside : Type 0 where
  -- a program that refuses everything, writes one fixed output, copies its input, or hands every card back as it was
  pub refuses_everything : (P : EditProgram) → ((k : Card) (s : List ℕ) (e : Edit) (old : List ℕ) → (P.answers k s e old).number ≢ 0) → ⊥
  pub one_fixed_output : (P : EditProgram) (fixed : List ℕ) → ((k : Card) (s : List ℕ) (e : Edit) (old : List ℕ) → TakesEdit P k s e old → edit_output P k s e old ≡ fixed) → ⊥
  pub copies_its_input : (P : EditProgram) → ((k : Card) (s : List ℕ) (e : Edit) (old : List ℕ) → TakesEdit P k s e old → edit_output P k s e old ≡ s) → ⊥
  pub same_card : (P : EditProgram) → ((k : Card) (s : List ℕ) (e : Edit) (old : List ℕ) → TakesEdit P k s e old → (P.answers k s e old).card ≡ k) → ⊥
  -- or makes a length or a card up
  pub made_up : (P : EditProgram) (k : Card) (s : List ℕ) (e : Edit) (old b : List ℕ) (j : Card) → edit_card (length old) k s e ≡ taken (b, j)
      → TakesEdit P k s e old × ((P.answers k s e old).place ≡ length b) × (edit_output P k s e old ≡ b) × ((P.answers k s e old).card ≡ j)
  -- an add that does nothing: the file that it writes is another, and has another content
  pub does_nothing : (P : EditProgram) (k : Card) (s : List ℕ) (x : Item) (old : List ℕ) → Wide x → TakesEdit P k s (add x) old → content_at (edit_output P k s (add x) old) ≢ content_at s
  -- a chain of adds whose first writes the final file and whose later ones merely pass it on: each file is longer than the one before it
  pub longer : (P : EditProgram) (k : Card) (s : List ℕ) (x : Item) (old : List ℕ) → IsCanonical s → Wide x → TakesEdit P k s (add x) old → length s < length (edit_output P k s (add x) old)
  pub passed_on : (P : EditProgram) (k : Card) (s b : List ℕ) (p q : List ℕ × Item) (l : List (List ℕ × Item)) → IsCanonical s → RunsBeside P s k (p ∷ q ∷ l) b → edit_output P k s (add p.1) p.0 ≢ b
