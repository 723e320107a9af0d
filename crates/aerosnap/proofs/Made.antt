-- Edits as calls: one that answers 0 and the file that it leaves, and one that the definition takes.
-- Assumes nothing.
use mathlib.Core.Path.{◌≡◌, ◌∙◌, ap}
use mathlib.Core.List.{List}
use Prim.Native.Nat.{ℕ}
use lib.ListN.{length, take, drop}
use lib.Seq.{take-append_seam}
use Rattle.answer.specs.declared.Answer.{Answer}
use Rattle.answer.specs.Outcome.{Outcome, taken}
use Rattle.answer.specs.Calls.{answer, memory, Writes}
use Rattle.aerosnap.specs.Edits.{Edit, WideEdit, edit_file, EditCall}
use Rattle.aerosnap.proofs.Named.{edit_named, writes_zero}

-- A call with lent memory `old` that answered r and left `new`: where its number is 0, the file that it gives is the first `place` bytes.
pub call_made : (s : List ℕ) (e : Edit) (old new : List ℕ) (r : Answer) → WideEdit e → Writes (edit_file (length old) s e) old r new → r.number ≡ 0 → EditCall (length old) s e (take r.place new)
call_made s e old new r w m z = record { wide = w; accepts = writes_zero (edit_named (length old) s e) m z }

-- and a call that the definition takes answers so
pub made_call : (s : List ℕ) (e : Edit) (old new : List ℕ) (r : Answer) (b : List ℕ) → EditCall (length old) s e b → Writes (edit_file (length old) s e) old r new → (r.number ≡ 0) × (take r.place new ≡ b)
made_call s e old new r b k m =
    let i : r ≡ answer (taken b) = m.answers ∙ ap answer k.accepts in
    let j : new ≡ memory (taken b) old = m.leaves ∙ ap (λ (o : Outcome (List ℕ)). memory o old) k.accepts in
    (ap (λ (a : Answer). a.number) i, rw (i, j) (take-append_seam b (drop (length b) old)))
