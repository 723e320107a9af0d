-- Each promise allows one answer. Assumes nothing.
use Rattle.std.proofs.Common.{Result}
use Prim.Native.Nat.{ℕ}
use mathlib.Core.Path.{◌≡◌, sym, ◌∙◌}
use mathlib.Core.List.{List}
use mathlib.Core.Bool.{Bool}
use Rattle.utf8.specs.Grammar.{text_of, Reads}
use Rattle.utf8.specs.Scan.{is_text}
use Rattle.utf8.proofs.Reading.{reads_scan}

pub text_once : (s : List ℕ) (r r' : Result (Unit {0}) ℕ) → Reads s (text_of r) → Reads s (text_of r') → r ≡ r'
text_once s r r' p q = reads_scan s r p ∙ sym (reads_scan s r' q)

pub is_text_once : (s : List ℕ) {r r' : Bool} → r ≡ is_text s → r' ≡ is_text s → r ≡ r'
is_text_once s p q = p ∙ sym q
