-- The scan finds bytes whole exactly if the grammar makes them. Assumes nothing.
use Prim.Native.Nat.{ℕ, suc, ◌≤◌}
use mathlib.Core.Path.{◌≡◌, refl, sym}
use mathlib.Core.Logic.{inl, inr}
use mathlib.Core.List.{List, [], ◌∷◌, ◌++◌}
use native.Mathlib.Omega.{arith}
use Rattle.std.proofs.Common.{Result, Ok, Err}
use Rattle.utf8.specs.Grammar.{Range, Alternative, UTF8-char, InRange, Fits, done, byte, OneOf, Char, Text, none, more}
use Rattle.utf8.specs.Scan.{ToCome, Next, Stop, lookup, lead_of, after_of, onward, scan_from, scan}
use Rattle.utf8.proofs.Table.{in_among, out_among, picked}

-- ---- a character is a first byte of the table with what that lets follow
-- b with what it lets follow is of one of the alternatives
abbrev Makes : List Alternative → ℕ → ToCome → Type 0
Makes l b (Next rs) = (t : List ℕ) → Fits rs t → OneOf l (b ∷ t)
Makes l b Stop = Unit {0}

makes : (l : List Alternative) (b : ℕ) → Makes l b (lookup l b)
makes [] b = tt
makes (a ∷ l) b = picked a.first.from a.first.to b (Makes (a ∷ l) b) (λ h t f. inl (byte h f)) (later (lookup l b) (makes l b))
  where
    later : (st : ToCome) → Makes l b st → Makes (a ∷ l) b st
    later (Next rs) m = λ t f. inr (m t f)
    later Stop m = tt

-- the alternatives begin with ranges that ascend, from n on
abbrev Ascend : ℕ → List Alternative → Type 0
Ascend n [] = Unit {0}
Ascend n (a ∷ l) = (n ≤ a.first.from) × (a.first.from ≤ a.first.to) × Ascend (suc a.first.to) l

-- a first byte of the table, from n on, and what it lets follow
data Led (n : ℕ) (l : List Alternative) : List ℕ → Type 0 where
  leads : {b : ℕ} {rs : List Range} {t : List ℕ} → n ≤ b → lookup l b ≡ Next rs → Fits rs t → Led n l (b ∷ t)

led : (n : ℕ) (l : List Alternative) (c : List ℕ) → Ascend n l → OneOf l c → Led n l c
led n [] c k o = absurd o
led n (a ∷ l) (b ∷ t) k (inl (byte h f)) = leads {b = b} {rs = a.rest} (omega (arith, k.0, h.low)) (rw (in_among h)) f
led n (a ∷ l) [] k (inl x) = elim x [ ]
led n (a ∷ l) c k (inr o) = go (led (suc a.first.to) l c k.2 o)
  where
    go : {c : List ℕ} → Led (suc a.first.to) l c → Led n (a ∷ l) c
    go (leads {b = x} {rs = y} h q f) =
        leads {b = x} {rs = y} (omega (arith, h, k.0, k.1)) (rw (out_among a.first.from a.first.to x (λ _. omega (arith, h))) q) f

led_char : {c : List ℕ} → Char c → Led 0 UTF8-char c
led_char {c} o = led 0 UTF8-char c (omega arith) o

-- ---- whole, so made by the grammar
pub never : {k : ℕ} → ◌≡◌ {A = Result (Unit {0}) ℕ} (Ok tt) (Err k) → ⊥
never e = let z : ◌≡◌ {A = ℕ} 0 1 = cc in omega arith

-- the bytes of a character that are to come, and a text behind them
data Goes (rs : List Range) : List ℕ → Type 0 where
  goes : {h t : List ℕ} → Fits rs h → Text t → Goes rs (h ++ t)

-- a first byte before that, and a later one
begun : {b : ℕ} {rs : List Range} {s : List ℕ} → ((t : List ℕ) → Fits rs t → Char (b ∷ t)) → Goes rs s → Goes [] (b ∷ s)
begun m (goes f t) = goes done (more (m _ f) t)

grown : {r : Range} {rs : List Range} {b : ℕ} {s : List ℕ} → InRange r.from r.to b → Goes rs s → Goes (r ∷ rs) (b ∷ s)
grown h (goes f t) = goes (byte h f) t

-- one byte before what it lets follow, by what the scan says after it
module _ (b : ℕ) (s : List ℕ) where
  Grows : List Range → ToCome → Type 0
  Grows rs (Next l) = Goes l s → Goes rs (b ∷ s)
  Grows rs Stop = Unit {0}

  first : (st : ToCome) → Makes UTF8-char b st → Grows [] st
  unfolding Grows
  first (Next l) m = begun m
  first Stop m = tt

  grows : (rs : List Range) → Grows rs (after_of rs b)
  unfolding Grows after_of lead_of
  grows [] = first (lookup UTF8-char b) (makes UTF8-char b)
  grows (r ∷ rs) = picked r.from r.to b (Grows (r ∷ rs)) grown tt

  whole-onward : (rs : List Range) (i : ℕ) (go : (l : List Range) → scan_from l (suc i) s ≡ Ok tt → Goes l s) (st : ToCome) → Grows rs st
      → onward st i (λ l. scan_from l (suc i) s) ≡ Ok tt → Goes rs (b ∷ s)
  unfolding Grows
  whole-onward rs i go (Next l) g e = g (go l e)
  whole-onward rs i go Stop g e = absurd (never (sym e))

whole-goes : (s : List ℕ) (rs : List Range) (i : ℕ) → scan_from rs i s ≡ Ok tt → Goes rs s
unfolding scan_from
whole-goes [] [] i e = goes done none
whole-goes [] (r ∷ rs) i e = absurd (never (sym e))
whole-goes (b ∷ s) rs i e = whole-onward b s rs i (λ l. whole-goes s l (suc i)) (after_of rs b) (grows b s rs) e

goes-text : {s : List ℕ} → Goes [] s → Text s
goes-text (goes done t) = t

pub whole-text : (s : List ℕ) → scan s ≡ Ok tt → Text s
unfolding scan
whole-text s e = goes-text (whole-goes s [] 0 e)

-- ---- made by the grammar, so whole
-- the scan finds u whole from anywhere where a character begins
abbrev pub Passed : List ℕ → Type 0
Passed u = (i : ℕ) → scan_from [] i u ≡ Ok tt

pub rest-whole : {rs : List Range} {t : List ℕ} (u : List ℕ) → Fits rs t → Passed u → (i : ℕ) → scan_from rs i (t ++ u) ≡ Ok tt
unfolding scan_from after_of
rest-whole u done k i = k i
rest-whole u (byte h r) k i = rw (in_among h) (rest-whole u r k (suc i))

pub text_passed : {s : List ℕ} → Text s → Passed s
unfolding scan_from after_of lead_of
text_passed none i = refl
text_passed (more {t = u} c t) i = go (led_char c) (λ j. text_passed t j)
  where
    go : {c : List ℕ} → Led 0 UTF8-char c → Passed u → scan_from [] i (c ++ u) ≡ Ok tt
    go (leads _ q r) k = rw q (rest-whole u r k (suc i))

pub text-whole : {s : List ℕ} → Text s → scan s ≡ Ok tt
unfolding scan
text-whole t = text_passed t 0
