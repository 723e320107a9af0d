-- The scan finds bytes broken at a place exactly if that is the first place at which no text continues. Assumes nothing.
use Rattle.std.proofs.Common.{Result, Ok, Err}
use Prim.Native.Nat.{ℕ, suc, ◌+◌, ◌≤◌, ◌<◌}
use mathlib.Core.Path.{◌≡◌, refl, sym, ◌∙◌}
use mathlib.Core.List.{List, [], ◌∷◌, ◌++◌, append_assoc}
use native.Mathlib.Numerals.{add-one}
use native.Mathlib.Omega.{arith}
use lib.ListN.{length, take, drop, take-append-drop}
use lib.Seq.{take-take}
use Rattle.utf8.specs.Grammar.{Range, Alternative, UTF8-char, InRange, Fits, done, byte, Text, none, Begins, Longest, Breaks}
use Rattle.utf8.specs.Scan.{ToCome, Next, Stop, lookup, lead_of, after_of, onward, scan_from, scan}
use Rattle.utf8.proofs.Table.{picked}
use Rattle.utf8.proofs.Whole.{never, rest-whole, text_passed, whole-text, text-whole}

-- ---- broken, so no text continues there
-- each range has a byte
abbrev Filled : List Range → Type 0
Filled [] = Unit {0}
Filled (r ∷ rs) = (r.from ≤ r.to) × Filled rs

abbrev Open : ToCome → Type 0
Open (Next rs) = Filled rs
Open Stop = Unit {0}

-- of each alternative
abbrev Fillable : List Alternative → Type 0
Fillable [] = Unit {0}
Fillable (a ∷ l) = Filled a.rest × Fillable l

fillable : Fillable UTF8-char
fillable = omega arith

opens_with : (l : List Alternative) (b : ℕ) → Fillable l → Open (lookup l b)
opens_with [] b k = tt
opens_with (a ∷ l) b k = picked a.first.from a.first.to b Open (λ _. k.0) (opens_with l b k.1)

opens : (rs : List Range) (b : ℕ) → Filled rs → Open (after_of rs b)
unfolding after_of lead_of
opens [] b k = opens_with UTF8-char b fillable
opens (r ∷ rs) b k = picked r.from r.to b Open (λ _. k.1) tt

fill : (rs : List Range) → Filled rs → (u : List ℕ) × Fits rs u
fill [] k = ([], done)
fill (r ∷ rs) k =
    let f = fill rs k.1 in
    let i : InRange r.from r.to r.from = record { low = omega arith; high = k.0 } in
    (r.from ∷ f.0, byte i f.1)

-- the scan from place i on is broken at k, d bytes further: with some bytes for those from there on it is whole, and with none after the byte there
record Broke (rs : List Range) (i : ℕ) (s : List ℕ) (k : ℕ) : Type 0 where
  d : ℕ
  place : i + d ≡ k
  within : d ≤ length s
  continues : (u : List ℕ) × (scan_from rs i (take d s ++ u) ≡ Ok tt)
  stops : d < length s → (u : List ℕ) → scan_from rs i (take (suc d) s ++ u) ≡ Err k

-- broken at i itself
broke_here : (rs : List Range) (i k : ℕ) (s : List ℕ) → Filled rs → ◌≡◌ {A = Result (Unit {0}) ℕ} (Err i) (Err k)
    → (0 < length s → (u : List ℕ) → scan_from rs i (take 1 s ++ u) ≡ Err k) → Broke rs i s k
broke_here rs i k s ok e h =
    let p : i ≡ k = cc in
    let r = fill rs ok in
    record {
      d = 0;
      place = omega arith;
      within = omega arith;
      continues = (r.0 ++ [], rest-whole [] r.1 (text_passed none) i);
      stops = h;
    }

-- one byte more, by what the scan says after it
module _ (rs : List Range) (i k b : ℕ) (s : List ℕ) (ok : Filled rs)
    (go : (l : List Range) → Filled l → scan_from l (suc i) s ≡ Err k → Broke l (suc i) s k) where
  broke_onward : (st : ToCome) → after_of rs b ≡ st → Open st
      → onward st i (λ l. scan_from l (suc i) s) ≡ Err k → Broke rs i (b ∷ s) k
  unfolding scan_from
  broke_onward Stop q o e = broke_here rs i k (b ∷ s) ok e (λ h u. rw q e)
  broke_onward (Next l) q o e =
      let p = go l o e in
      record {
        d = suc p.d;
        place = omega (arith, p.place);
        within = omega (arith, p.within);
        continues = (p.continues.0, rw q p.continues.1);
        stops = λ h u. rw q (p.stops (omega arith) u);
      }

broke : (s : List ℕ) (rs : List Range) (i k : ℕ) → Filled rs → scan_from rs i s ≡ Err k → Broke rs i s k
unfolding scan_from
broke [] [] i k ok e = absurd (never e)
broke [] (r ∷ rs) i k ok e = broke_here (r ∷ rs) i k [] ok e (λ h. absurd (omega arith))
broke (b ∷ s) rs i k ok e = broke_onward rs i k b s ok (λ l o. broke s l (suc i) k o) (after_of rs b) refl (opens rs b ok) e

not_text : (s : List ℕ) (k : ℕ) → scan s ≡ Err k → Text s → ⊥
not_text s k e t = never (sym (text-whole t) ∙ e)

-- ---- there is one such place, so the scan finds it
begins_front : (p q : List ℕ) → Begins (p ++ q) → Begins p
begins_front p q g = record { rest = q ++ g.rest; text = rw (← append_assoc p q g.rest) g.text }

begins_take : (s : List ℕ) (j k : ℕ) → j ≤ k → Begins (take k s) → Begins (take j s)
begins_take s j k h g =
    begins_front (take j s) (drop j (take k s)) (rw (← take-take j k s h, take-append-drop) g)

-- a prefix with which some text begins is the longest if none begins with the byte behind it too
pub stops_longest : {s : List ℕ} {k : ℕ} → k ≤ length s → Begins (take k s) → (k < length s → Begins (take (k + 1) s) → ⊥) → Longest s k
stops_longest {s} {k} w c h =
    record {
      within = w;
      continues = c;
      longest = λ j i g. let n : k < j → ⊥ = λ l. h (omega arith) (begins_take s (k + 1) j (omega arith) g) in omega (arith, n);
    }

pub longest_stops : {s : List ℕ} {k : ℕ} → Longest s k → k < length s → Begins (take (k + 1) s) → ⊥
longest_stops {s} {k} l h g = omega (arith, l.longest (k + 1) (omega arith) g)

pub longest_once : {s : List ℕ} {j k : ℕ} → Longest s j → Longest s k → j ≡ k
longest_once {s} {j} {k} a b = omega (arith, a.longest k b.within b.continues, b.longest j a.within a.continues)

pub broken_breaks : (s : List ℕ) (k : ℕ) → scan s ≡ Err k → Breaks s k
unfolding scan
broken_breaks s k e =
    let p = broke s [] 0 k tt e in
    let q : p.d ≡ k = omega (arith, p.place) in
    rw (← q) record {
      wrong = not_text s k e;
      prefix = stops_longest p.within
          (record { rest = p.continues.0; text = whole-text _ p.continues.1 })
          (λ h g. not_text _ k (rw add-one (p.stops h g.rest)) g.text);
    }

pub broken_within : (s : List ℕ) (k : ℕ) → scan s ≡ Err k → k ≤ length s
broken_within s k e = (broken_breaks s k e).prefix.within

pub breaks_broken : {s : List ℕ} {k : ℕ} → Breaks s k → scan s ≡ Err k
breaks_broken {s} {k} a = go (scan s) refl
  where
    go : (r : Result (Unit {0}) ℕ) → scan s ≡ r → r ≡ Err k
    go (Ok tt) e = absurd (a.wrong (whole-text s e))
    go (Err j) e = rw (longest_once (broken_breaks s j e).prefix a.prefix)
