-- A section by the exits of the code that judges it.
-- Assumes nothing.
use mathlib.Core.Path.{◌≡◌, refl, sym, ◌∙◌, ap, subst}
use mathlib.Core.List.{List, [], ◌∷◌, ◌++◌}
use mathlib.Core.Bool.{Bool, true, false, not}
use mathlib.Core.Logic.{◌≢◌}
use Prim.Native.Nat.{ℕ, ◌+◌, ◌-◌, ◌≤◌, ◌<◌}
use native.Mathlib.Omega.{arith}
use lib.ListN.{length, take, drop, get_or, length-drop, length-take}
use lib.Seq.{drop-drop}
use lib.Dec.{leb, ltb, eqb}
use borrow.Author.Tests.{le-leb, eq-eqb, ne_eqb}
use Rattle.std.proofs.Common.{Result, Ok, Err}
use Rattle.answer.specs.declared.Fault.{Fault}
use Rattle.answer.specs.Numbers.{CUT, MANY}
use Rattle.answer.specs.Outcome.{Outcome, taken, refused, Checks, checked, after, moved}
use Rattle.answer.specs.Calls.{fault_of, outcome_of}
use Rattle.answer.proofs.Checks.{pass-checked, checked-pass, checked-after, Left}
use Rattle.answer.proofs.Outcomes.{after_taken, after-after, taken_is, taken_refused, made_stop, made_taken}
use Rattle.wire.specs.Numbers.{le_at}
use Rattle.wire.proofs.Numbers.{le_at-drop, le_at_here}
use Rattle.order.specs.Keyed.{has}
use Rattle.lists.specs.Lists.{part_checks, whole}
use Rattle.lists.specs.Promises.{lent_after, Indexed}
use Rattle.aerosnap.specs.Known.{known, slot}
use Rattle.aerosnap.specs.Payloads.{body_of, payload}
use Rattle.aerosnap.specs.File.{sections_most, slot_of, known_checks, ruled, section_of}
use Rattle.aerosnap.proofs.Bodies.{lawful_body, payload-within}
use Rattle.payloads.specs.Starts.{starts, kept_of}
use Rattle.sections.specs.Steps.{Marks, Keeps}
use Rattle.sections.specs.Index.{starts_of}
use Rattle.sections.proofs.Kept.{body_other}

-- ---- a known section

module _ (l : List (List ℕ)) (at id v f : ℕ) (p : List ℕ) where
  abbrev body : Outcome (Unit {0})
  body = moved (at + 16) (payload (body_of id v) p)

  by_known : {b : Bool} → known id ≡ b → ruled l at id v f p ≡ elim b as (λ _. Outcome (Unit {0})) [ true ↦ checked (known_checks l at id v f p) body | false ↦ taken tt ]
  unfolding ruled
  by_known k = ap (λ (b : Bool). elim b as (λ _. Outcome (Unit {0})) [ true ↦ checked (known_checks l at id v f p) body | false ↦ taken tt ]) k

  pub ruled_not : known id ≡ false → taken tt ≡ ruled l at id v f p
  ruled_not k = sym (by_known k)

  -- its rows from the nth on
  abbrev pub Ruling : ℕ → Type 0
  Ruling n = Left (drop n (known_checks l at id v f p)) body (ruled l at id v f p)

  pub ruled_all : known id ≡ true → Ruling 0
  ruled_all k = record { same = sym (by_known k) }

pub some_flags : (f : ℕ) → 0 < f → eqb f 0 ≡ false
some_flags f h = ne_eqb f 0 (λ e. omega arith)

pub zero_flags : (f : ℕ) → f ≤ 0 → eqb f 0 ≡ true
zero_flags f h = eq-eqb f 0 (omega arith)

-- no row is left: the payload's own reader, on its part of the file
module _ (at id v : ℕ) (p : List ℕ) {o : Outcome (Unit {0})} (w : Left [] (moved (at + 16) (payload (body_of id v) p)) o) (i : length p ≤ 1073741824) where
  by_payload : {r : Outcome (Unit {0})} → r ≡ checked (part_checks p) (payload (body_of id v) p) → moved (at + 16) r ≡ o
  by_payload h = ap (moved (at + 16)) (h ∙ pass-checked (part_checks p) (payload (body_of id v) p) (le-leb (length p) 1073741824 i, tt)) ∙ w.same

  pub ruled_fault : {n q : ℕ} → refused n q ≡ checked (part_checks p) (payload (body_of id v) p) → refused n (at + 16 + q) ≡ o
  ruled_fault h = by_payload h

  pub ruled_fine : taken tt ≡ checked (part_checks p) (payload (body_of id v) p) → taken tt ≡ o
  ruled_fine h = by_payload h

-- the payload's reader, where the places that held `old` are lent for starts
module _ (id v : ℕ) (p old : List ℕ) where
  abbrev its_starts : List ℕ
  its_starts = whole (length old) (starts (body_of id v) p)

  abbrev read : Outcome (Unit {0})
  read = checked (part_checks p) (payload (body_of id v) p)

  -- what it took
  pub record Took (n : ℕ) (new : List ℕ) : Type 0 where
    pub fine : taken tt ≡ read
    pub count : n ≡ length its_starts
    pub kept : new ≡ its_starts ++ drop (length its_starts) old

  module _ {r : Result ℕ Fault} {new : List ℕ} (w : Indexed (kept_of (length old) id v p) old r new) where
    pub read_stop : {f : Fault} → r ≡ Err f → fault_of f ≡ read
    read_stop h =
        let stop = made_stop (kept_of (length old) id v p) length (sym (ap outcome_of h) ∙ w.answers) in
        sym (made_stop read (λ _. its_starts) (sym (checked-after (part_checks p) (payload (body_of id v) p) (λ _. taken its_starts) ∙ stop)))

    pub read_stays : {f : Fault} → r ≡ Err f → new ≡ old
    read_stays h = w.leaves ∙ ap (λ (o : Outcome (List ℕ)). lent_after o old) (made_stop (kept_of (length old) id v p) length (sym (ap outcome_of h) ∙ w.answers))

    pub read_took : {n : ℕ} → r ≡ Ok n → Took n new
    read_took {n} h =
        let a = made_taken (kept_of (length old) id v p) length (sym (ap outcome_of h) ∙ w.answers) in
        let c = checked-pass (part_checks p) (after (payload (body_of id v) p) (λ _. taken its_starts)) a.0 a.1 in
        let d = after_taken (payload (body_of id v) p) (λ _. taken its_starts) c.1 in
        let e : its_starts ≡ a.0 = taken_is d.2 in
        record {
          fine = sym (pass-checked (part_checks p) (payload (body_of id v) p) c.0 ∙ d.1);
          count = a.2 ∙ ap length (sym e);
          kept = w.leaves ∙ ap (λ (o : Outcome (List ℕ)). lent_after o old) (a.1 ∙ ap taken (sym e));
        }

-- a fault in a payload lies within it
pub fault_place : (id v : ℕ) (p : List ℕ) {n q : ℕ} → length p ≤ 1073741824 → refused n q ≡ checked (part_checks p) (payload (body_of id v) p) → q ≤ length p
fault_place id v p h e = rw (← (e ∙ pass-checked (part_checks p) (payload (body_of id v) p) (le-leb (length p) 1073741824 h, tt))) at (payload-within (body_of id v) (lawful_body id v) p)

-- ---- what is kept of a section

module _ {A : Type 0} {o : Outcome A} {k old new : List ℕ} where
  pub keeps_stop : {f : Fault} → fault_of f ≡ o → new ≡ old → Keeps o k old (Err f) new
  keeps_stop h w = record { answers = ap (λ (r : Outcome A). after r (λ _. taken (length k))) h; leaves = λ a q. absurd (taken_refused (sym q ∙ sym h)); stays = λ _ _ _. w }

  pub keeps_done : {a : A} {n : ℕ} → taken a ≡ o → n ≡ length k → new ≡ k ++ drop (length k) old → Keeps o k old (Ok n) new
  keeps_done h n w = record { answers = ap taken n ∙ ap (λ (r : Outcome A). after r (λ _. taken (length k))) h; leaves = λ _ _. w; stays = λ n p q. absurd (taken_refused (h ∙ q)) }

-- ---- marks

module _ (m : List ℕ) (l : List (List ℕ)) (n id k : ℕ) (h : Marks m l n) (e : k ≡ slot id) (i : 1 ≤ k) (j : k ≤ 8) where
  pub marked : get_or m k 0 ≡ 1 → not (has slot_of (slot id) l) ≡ false
  marked q = ap not (ap (λ (x : ℕ). has slot_of x l) (sym e) ∙ h.says k i j ∙ eq-eqb (get_or m k 0) 1 q)

  pub unmarked : get_or m k 0 ≢ 1 → not (has slot_of (slot id) l) ≡ true
  unmarked q = ap not (ap (λ (x : ℕ). has slot_of x l) (sym e) ∙ h.says k i j ∙ ne_eqb (get_or m k 0) 1 q)

-- ---- the section at a place

-- a part of the file, as it is lent
pub part_length : (s : List ℕ) (b n : ℕ) → n ≤ length s - b → length (take (b + n - b) (drop b s)) ≡ n
part_length s b n h = simp (length-take, length-drop) (omega arith)

-- a section that is not known has no starts
pub none_kept : (id v have : ℕ) (p old : List ℕ) → known id ≡ false → (0 ≡ length (whole have (starts (body_of id v) p))) × (old ≡ whole have (starts (body_of id v) p) ++ drop (length (whole have (starts (body_of id v) p))) old)
none_kept id v have p old k =
    let e : whole have (starts (body_of id v) p) ≡ [] = rw (body_other id v k, le-leb 0 have (omega arith)) in
    rw e (refl, refl)

module _ (l : List (List ℕ)) (s : List ℕ) (at : ℕ) where
  abbrev rows : Checks
  rows = (leb 16 (length s - at), CUT, at) ∷ (ltb (length l) sections_most, MANY, at) ∷ (leb (le_at 8 s (at + 8)) (length s - at - 16), CUT, at) ∷ []

  abbrev rules : Outcome (Unit {0})
  rules = ruled l at (le_at 4 s at) (le_at 2 s (at + 4)) (le_at 2 s (at + 6)) (take (le_at 8 s (at + 8)) (drop (at + 16) s))

  abbrev rest : Outcome ℕ
  rest = after rules (λ _. taken (16 + le_at 8 s (at + 8)))

  -- its rows from the nth on
  abbrev pub Framing : ℕ → Type 0
  Framing n = Left (drop n rows) rest (section_of l at (drop at s))

  pub framing_all : Framing 0
  unfolding section_of
  framing_all = record { same = sym (simp (length-drop, le_at_here 4 s at, le_at-drop 2 s at 4, le_at-drop 2 s at 6, le_at-drop 8 s at 8, drop-drop)) }

  starts_here : starts (body_of (le_at 4 s at) (le_at 2 s (at + 4))) (take (le_at 8 s (at + 8)) (drop (at + 16) s)) ≡ starts_of (drop at s)
  starts_here = sym (simp (le_at_here 4 s at, le_at-drop 2 s at 4, le_at-drop 8 s at 8, drop-drop))

  -- what its rules say of it and keep of its starts, where m bytes are its payload
  abbrev pub Judges : ℕ → List ℕ → Result ℕ Fault → List ℕ → ℕ → Type 0
  Judges have old r new m = let p = take m (drop (at + 16) s) in Keeps (ruled l at (le_at 4 s at) (le_at 2 s (at + 4)) (le_at 2 s (at + 6)) p) (whole have (starts (body_of (le_at 4 s at) (le_at 2 s (at + 4))) p)) old r new

  -- no row is left: the rules of a section that is there whole
  module _ (w : Framing 3) (have : ℕ) {m : ℕ} (e : m ≡ le_at 8 s (at + 8)) {old new : List ℕ} {r : Result ℕ Fault} where
    over-rest : {k : List ℕ} → Keeps rules k old r new → Keeps (section_of l at (drop at s)) k old r new
    over-rest {k} h = record {
      answers = h.answers ∙ sym (ap (λ (o : Outcome ℕ). after o (λ _. taken (length k))) (sym w.same) ∙ after-after rules (λ _. taken (16 + le_at 8 s (at + 8))) (λ _. taken (length k)));
      leaves = λ a q. h.leaves _ (after_taken rules (λ _. taken (16 + le_at 8 s (at + 8))) (w.same ∙ q)).1;
      stays = λ n p q. h.stays n p (made_stop rules (λ _. 16 + le_at 8 s (at + 8)) (sym (w.same ∙ q)));
    }

    pub section_rules : Judges have old r new m → Keeps (section_of l at (drop at s)) (whole have (starts_of (drop at s))) old r new
    section_rules h = subst (λ (k : List ℕ). Keeps (section_of l at (drop at s)) (whole have k) old r new) starts_here (over-rest (subst (Judges have old r new) e h))
