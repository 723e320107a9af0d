-- Request 6: fields read and set, sheets read and written back, the access word.
-- Assumes nothing.
use mathlib.Core.Path.{◌≡◌, refl, sym, ap, ◌∙◌, subst}
use mathlib.Core.Logic.{◌≢◌, ◌↔◌, ◌⊎◌, inl, inr}
use mathlib.Core.Bool.{Bool, true, false, ◌&&◌, ◌||◌, cond}
use mathlib.Core.List.{List, [], ◌∷◌, ◌++◌, append-nil}
use Prim.Native.Nat.{ℕ, ◌+◌, ◌-◌, ◌≤◌, ◌<◌}
use native.Mathlib.Omega.{arith}
use lib.Dec.{leb, ltb, eqb}
use lib.ListN.{length, take, drop, get_or, length-append, length-drop, take-append-drop, drop_of_length-le}
use lib.Seq.{length-take-le, take_all, take_at, take-take, drop-append_seam}
use borrow.Author.Tests.{leb-true, leb-false, le-leb, lt-leb, lt-ltb, eq-eqb, eqb-true, eqb-false}
use Rattle.answer.specs.declared.Answer.{Answer}
use Rattle.answer.specs.Numbers.{SHAPE, VALUE, is_among}
use Rattle.answer.specs.Outcome.{Outcome, taken, refused, Checks, checked, Pass, First, room, fitting}
use Rattle.answer.specs.Calls.{asked}
use Rattle.answer.proofs.Checks.{pass-checked, checked-pass, checked-append, checked-after, asked-pass, and_true}
use Rattle.answer.proofs.Outcomes.{taken_is, taken_refused}
use Rattle.answer.proofs.Firsts.{checked-first}
use Rattle.wire.specs.Numbers.{Bytes, le_at, bytes_of}
use Rattle.wire.proofs.Numbers.{bytes_of-le_at, le_at-append}
use Rattle.entries.specs.States.{cpu_length, extends, cpu_sized, registers, switches}
use Rattle.edits.proofs.Writing.{drop-take}
use Rattle.wire.proofs.Parts.{length-splice}
use Rattle.access.specs.Access.{word_of}
use Rattle.access.proofs.Masks.{shows}
use Rattle.fields.specs.declared.State.{State}
use Rattle.fields.specs.declared.State.TheVariants.{Cpu, Mmu}
use Rattle.fields.specs.declared.Row.{Row}
use Rattle.fields.specs.Layout.{row_at}
use Rattle.fields.specs.Fields.{right_length, listed_numbers, range_checks, state_checks, field_place, has_in, bytes_at, field_checks, field_call, set_to, set_checks, set_call, stored_answer, memory_after, Changes}
use Rattle.fields.proofs.Bytes.{before, behind, read_back}
use Rattle.fields.proofs.Splices.{splice_back}
use Rattle.fields.proofs.Outcomes.{set_tried, set_right}
use Rattle.sheet.specs.declared.CpuSheet.{CpuSheet}
use Rattle.mmu_sheet.specs.declared.MmuSheet.{MmuSheet}
use Rattle.sheet.specs.declared.CpuShown.{CpuShown}
use Rattle.mmu_sheet.specs.declared.MmuShown.{MmuShown}
use Rattle.sheet.specs.Sheet.{cpu_of, fields_over, cpu_over}
use Rattle.sheet.specs.Members.{cpu_member}
use Rattle.sheet.specs.Calls.{matches, cpu_count, cpu_shown, cpu_call, cpu_over_checks, cpu_over_call}
use Rattle.mmu_sheet.specs.Sheet.{mmu_of, mmu_over}
use Rattle.mmu_sheet.specs.Members.{mmu_member}
use Rattle.mmu_sheet.specs.Calls.{mmu_shown, mmu_call, mmu_over_call}
use Rattle.sheet.proofs.Back.{cpu_over_plain, cpu_over_extended}
use Rattle.mmu_sheet.proofs.Back.{mmu-over}
use Rattle.sheet.proofs.Ties.{cpu_ties}
use Rattle.mmu_sheet.proofs.Ties.{mmu_ties}
use Rattle.demands.specs.Sheet as stated
use Rattle.demands.specs.Sheet.{Accepted, HasField}
use Rattle.aerosnap.proofs.Refusals.{checked_refuses}
use Rattle.demands.proofs.Demand1.{Plain, plain, Rows, Core, fills}

-- ---- states that are accepted

accept_pass : (k : State) (s : List ℕ) → Accepted k s → Pass (state_checks k s)
accept_pass k s e = asked-pass (state_checks k s) (sym e)

pass_accept : (k : State) (s : List ℕ) → Pass (state_checks k s) → Accepted k s
pass_accept k s h = pass-checked (state_checks k s) (taken tt) h

right : (k : State) (s : List ℕ) → Accepted k s → right_length k s ≡ true
unfolding state_checks
right k s e = (accept_pass k s e).0

-- a field that a state has lies within it
within : (r : Row) (i len : ℕ) → has_in r i len ≡ true → field_place r i + r.width ≤ len
within r i len h = leb-true (field_place r i + r.width) len (and_true (ltb i r.count) (leb (field_place r i + r.width) len) h).1

wide : (r : Row) (i : ℕ) (s : List ℕ) → has_in r i (length s) ≡ true → length (bytes_at r i s) ≡ r.width
wide r i s h =
    let g = within r i (length s) h in
    length-take-le r.width (drop (field_place r i) s) (rw (length-drop) (omega (arith, g)))

-- ---- reading

module _ (k : State) (n i : ℕ) (s : List ℕ) where
  has_of : Pass (field_checks k (row_at k n) i s) → HasField k n i s
  unfolding field_checks
  has_of h = h.1.0

  accepted_of : Pass (field_checks k (row_at k n) i s) → Accepted k s
  unfolding field_checks state_checks
  accepted_of h = pass_accept k s (h.0, h.1.1)

  checks_of : Accepted k s → HasField k n i s → Pass (field_checks k (row_at k n) i s)
  unfolding field_checks state_checks
  checks_of a h = let p = accept_pass k s a in (p.0, (h, p.1))

  -- what is read of an accepted state that has the field
  reads : (have : ℕ) → Accepted k s → HasField k n i s → field_call k have s n i ≡ fitting have (bytes_at (row_at k n) i s)
  unfolding field_call
  reads have a h = pass-checked (field_checks k (row_at k n) i s) (fitting have (bytes_at (row_at k n) i s)) (checks_of a h)

  read_to : (have : ℕ) (x : List ℕ) → field_call k have s n i ≡ taken x → Accepted k s × HasField k n i s × (length x ≤ have) × (x ≡ bytes_at (row_at k n) i s)
  unfolding field_call
  read_to have x e =
      let b = bytes_at (row_at k n) i s in
      let p = checked-pass (field_checks k (row_at k n) i s) (fitting have b) x e in
      let q = checked-pass (room have (length b)) (taken b) x p.1 in
      let same : b ≡ x = taken_is q.1 in
      (accepted_of p.0, has_of p.0, subst (λ (l : List ℕ). length l ≤ have) same (leb-true (length b) have q.0.0), sym same)

  read_from : (have : ℕ) (x : List ℕ) → Accepted k s × HasField k n i s × (length x ≤ have) × (x ≡ bytes_at (row_at k n) i s) → field_call k have s n i ≡ taken x
  read_from have x h =
      let b = bytes_at (row_at k n) i s in
      let g : length b ≤ have = subst (λ (l : List ℕ). length l ≤ have) h.3 h.2 in
      reads have h.0 h.1 ∙ pass-checked (room have (length b)) (taken b) (le-leb (length b) have g, tt) ∙ ap taken (sym h.3)

  read_refuses : (have m p : ℕ) → (field_call k have s n i ≡ refused m p) ↔ First (field_checks k (row_at k n) i s ++ room have (length (bytes_at (row_at k n) i s))) m p
  unfolding field_call
  read_refuses have m p =
      let b = bytes_at (row_at k n) i s in
      let e = checked-append (field_checks k (row_at k n) i s) (room have (length b)) (taken b) in
      let f = checked-first (field_checks k (row_at k n) i s ++ room have (length b)) b m p in
      ((λ g. f.0 (e ∙ g)), (λ g. sym e ∙ f.1 g))

-- ---- setting

module _ (k : State) (n i : ℕ) (v s : List ℕ) where
  abbrev r : Row
  r = row_at k n

  set-length : HasField k n i s → length v ≡ r.width → length (set_to r i v s) ≡ length s
  set-length h w = let g = within r i (length s) h in length-splice (field_place r i) v s (omega (arith, g, w))

  set-to : (t : List ℕ) → set_call k s n i v ≡ taken t → HasField k n i s × (length v ≡ r.width) × Accepted k t × (t ≡ set_to r i v s)
  unfolding set_call set_checks
  set-to t e =
      let q = checked-pass (set_checks k r i v s) (taken (set_to r i v s)) t e in
      let p = q.0 in
      let same : set_to r i v s ≡ t = taken_is q.1 in
      let w : length v ≡ r.width = eqb-true (length v) r.width p.1.1.0 in
      let a : Accepted k (set_to r i v s) = sym (set_tried k r i v s (taken tt) p.0 p.1.0 p.1.1.0) ∙ pass-checked (set_checks k r i v s) (taken tt) p in
      (p.1.0, w, subst (λ (l : List ℕ). Accepted k l) same a, sym same)

  set_from : (t : List ℕ) → HasField k n i s × (length v ≡ r.width) × Accepted k t × (t ≡ set_to r i v s) → set_call k s n i v ≡ taken t
  unfolding set_call
  set_from t h =
      let new = set_to r i v s in
      let a : Accepted k new = subst (λ (l : List ℕ). Accepted k l) h.3 h.2 in
      let long : right_length k s ≡ true = sym (set_right k n i v s h.0 h.1) ∙ right k new a in
      set_tried k r i v s (taken new) long h.0 (eq-eqb (length v) r.width h.1) ∙ pass-checked (state_checks k new) (taken new) (accept_pass k new a) ∙ ap taken (sym h.3)

  set_refuses : (m p : ℕ) → (set_call k s n i v ≡ refused m p) ↔ First (set_checks k r i v s) m p
  unfolding set_call
  set_refuses m p = checked-first (set_checks k r i v s) (set_to r i v s) m p

  set-only : (new : List ℕ) (a : Answer) → Changes (length v) (set_call k s n i v) s a new
      → (length new ≡ length s) × ((j : ℕ) → (j < field_place r i) ⊎ (field_place r i + r.width ≤ j) → get_or new j 0 ≡ get_or s j 0)
  set-only new a c = go (set_call k s n i v) refl c.leaves
    where
      go : (o : Outcome (List ℕ)) → set_call k s n i v ≡ o → new ≡ memory_after o s → (length new ≡ length s) × ((j : ℕ) → (j < field_place r i) ⊎ (field_place r i + r.width ≤ j) → get_or new j 0 ≡ get_or s j 0)
      go (taken t) e f =
          let q = set-to t e in
          let is : new ≡ set_to r i v s = f ∙ q.3 in
          let g = within r i (length s) q.0 in
          let fits : field_place r i + length v ≤ length s = omega (arith, g, q.1) in
          (ap length is ∙ set-length q.0 q.1, λ j side. ap (λ (l : List ℕ). get_or l j 0) is ∙ outside fits q.1 j side)
        where
          outside : field_place r i + length v ≤ length s → length v ≡ r.width → (j : ℕ) → (j < field_place r i) ⊎ (field_place r i + r.width ≤ j) → get_or (set_to r i v s) j 0 ≡ get_or s j 0
          outside fits w j (inl h) = before (field_place r i) v s fits j h
          outside fits w j (inr h) = behind (field_place r i) v s fits j (omega (arith, w))
      go (refused m p) e f = (ap length f, λ j side. ap (λ (l : List ℕ). get_or l j 0) f)

  set_back : (have : ℕ) (t : List ℕ) → set_call k s n i v ≡ taken t → field_call k have t n i ≡ fitting have v
  set_back have t e =
      let q = set-to t e in
      let g = within r i (length s) q.0 in
      let fits : field_place r i + length v ≤ length s = omega (arith, g, q.1) in
      let long : length t ≡ length s = ap length q.3 ∙ set-length q.0 q.1 in
      let h : HasField k n i t = subst (λ (m : ℕ). has_in r i m ≡ true) (sym long) q.0 in
      let b : bytes_at r i t ≡ v = ap (λ (l : List ℕ). take r.width (drop (field_place r i) l)) q.3 ∙ ap (λ (w : ℕ). take w (drop (field_place r i) (set_to r i v s))) (sym q.1) ∙ read_back (field_place r i) v s fits in
      reads k n i t have q.2 h ∙ ap (fitting have) b

set_same : (k : State) (n i have : ℕ) (v s : List ℕ) → field_call k have s n i ≡ taken v → set_call k s n i v ≡ taken s
set_same k n i have v s e =
    let r = row_at k n in
    let q = read_to k n i s have v e in
    let g = within r i (length s) q.1 in
    let w : length v ≡ r.width = ap length q.3 ∙ wide r i s q.1 in
    let is : s ≡ set_to r i v s = sym (ap (λ (l : List ℕ). set_to r i l s) q.3 ∙ splice_back (field_place r i) r.width s g) in
    set_from k n i v s s (q.1, w, q.0, is)

-- ---- the numbers of a refused set

abbrev OfSets : ℕ → Type 0
OfSets m = is_among (SHAPE ∷ VALUE ∷ []) m ≡ true

abbrev All : Checks → Type 0
All [] = Unit {0}
All (c ∷ l) = OfSets c.1 × All l

all_values : (l : List (ℕ × ℕ × ℕ × ℕ)) (s : List ℕ) → All (range_checks l s)
all_values [] s = tt
all_values (x ∷ l) s = (refl, all_values l s)

number_of : {A : Type 0} (l : Checks) (a : A) (m p : ℕ) → All l → checked l (taken a) ≡ refused m p → OfSets m
number_of [] a m p h e = absurd (taken_refused e)
number_of {A} (c ∷ l) a m p h e = go c.0 e (number_of l a m p h.1)
  where
    go : (b : Bool) → ◌≡◌ {A = Outcome A} (elim b [ true ↦ checked l (taken a) | false ↦ refused c.1 c.2 ]) (refused m p) → (checked l (taken a) ≡ refused m p → OfSets m) → OfSets m
    go true e next = next e
    go false e next = let z : c.1 ≡ m = cc in subst OfSets z h.0

set-numbers : (k : State) (n i : ℕ) (v s : List ℕ) (m p : ℕ) → set_call k s n i v ≡ refused m p → OfSets m
unfolding set_call set_checks state_checks
set-numbers k n i v s m p e = number_of (set_checks k (row_at k n) i v s) (set_to (row_at k n) i v s) m p (refl, (refl, (refl, (refl, all_values (listed_numbers k (length (set_to (row_at k n) i v s))) (set_to (row_at k n) i v s))))) e

-- ---- sheets

cpu_to : (s : List ℕ) (c : CpuSheet) → cpu_call s ≡ taken c → Accepted Cpu s × (c ≡ cpu_of s)
unfolding cpu_call
cpu_to s c e = let q = checked-pass (state_checks Cpu s) (taken (cpu_of s)) c e in (pass_accept Cpu s q.0, sym (taken_is q.1))

cpu_from : (s : List ℕ) (c : CpuSheet) → Accepted Cpu s × (c ≡ cpu_of s) → cpu_call s ≡ taken c
unfolding cpu_call
cpu_from s c h = pass-checked (state_checks Cpu s) (taken (cpu_of s)) (accept_pass Cpu s h.0) ∙ ap taken (sym h.1)

cpu_refuses : (s : List ℕ) (m p : ℕ) → (cpu_call s ≡ refused m p) ↔ First (state_checks Cpu s) m p
unfolding cpu_call
cpu_refuses s m p = checked-first (state_checks Cpu s) (cpu_of s) m p

cpu-members : (s : List ℕ) (c : CpuSheet) → Bytes s → cpu_call s ≡ taken c → (have n i : ℕ) → HasField Cpu n i s → field_call Cpu have s n i ≡ fitting have (cpu_member c n i)
cpu-members s c b e have n i h =
    let q = cpu_to s c e in
    reads Cpu n i s have q.0 h ∙ ap (fitting have) (sym (cpu_ties s b n i h) ∙ ap (λ (x : CpuSheet). cpu_member x n i) (sym q.1))

matches_self : (len : ℕ) (t : Bool) → leb 1191 len ≡ t → cond t (leb 1191 len) (ltb len 1191) ≡ true
matches_self len true e = e
matches_self len false e = lt-ltb len 1191 (leb-false 1191 len e)

-- what the extension's length says in every accepted state that has one
says : (s : List ℕ) → Accepted Cpu s → 1191 ≤ length s → le_at 4 s 1183 ≡ length s - 1187
unfolding state_checks
says s a h = go (eqb (length s) 1191) refl
  where
    longer : 1191 < length s → (leb (length s) 1191 || eqb (length s) (1187 + le_at 4 s 1183)) ≡ true → le_at 4 s 1183 ≡ length s - 1187
    longer g q = omega (arith, eqb-true (length s) (1187 + le_at 4 s 1183) (rw (lt-leb (length s) 1191 g) at q))

    go : (x : Bool) → eqb (length s) 1191 ≡ x → le_at 4 s 1183 ≡ length s - 1187
    go true e =
        let p = subst (λ (k : ℕ). Pass (range_checks (listed_numbers Cpu k) s)) (eqb-true (length s) 1191 e) (accept_pass Cpu s a).1 in
        let q = and_true (leb 4 (le_at 4 s 1183)) (leb (le_at 4 s 1183) 4) p.1.1.1.0 in
        omega (arith, eqb-true (length s) 1191 e, leb-true 4 (le_at 4 s 1183) q.0, leb-true (le_at 4 s 1183) 4 q.1)
    go false e = longer (omega (arith, eqb-false (length s) 1191 e)) (and_true (cpu_length 2 (length s)) (extends s) (right Cpu s a)).1

word : (s t : List ℕ) → Bytes s → Bytes t → Accepted Cpu s → Accepted Cpu t → length t ≡ length s → 1191 ≤ length s → take 4 (drop 1183 s) ≡ take 4 (drop 1183 (take 1191 t))
word s t b d a c n h =
    sym (bytes_of-le_at 4 s 1183 b (omega arith)) ∙ ap (bytes_of 4) (says s a h ∙ ap (λ (k : ℕ). k - 1187) (sym n) ∙ sym (says t c (omega arith))) ∙ bytes_of-le_at 4 t 1183 d (omega arith)
    ∙ sym (ap (take 4) (drop-take 1183 1191 t) ∙ take-take 4 8 (drop 1183 t) (omega arith))

over_is : (s t : List ℕ) → Bytes s → Bytes t → Accepted Cpu s → Accepted Cpu t → length t ≡ length s → cpu_over (cpu_of s) t ≡ take 1191 s ++ drop 1191 t
over_is s t b d a c n = ap (λ (l : List ℕ). l ++ drop 1191 t) (go (leb 1191 (length s)) refl)
  where
    short : length s < 1191 → (eqb (length s) 1183 || leb 1191 (length s)) ≡ true → length s ≡ 1183
    short g q = eqb-true (length s) 1183 (or_left (eqb (length s) 1183) (rw (lt-leb 1191 (length s) g) at q))
      where
        or_left : (x : Bool) → (x || false) ≡ true → x ≡ true
        or_left true e = refl
        or_left false e = e

    go : (x : Bool) → leb 1191 (length s) ≡ x → fields_over (cpu_of s) (take 1191 t) ≡ take 1191 s
    go true e =
        let h : 1191 ≤ length s = leb-true 1191 (length s) e in
        let l : length (take 1191 t) ≡ 1191 = length-take-le 1191 t (omega arith) in
        cpu_over_extended s (take 1191 t) b (omega arith) l (word s t b d a c n h)
    go false e =
        let h : length s < 1191 = leb-false 1191 (length s) e in
        let z : length s ≡ 1183 = short h (and_true (cpu_length 2 (length s)) (extends s) (right Cpu s a)).0 in
        let same : take 1191 t ≡ t = take_all 1191 t (omega arith) in
        ap (fields_over (cpu_of s)) same ∙ cpu_over_plain s t b (omega arith) z (n ∙ z) ∙ sym (take_all 1191 s (omega arith))

-- ---- a state that has the first 1191 bytes of another, and its length

abbrev Near : List (ℕ × ℕ × ℕ × ℕ) → Type 0
Near [] = Unit {0}
Near (x ∷ l) = (x.0 + x.1 ≤ 1191) × Near l

near_listed : (n : ℕ) → Near (listed_numbers Cpu n)
near_listed n = go (leb 1191 n) (eqb n 1191)
  where
    go : (x y : Bool) → Near (elim x as (λ _. List (ℕ × ℕ × ℕ × ℕ)) [ true ↦ registers ++ (elim y as (λ _. List (ℕ × ℕ × ℕ × ℕ)) [ true ↦ (1183, 4, 4, 4) ∷ switches | false ↦ switches ]) | false ↦ registers ])
    go true true = (omega arith, (omega arith, (omega arith, (omega arith, (omega arith, (omega arith, (omega arith, tt)))))))
    go true false = (omega arith, (omega arith, (omega arith, (omega arith, (omega arith, (omega arith, tt))))))
    go false y = (omega arith, (omega arith, (omega arith, tt)))

module _ (s u : List ℕ) (n : length u ≡ length s) (h : 1191 ≤ length s) (f : take 1191 u ≡ take 1191 s) where
  front : (x : List ℕ) → 1191 ≤ length x → (w p : ℕ) → p + w ≤ 1191 → le_at w x p ≡ le_at w (take 1191 x) p
  front x g w p k =
      let l : length (take 1191 x) ≡ 1191 = length-take-le 1191 x g in
      ap (λ (y : List ℕ). le_at w y p) (sym (take-append-drop 1191 x)) ∙ le_at-append w (take 1191 x) (drop 1191 x) p (omega arith)

  agree : (w p : ℕ) → p + w ≤ 1191 → le_at w u p ≡ le_at w s p
  agree w p k = front u (omega arith) w p k ∙ ap (λ (y : List ℕ). le_at w y p) f ∙ sym (front s h w p k)

  rows_agree : (l : List (ℕ × ℕ × ℕ × ℕ)) → Near l → range_checks l u ≡ range_checks l s
  rows_agree [] k = refl
  rows_agree (x ∷ l) k = cc (agree x.1 x.0 k.0, rows_agree l k.1)

  accepted_too : Accepted Cpu s → Accepted Cpu u
  unfolding state_checks
  accepted_too a =
      ap (λ (m : ℕ). asked ((cpu_length 2 m && (leb m 1191 || eqb m (1187 + le_at 4 u 1183)), SHAPE, 0) ∷ range_checks (listed_numbers Cpu m) u)) n
      ∙ ap (λ (x : ℕ). asked ((cpu_length 2 (length s) && (leb (length s) 1191 || eqb (length s) (1187 + x)), SHAPE, 0) ∷ range_checks (listed_numbers Cpu (length s)) u)) (agree 4 1183 (omega arith))
      ∙ ap (λ (r : Checks). asked ((cpu_sized 2 s, SHAPE, 0) ∷ r)) (rows_agree (listed_numbers Cpu (length s)) (near_listed (length s)))
      ∙ a

mixed_accepted : (s t : List ℕ) → length t ≡ length s → Accepted Cpu s → Accepted Cpu (take 1191 s ++ drop 1191 t)
mixed_accepted s t n a = go (leb 1191 (length s)) refl
  where
    go : (x : Bool) → leb 1191 (length s) ≡ x → Accepted Cpu (take 1191 s ++ drop 1191 t)
    go true e =
        let h : 1191 ≤ length s = leb-true 1191 (length s) e in
        let l : length (take 1191 s) ≡ 1191 = length-take-le 1191 s h in
        accepted_too s (take 1191 s ++ drop 1191 t) (omega (arith, length-append (take 1191 s) (drop 1191 t), length-drop 1191 t)) h (take_at (take 1191 s) (drop 1191 t) 1191 l) a
    go false e =
        let h : length s < 1191 = leb-false 1191 (length s) e in
        let g : length t ≤ 1191 = omega arith in
        subst (Accepted Cpu) (sym (ap (λ (l : List ℕ). l ++ drop 1191 t) (take_all 1191 s (omega arith)) ∙ ap (λ (l : List ℕ). s ++ l) (drop_of_length-le t g) ∙ append-nil s)) a

cpu_over_is : (s t : List ℕ) → Bytes s → Bytes t → Accepted Cpu s → Accepted Cpu t → length t ≡ length s → cpu_over_call (cpu_of s) t ≡ taken (take 1191 s ++ drop 1191 t)
unfolding cpu_over_call cpu_over_checks
cpu_over_is s t b d a c n =
    let is = over_is s t b d a c n in
    let m : matches (cpu_of s).extension (length t) ≡ true = subst (λ (k : ℕ). matches (cpu_of s).extension k ≡ true) (sym n) (matches_self (length s) (leb 1191 (length s)) refl) in
    pass-checked (cpu_over_checks (cpu_of s) t) (taken (cpu_over (cpu_of s) t)) (right Cpu t c, (m, accept_pass Cpu (cpu_over (cpu_of s) t) (subst (Accepted Cpu) (sym is) (mixed_accepted s t n a)))) ∙ ap taken is

cpu-over : (s t new : List ℕ) (x : CpuShown) (r : Answer) → Bytes s → Bytes t → Accepted Cpu s → Accepted Cpu t → length t ≡ length s → x ≡ cpu_shown (cpu_call s)
    → Changes (cpu_count (length t)) (cpu_over_call x.sheet t) t r new → (r.number ≡ 0) × (new ≡ take 1191 s ++ drop 1191 t)
cpu-over s t new x r b d a c n e k =
    let shown : x.sheet ≡ cpu_of s = ap (λ (y : CpuShown). y.sheet) (e ∙ ap cpu_shown (cpu_from s (cpu_of s) (a, refl))) in
    let o : cpu_over_call x.sheet t ≡ taken (take 1191 s ++ drop 1191 t) = ap (λ (y : CpuSheet). cpu_over_call y t) shown ∙ cpu_over_is s t b d a c n in
    (ap (λ (y : Answer). y.number) k.answers ∙ rw o, k.leaves ∙ ap (λ (y : Outcome (List ℕ)). memory_after y t) o)

over_to : (c : CpuSheet) (s t : List ℕ) → cpu_over_call c s ≡ taken t → Pass (cpu_over_checks c s) × (t ≡ cpu_over c s)
unfolding cpu_over_call
over_to c s t e = let q = checked-pass (cpu_over_checks c s) (taken (cpu_over c s)) t e in (q.0, sym (taken_is q.1))

over_from : (c : CpuSheet) (s t : List ℕ) → Pass (cpu_over_checks c s) × (t ≡ cpu_over c s) → cpu_over_call c s ≡ taken t
unfolding cpu_over_call
over_from c s t h = pass-checked (cpu_over_checks c s) (taken (cpu_over c s)) h.0 ∙ ap taken (sym h.1)

over_refuses : (c : CpuSheet) (s : List ℕ) (m p : ℕ) → (cpu_over_call c s ≡ refused m p) ↔ First (cpu_over_checks c s) m p
unfolding cpu_over_call
over_refuses c s m p = checked-first (cpu_over_checks c s) (cpu_over c s) m p

mmu_to : (s : List ℕ) (c : MmuSheet) → mmu_call s ≡ taken c → Accepted Mmu s × (c ≡ mmu_of s)
unfolding mmu_call
mmu_to s c e = let q = checked-pass (state_checks Mmu s) (taken (mmu_of s)) c e in (pass_accept Mmu s q.0, sym (taken_is q.1))

mmu_from : (s : List ℕ) (c : MmuSheet) → Accepted Mmu s × (c ≡ mmu_of s) → mmu_call s ≡ taken c
unfolding mmu_call
mmu_from s c h = pass-checked (state_checks Mmu s) (taken (mmu_of s)) (accept_pass Mmu s h.0) ∙ ap taken (sym h.1)

mmu-members : (s : List ℕ) (c : MmuSheet) → Bytes s → mmu_call s ≡ taken c → (have n i : ℕ) → HasField Mmu n i s → field_call Mmu have s n i ≡ fitting have (mmu_member c n i)
mmu-members s c b e have n i h =
    let q = mmu_to s c e in
    reads Mmu n i s have q.0 h ∙ ap (fitting have) (sym (mmu_ties s b n i h) ∙ ap (λ (x : MmuSheet). mmu_member x n i) (sym q.1))

mmu_over_is : (s t : List ℕ) → Bytes s → Accepted Mmu s → Accepted Mmu t → mmu_over_call (mmu_of s) t ≡ taken s
unfolding mmu_over_call
mmu_over_is s t b a c =
    let e = eqb-true (length s) 264 (right Mmu s a) in
    let f = eqb-true (length t) 264 (right Mmu t c) in
    pass-checked ((right_length Mmu t, SHAPE, 0) ∷ []) (taken (mmu_over (mmu_of s) t)) (right Mmu t c, tt) ∙ ap taken (mmu-over s t b (omega arith) e f)

mmu_over_back : (s t new : List ℕ) (x : MmuShown) (r : Answer) → Bytes s → Accepted Mmu s → Accepted Mmu t → x ≡ mmu_shown (mmu_call s) → Changes 264 (mmu_over_call x.sheet t) t r new
    → (r.number ≡ 0) × (new ≡ s)
mmu_over_back s t new x r b a c e k =
    let shown : x.sheet ≡ mmu_of s = ap (λ (y : MmuShown). y.sheet) (e ∙ ap mmu_shown (mmu_from s (mmu_of s) (a, refl))) in
    let o : mmu_over_call x.sheet t ≡ taken s = ap (λ (y : MmuSheet). mmu_over_call y t) shown ∙ mmu_over_is s t b a c in
    (ap (λ (y : Answer). y.number) k.answers ∙ rw o, k.leaves ∙ ap (λ (y : Outcome (List ℕ)). memory_after y t) o)

-- ---- Demand 1 of them

value_rows : (l : List (ℕ × ℕ × ℕ × ℕ)) (s : List ℕ) → Rows (range_checks l s)
value_rows [] s = tt
value_rows (x ∷ l) s = (plain 15 refl, value_rows l s)

field_core : (k : State) (s : List ℕ) (n i : ℕ) → Core (λ have. field_call k have s n i)
unfolding field_call field_checks
field_core k s n i =
    let b : List ℕ = bytes_at (row_at k n) i s in
    let rows : Checks = field_checks k (row_at k n) i s in
    record {
      core = checked rows (taken b);
      apart = checked_refuses Plain rows (taken b) (plain 11 refl, (plain 11 refl, value_rows (listed_numbers k (length s)) s)) tt;
      same = λ have. sym (checked-after rows (taken b) (fitting have));
    }

place_stays : (count : ℕ) (o : Outcome (List ℕ)) (s new : List ℕ) (r : Answer) → Changes count o s r new → r.number ≢ 0 → new ≡ s
place_stays count (taken t) s new r c h = absurd (h (ap (λ (y : Answer). y.number) c.answers))
place_stays count (refused m p) s new r c h = c.leaves

place_refuses : (count : ℕ) (o : Outcome (List ℕ)) (s new : List ℕ) (r : Answer) (m p : ℕ) → Changes count o s r new → o ≡ refused m p → (r.number ≡ m) × (r.place ≡ p) × (new ≡ s)
place_refuses count o s new r m p c e =
    let q : r ≡ record { number = m; place = p } = c.answers ∙ ap (stored_answer count) e in
    (ap (λ (y : Answer). y.number) q, ap (λ (y : Answer). y.place) q, c.leaves ∙ ap (λ (y : Outcome (List ℕ)). memory_after y s) e)

place_takes : (count : ℕ) (o : Outcome (List ℕ)) (s new t : List ℕ) (r : Answer) → Changes count o s r new → o ≡ taken t → (r.number ≡ 0) × (r.place ≡ count) × (new ≡ t)
place_takes count o s new t r c e =
    let q : r ≡ record { number = 0; place = count } = c.answers ∙ ap (stored_answer count) e in
    (ap (λ (y : Answer). y.number) q, ap (λ (y : Answer). y.place) q, c.leaves ∙ ap (λ (y : Outcome (List ℕ)). memory_after y s) e)

-- ---- all of it

pub sheet : stated.Sheet
sheet = record {
  reading = λ k. record { fills = λ s n i. fills _ (field_core k s n i); takes = λ have n i s x. (read_to k n i s have x, read_from k n i s have x); refuses = λ have n i s m p. read_refuses k n i s have m p };
  setting = λ k. record {
    takes = λ n i v s t. (set-to k n i v s t, set_from k n i v s t);
    refuses = λ n i v s m p. set_refuses k n i v s m p;
    numbers = λ n i v s m p e. set-numbers k n i v s m p e;
    only = λ n i v s new r c. set-only k n i v s new r c;
    back = λ n i have v s t e. set_back k n i v s have t e;
    same = λ n i have v s e. set_same k n i have v s e;
  };
  in_place = record { stays = place_stays; refuses = place_refuses; takes = place_takes };
  cpu = record {
    takes = λ s c. (cpu_to s c, cpu_from s c);
    refuses = cpu_refuses;
    members = cpu-members;
    extended = λ s c e. ap (λ (x : CpuSheet). x.extension.there) (cpu_to s c e).1;
    over = cpu-over;
    past = λ c s. sym (drop-append_seam (fields_over c (take 1191 s)) (drop 1191 s));
    back = λ s new x r b a e c. let q = cpu-over s s new x r b b a a refl e c in (q.0, q.1 ∙ take-append-drop 1191 s);
    over-takes = λ c s t. (over_to c s t, over_from c s t);
    over_refuses = over_refuses;
  };
  mmu = record { takes = λ s m. (mmu_to s m, mmu_from s m); members = mmu-members; over = mmu_over_back; back = λ s new x r b a e c. mmu_over_back s s new x r b a a e c };
  access = record { shows = shows; determined = λ w v e. sym (shows w).sum ∙ ap word_of e ∙ (shows v).sum };
}
