-- Request 13: readiness, from its definition (crates/ready/specs/Missing.antt).
-- Assumes nothing.
use mathlib.Core.Path.{◌≡◌, refl, sym, ◌∙◌, ap, subst}
use mathlib.Core.Logic.{◌≢◌, ◌↔◌, ◌⊎◌, inl, inr}
use mathlib.Core.Bool.{Bool, true, false, ◌||◌, cond}
use mathlib.Core.List.{List, [], ◌∷◌, ◌++◌, Permᴰ}
use Prim.Native.Nat.{ℕ, zero, suc, ◌*◌, ◌≤◌, ◌<◌}
use native.Mathlib.Omega.{arith}
use lib.Dec.{leb, eqb}
use lib.ListN.{length, drop, get_or, length-append}
use borrow.Author.Tests.{eqb-true, eq-eqb, leb-false}
use Rattle.answer.specs.Numbers.{ROOM, is_number}
use Rattle.answer.specs.Outcome.{Outcome, taken, refused, after, fitting}
use Rattle.answer.specs.Calls.{memory}
use Rattle.answer.proofs.Table.{fault_number, fault_some}
use Rattle.wire.proofs.Numbers.{length-bytes_of}
use Rattle.wire.specs.Numbers.{bytes_of}
use Rattle.order.specs.Keyed.{Every, flat, has, Asc}
use Rattle.order.specs.Entries.{join}
use Rattle.order.proofs.Sorts.{sort_unique}
use Rattle.entries.specs.Kinds.{id_key, devices, disks}
use Rattle.aerosnap.specs.Known.{DEVICES, DISKS}
use Rattle.aerosnap.specs.File.{header}
use Rattle.aerosnap.specs.Rules.{IsFile}
use Rattle.aerosnap.specs.Content.{Content, content_of, content_at, entries_in}
use Rattle.aerosnap.proofs.Canon.{entries_apart}
use Rattle.aerosnap.proofs.Taken.{file_complete}
use Rattle.aerosnap.proofs.Named.{content_faulty}
use Rattle.dskc.specs.Wrapper.{wrapper_of}
use Rattle.ready.specs.declared.Readiness.{Readiness}
use Rattle.ready.specs.Missing.{has_id, with_id, is_taken, one_wrapper, Need, wanted_device, wanted, name_in, lacking, missing, pair_bytes, pairs_bytes, ready_call, as_readiness, Tells}
use Rattle.ready.proofs.Once.{tells_once}
use Rattle.demands.specs.Ready.{HasEntry, OneWrapper, Restorable, Lacks, pit, rtc, wrapper, i8042, acpi_pm, hpet, controller, disk-0, disk-1, PairIn, pair_key, IsMissing, SaysReady, Refuses, ReadyToRestore}

-- ---- an id that an entry has

has_some : (k : ℕ) (l : List (List ℕ)) → has_id k l ≡ true → HasEntry k l
unfolding has
has_some k [] h = let z : ◌≡◌ {A = ℕ} 0 1 = cc in absurd (omega arith)
has_some k (e ∷ l) h = go (eqb k (id_key e)) refl h (has_some k l)
  where
    go : (b : Bool) → eqb k (id_key e) ≡ b → ◌≡◌ {A = Bool} (elim b as (λ _. Bool) [ true ↦ true | false ↦ has_id k l ]) true → (has_id k l ≡ true → HasEntry k l) → (id_key e ≡ k) ⊎ HasEntry k l
    go true q h r = inl (sym (eqb-true k (id_key e) q))
    go false q h r = inr (r h)

some_has : (k : ℕ) (l : List (List ℕ)) → HasEntry k l → has_id k l ≡ true
unfolding has
some_has k [] h = absurd h
some_has k (e ∷ l) (inl h) = rw (eq-eqb k (id_key e) (sym h), has)
some_has k (e ∷ l) (inr h) = go (eqb k (id_key e)) (some_has k l h)
  where
    go : (b : Bool) → has_id k l ≡ true → ◌≡◌ {A = Bool} (elim b as (λ _. Bool) [ true ↦ true | false ↦ has_id k l ]) true
    go true r = refl
    go false r = r

-- a test that says whether something holds
pub record Tests (b : Bool) (P : Type 0) : Type 0 where
  holds : b ≡ true → P
  says : P → b ≡ true

module _ {b : Bool} {P : Type 0} (t : Tests b P) where
  fails : b ≡ false → P → ⊥
  fails e p = let q : b ≡ true = t.says p in let z : ◌≡◌ {A = ℕ} 0 1 = cc in absurd (omega arith)

  not_held : (P → ⊥) → b ≡ false
  not_held h = go b refl
    where
      go : (c : Bool) → b ≡ c → c ≡ false
      go true e = absurd (h (t.holds e))
      go false e = refl

has_tests : (k : ℕ) (l : List (List ℕ)) → Tests (has_id k l) (HasEntry k l)
has_tests k l = record { holds = has_some k l; says = some_has k l }

either_tests : {a b : Bool} {P Q : Type 0} → Tests a P → Tests b Q → Tests (a || b) (P ⊎ Q)
either_tests {a} {b} {P} {Q} s t = record { holds = go a refl; says = back }
  where
    go : (c : Bool) → a ≡ c → (a || b) ≡ true → P ⊎ Q
    go true e h = inl (s.holds e)
    go false e h = inr (t.holds (rw e at h))

    back : P ⊎ Q → (a || b) ≡ true
    back (inl p) = rw (s.says p)
    back (inr q) = other a (t.says q)
      where
        other : (c : Bool) → b ≡ true → (c || b) ≡ true
        other true e = refl
        other false e = e

taken_tests : {A : Type 0} (o : Outcome A) → Tests (is_taken o) ((a : A) × (o ≡ taken a))
taken_tests o = record { holds = go o refl; says = λ (a, e). rw e }
  where
    go : (x : Outcome _) → o ≡ x → is_taken o ≡ true → (a : _) × (o ≡ taken a)
    go (taken a) e h = (a, e)
    go (refused n p) e h = let q : is_taken o ≡ false = rw e in let z : ◌≡◌ {A = ℕ} 0 1 = cc in absurd (omega arith)

wrapper_tests : (l : List (List ℕ)) → Tests (one_wrapper (with_id 6 l)) (OneWrapper l)
wrapper_tests l = record { holds = go (with_id 6 l) refl; says = λ (e, q, w). rw q ((taken_tests (wrapper_of (drop 16 e))).says w) }
  where
    go : (m : List (List ℕ)) → with_id 6 l ≡ m → one_wrapper (with_id 6 l) ≡ true → OneWrapper l
    go [] e h = let q : one_wrapper (with_id 6 l) ≡ false = rw e in let z : ◌≡◌ {A = ℕ} 0 1 = cc in absurd (omega arith)
    go (x ∷ []) e h = (x, e, (taken_tests (wrapper_of (drop 16 x))).holds (rw e at h))
    go (x ∷ y ∷ m) e h = let q : one_wrapper (with_id 6 l) ≡ false = rw e in let z : ◌≡◌ {A = ℕ} 0 1 = cc in absurd (omega arith)

controller_tests : (l : List (List ℕ)) → Tests (has_id 2 l || has_id 21 l) (HasEntry 2 l ⊎ HasEntry 21 l)
controller_tests l = either_tests (has_tests 2 l) (has_tests 21 l)

-- ---- what is missing

module _ (c : Content) where
  -- a need that is not met is lacking
  meant : Every (λ n. n.there c ≡ false → Lacks c n.part n.id) wanted
  meant = (
    (λ h. pit (fails (has_tests 3 c.devices) h)),
    (
      (λ h. rtc (fails (has_tests 4 c.devices) h)),
      (
        (λ h. wrapper (fails (wrapper_tests c.devices) h)),
        (
          (λ h. i8042 (fails (has_tests 13 c.devices) h)),
          (
            (λ h. acpi_pm (fails (has_tests 16 c.devices) h)),
            (
              (λ h. hpet (fails (has_tests 17 c.devices) h)),
              (
                (λ h. let f = fails (controller_tests c.devices) h in controller (λ x. f (inl x)) (λ x. f (inr x))),
                ((λ h. disk-0 (fails (has_tests 0 c.disks) h)), ((λ h. disk-1 (fails (has_tests 1 c.disks) h)), tt)),
              ),
            ),
          ),
        ),
      ),
    ),
  )

  listed_lacks : (part id : ℕ) (ns : List Need) → Every (λ n. n.there c ≡ false → Lacks c n.part n.id) ns → PairIn part id (flat (lacking c) ns) → Lacks c part id
  listed_lacks part id [] m h = absurd h
  listed_lacks part id (n ∷ ns) m h = go (n.there c) refl h (listed_lacks part id ns m.1)
    where
      go : (b : Bool) → n.there c ≡ b → PairIn part id (cond b [] (name_in n ∷ []) ++ flat (lacking c) ns) → (PairIn part id (flat (lacking c) ns) → Lacks c part id) → Lacks c part id
      go true e h r = r h
      go false e (inl (p, q)) r = rw (← p, ← q) (m.0 e)
      go false e (inr h) r = r h

  -- the need with a number, if it is not met, is listed
  listed_in : (ns : List Need) (i : ℕ) → i < length ns → (get_or ns i (wanted_device 0)).there c ≡ false → PairIn (get_or ns i (wanted_device 0)).part (get_or ns i (wanted_device 0)).id (flat (lacking c) ns)
  listed_in [] i h e = absurd (omega arith)
  listed_in (n ∷ ns) zero h e = rw e (inl (refl, refl))
  listed_in (n ∷ ns) (suc i) h e = go (n.there c) (listed_in ns i (omega arith) e)
    where
      m : Need
      m = get_or ns i (wanted_device 0)

      go : (b : Bool) → PairIn m.part m.id (flat (lacking c) ns) → PairIn m.part m.id (cond b [] (name_in n ∷ []) ++ flat (lacking c) ns)
      go true h = h
      go false h = inr h

  lacks_listed : (part id : ℕ) → Lacks c part id → PairIn part id (missing c)
  lacks_listed part id (pit h) = listed_in wanted 0 (omega arith) (not_held (has_tests 3 c.devices) h)
  lacks_listed part id (rtc h) = listed_in wanted 1 (omega arith) (not_held (has_tests 4 c.devices) h)
  lacks_listed part id (wrapper h) = listed_in wanted 2 (omega arith) (not_held (wrapper_tests c.devices) h)
  lacks_listed part id (i8042 h) = listed_in wanted 3 (omega arith) (not_held (has_tests 13 c.devices) h)
  lacks_listed part id (acpi_pm h) = listed_in wanted 4 (omega arith) (not_held (has_tests 16 c.devices) h)
  lacks_listed part id (hpet h) = listed_in wanted 5 (omega arith) (not_held (has_tests 17 c.devices) h)
  lacks_listed part id (controller g h) = listed_in wanted 6 (omega arith) (not_held (controller_tests c.devices) (λ x. elim x [ inl y ↦ g y | inr y ↦ h y ]))
  lacks_listed part id (disk-0 h) = listed_in wanted 7 (omega arith) (not_held (has_tests 0 c.disks) h)
  lacks_listed part id (disk-1 h) = listed_in wanted 8 (omega arith) (not_held (has_tests 1 c.disks) h)

  -- what is left out keeps the order
  asc_low : (m n : ℕ) (l : List (ℕ × ℕ)) → m ≤ n → Asc pair_key n l → Asc pair_key m l
  asc_low m n [] h a = tt
  asc_low m n (x ∷ l) h a = (omega (arith, a.0), a.1)

  asc_lacking : (k : ℕ) (ns : List Need) → Asc (λ n. pair_key (name_in n)) k ns → Asc pair_key k (flat (lacking c) ns)
  asc_lacking k [] a = tt
  asc_lacking k (n ∷ ns) a = go (n.there c) (asc_lacking (suc (pair_key (name_in n))) ns a.1)
    where
      go : (b : Bool) → Asc pair_key (suc (pair_key (name_in n))) (flat (lacking c) ns) → Asc pair_key k (cond b [] (name_in n ∷ []) ++ flat (lacking c) ns)
      go true r = asc_low k (suc (pair_key (name_in n))) (flat (lacking c) ns) (omega (arith, a.0)) r
      go false r = (a.0, r)

  is_missing : IsMissing c (missing c)
  is_missing = record {
    exactly = λ part id. (listed_lacks part id wanted meant, lacks_listed part id);
    ascend = asc_lacking 0 wanted (omega arith, (omega arith, (omega arith, (omega arith, (omega arith, (omega arith, (omega arith, (omega arith, (omega arith, tt)))))))));
  }

  -- nothing is missing exactly from what can be restored
  all_met : (ns : List Need) → flat (lacking c) ns ≡ [] → Every (λ n. n.there c ≡ true) ns
  all_met [] e = tt
  all_met (n ∷ ns) e = go (n.there c) refl e (all_met ns)
    where
      go : (b : Bool) → n.there c ≡ b → ◌≡◌ {A = List (ℕ × ℕ)} (cond b [] (name_in n ∷ []) ++ flat (lacking c) ns) [] → (flat (lacking c) ns ≡ [] → Every (λ n. n.there c ≡ true) ns) → (n.there c ≡ true) × Every (λ n. n.there c ≡ true) ns
      go true q e r = (q, r e)
      go false q e r = let z : ◌≡◌ {A = ℕ} 0 (suc (length (flat (lacking c) ns))) = ap length (sym e) in absurd (omega arith)

  met_none : (ns : List Need) → Every (λ n. n.there c ≡ true) ns → flat (lacking c) ns ≡ []
  met_none [] m = refl
  met_none (n ∷ ns) m = rw m.0 (met_none ns m.1)

  none_restorable : missing c ≡ [] → Restorable c
  none_restorable e =
      let (a, (b, (w, (i, (p, (h, (k, (d, (f, _))))))))) = all_met wanted e in
      record {
        controller = (controller_tests c.devices).holds k;
        pit = has_some 3 c.devices a;
        rtc = has_some 4 c.devices b;
        i8042 = has_some 13 c.devices i;
        acpi_pm = has_some 16 c.devices p;
        hpet = has_some 17 c.devices h;
        wrapper = (wrapper_tests c.devices).holds w;
        disk-0 = has_some 0 c.disks d;
        disk-1 = has_some 1 c.disks f;
      }

  restorable_none : Restorable c → missing c ≡ []
  restorable_none v =
      met_none wanted (
        some_has 3 c.devices v.pit,
        (
          some_has 4 c.devices v.rtc,
          (
            (wrapper_tests c.devices).says v.wrapper,
            (
              some_has 13 c.devices v.i8042,
              (
                some_has 16 c.devices v.acpi_pm,
                (
                  some_has 17 c.devices v.hpet,
                  ((controller_tests c.devices).says v.controller, (some_has 0 c.disks v.disk-0, (some_has 1 c.disks v.disk-1, tt))),
                ),
              ),
            ),
          ),
        ),
      )

-- ---- the answer

pairs_long : (l : List (ℕ × ℕ)) → length (pairs_bytes l) ≡ 8 * length l
pairs_long [] = refl
pairs_long (p ∷ l) =
    omega (arith, length-append (pair_bytes p) (pairs_bytes l), length-append (bytes_of 4 p.0) (bytes_of 4 p.1), length-bytes_of 4 p.0, length-bytes_of 4 p.1, pairs_long l)

-- what is answered with a list: number 0, its bytes, and a yes exactly if it is empty
pub record Given (b : List ℕ) (r : Readiness) : Type 0 where
  number : r.number ≡ 0
  place : r.place ≡ length b
  is_yes : length b ≡ 0 → r.ready ≡ 1
  is_no : (length b ≡ 0 → ⊥) → r.ready ≡ 0

given : (b : List ℕ) {r : Readiness} → r ≡ as_readiness (taken b) → Given b r
given [] e = rw e (record { number = refl; place = refl; is_yes = λ _. refl; is_no = λ h. absurd (h refl) })
given (x ∷ b) e = rw e (record { number = refl; place = refl; is_yes = λ h. absurd (omega arith); is_no = λ _. refl })

-- the three ends of a call
data Ends (s old : List ℕ) (r : Readiness) (new : List ℕ) : Type 0 where
  faulty : content_at s ≡ refused r.number r.place → 1 ≤ r.number → r.ready ≡ 0 → new ≡ old → Ends s old r new
  short : (c : Content) → content_at s ≡ taken c → length old < length (pairs_bytes (missing c)) → r.number ≡ ROOM → r.place ≡ length (pairs_bytes (missing c)) → r.ready ≡ 0 → new ≡ old → Ends s old r new
  told : (c : Content) → content_at s ≡ taken c → Given (pairs_bytes (missing c)) r → new ≡ pairs_bytes (missing c) ++ drop (length (pairs_bytes (missing c))) old → Ends s old r new

ends : (s old new : List ℕ) (r : Readiness) → SaysReady s old r new → Ends s old r new
unfolding ready_call
ends s old new r v = go (content_at s) refl
  where
    call : (o : Outcome Content) → content_at s ≡ o → ready_call (length old) s ≡ after o (λ c. fitting (length old) (pairs_bytes (missing c)))
    call o e = ap (λ (x : Outcome Content). after x (λ c. fitting (length old) (pairs_bytes (missing c)))) e

    go : (o : Outcome Content) → content_at s ≡ o → Ends s old r new
    go (refused n p) e =
        let q : r ≡ as_readiness (refused n p) = v.answers ∙ ap as_readiness (call (refused n p) e) in
        faulty (e ∙ rw q) (rw q (fault_some n (rw e at (content_faulty s)))) (rw q) (v.leaves ∙ ap (λ (x : Outcome (List ℕ)). memory x old) (call (refused n p) e))
    go (taken c) e = fit (leb (length b) (length old)) refl
      where
        b : List ℕ
        b = pairs_bytes (missing c)

        fit : (t : Bool) → leb (length b) (length old) ≡ t → Ends s old r new
        fit true f =
            let w : ready_call (length old) s ≡ taken b = call (taken c) e ∙ rw f in
            told c e (given b (v.answers ∙ ap as_readiness w)) (v.leaves ∙ ap (λ (x : Outcome (List ℕ)). memory x old) w)
        fit false f =
            let w : ready_call (length old) s ≡ refused ROOM (length b) = call (taken c) e ∙ rw f in
            let q : r ≡ as_readiness (refused ROOM (length b)) = v.answers ∙ ap as_readiness w in
            short c e (leb-false (length b) (length old) f) (rw q) (rw q) (rw q) (v.leaves ∙ ap (λ (x : Outcome (List ℕ)). memory x old) w)

-- a file has one content
one_content : (s : List ℕ) {c d : Content} → content_at s ≡ taken c → content_at s ≡ taken d → d ≡ c
one_content s e f = cc

yes_exactly : (s old new : List ℕ) (r : Readiness) → Ends s old r new → (r.ready ≡ 1) ↔ ((c : Content) × (content_at s ≡ taken c) × Restorable c)
yes_exactly s old new r (faulty e n y l) = ((λ h. absurd (omega arith)), λ (c, f, v). let z : ◌≡◌ {A = ℕ} 0 1 = cc in absurd (omega arith))
yes_exactly s old new r (short c e k n p y l) = (
  (λ h. absurd (omega arith)),
  λ (d, f, v). let q : missing c ≡ [] = rw (one_content s e f) at (restorable_none d v) in absurd (omega (arith, ap (λ (x : List (ℕ × ℕ)). length (pairs_bytes x)) q)),
)
yes_exactly s old new r (told c e g l) = (
  (λ h. (c, e, none_restorable c (empty (missing c) refl h))),
  λ (d, f, v). let q : missing c ≡ [] = rw (one_content s e f) at (restorable_none d v) in g.is_yes (ap (λ (x : List (ℕ × ℕ)). length (pairs_bytes x)) q),
)
  where
    empty : (m : List (ℕ × ℕ)) → missing c ≡ m → r.ready ≡ 1 → missing c ≡ []
    empty [] q h = q
    empty (p ∷ m) q h = absurd (omega (arith, g.is_no (λ z. omega (arith, pairs_long (missing c), ap length q))))

yes_or_no : (s old new : List ℕ) (r : Readiness) → Ends s old r new → (r.ready ≡ 0) ⊎ (r.ready ≡ 1)
yes_or_no s old new r (faulty e n y l) = inl y
yes_or_no s old new r (short c e k n p y l) = inl y
yes_or_no s old new r (told c e g l) = go (length (pairs_bytes (missing c))) refl
  where
    go : (n : ℕ) → length (pairs_bytes (missing c)) ≡ n → (r.ready ≡ 0) ⊎ (r.ready ≡ 1)
    go zero h = inr (g.is_yes h)
    go (suc n) h = inl (g.is_no (λ z. omega arith))

list_is : (s old new : List ℕ) (r : Readiness) → Ends s old r new → r.number ≡ 0
    → (c : Content) × (l : List (ℕ × ℕ)) × (content_at s ≡ taken c) × IsMissing c l × (r.place ≡ 8 * length l) × (new ≡ pairs_bytes l ++ drop (8 * length l) old)
list_is s old new r (faulty e n y l) h = absurd (omega arith)
list_is s old new r (short c e k n p y l) h = absurd (omega arith)
list_is s old new r (told c e g l) h = (c, missing c, e, is_missing c, g.place ∙ pairs_long (missing c), l ∙ ap (λ (n : ℕ). pairs_bytes (missing c) ++ drop n old) (pairs_long (missing c)))

empty_is : (s old new : List ℕ) (r : Readiness) → Ends s old r new → r.number ≡ 0 → (r.place ≡ 0) ↔ (r.ready ≡ 1)
empty_is s old new r (faulty e n y l) h = absurd (omega arith)
empty_is s old new r (short c e k n p y l) h = absurd (omega arith)
empty_is s old new r (told c e g l) h = ((λ z. g.is_yes (sym g.place ∙ z)), go (length (pairs_bytes (missing c))) refl)
  where
    go : (n : ℕ) → length (pairs_bytes (missing c)) ≡ n → r.ready ≡ 1 → r.place ≡ 0
    go zero q y = g.place ∙ q
    go (suc n) q y = absurd (omega (arith, g.is_no (λ z. omega arith)))

refuses_so : (s old new : List ℕ) (r : Readiness) → Ends s old r new → r.number ≢ 0 → Refuses s old r.number r.place × (r.ready ≡ 0) × (new ≡ old)
refuses_so s old new r (faulty e n y l) h = (inl e, y, l)
refuses_so s old new r (short c e k n p y l) h = (inr (c, missing c, e, is_missing c, omega (arith, pairs_long (missing c)), n, p ∙ pairs_long (missing c)), y, l)
refuses_so s old new r (told c e g l) h = absurd (h g.number)

numbers-in : (s old new : List ℕ) (r : Readiness) → Ends s old r new → r.number ≢ 0 → is_number r.number ≡ true
numbers-in s old new r (faulty e n y l) h = fault_number r.number (rw e at (content_faulty s))
numbers-in s old new r (short c e k n p y l) h = rw n refl
numbers-in s old new r (told c e g l) h = absurd (h g.number)

-- only devices and disks count
same-missing : (c d : Content) → c.devices ≡ d.devices → c.disks ≡ d.disks → missing c ≡ missing d
same-missing c d p q = rw (p, q)

same_call : (have : ℕ) (s t : List ℕ) → content_at s ≡ content_at t → ready_call have s ≡ ready_call have t
unfolding ready_call
same_call have s t e = ap (λ (o : Outcome Content). after o (λ c. fitting have (pairs_bytes (missing c)))) e

any_order : (have : ℕ) (l m : List (List ℕ)) → IsFile l → IsFile m → Permᴰ (entries_in DEVICES devices l) (entries_in DEVICES devices m) → Permᴰ (entries_in DISKS disks l) (entries_in DISKS disks m)
    → ready_call have (header ++ join l) ≡ ready_call have (header ++ join m)
unfolding ready_call
any_order have l m f g p q =
    let call : (x : List (List ℕ)) → IsFile x → ready_call have (header ++ join x) ≡ fitting have (pairs_bytes (missing (content_of x))) =
    λ x v. ap (λ (o : Outcome (List (List ℕ))). after (after o (λ y. taken (content_of y))) (λ c. fitting have (pairs_bytes (missing c)))) (file_complete x v) in
    call l f
    ∙ ap (λ (z : List (ℕ × ℕ)). fitting have (pairs_bytes z)) (same-missing (content_of l) (content_of m) (sort_unique devices.key p (entries_apart l f).0) (sort_unique disks.key q (entries_apart l f).1))
    ∙ sym (call m g)

pub ready : ReadyToRestore
ready = record {
  yes_exactly = λ s old new r v. yes_exactly s old new r (ends s old new r v);
  yes_or_no = λ s old new r v. yes_or_no s old new r (ends s old new r v);
  list = λ s old new r v h. list_is s old new r (ends s old new r v) h;
  empty = λ s old new r v h. empty_is s old new r (ends s old new r v) h;
  refuses = λ s old new r v h. refuses_so s old new r (ends s old new r v) h;
  numbers = λ s old new r v h. numbers-in s old new r (ends s old new r v) h;
  same = λ s t old new now r q e v w. tells_once v (subst (λ (o : Outcome (List ℕ)). Tells o old q now) (sym (same_call (length old) s t e)) w);
  any_order = any_order;
}
