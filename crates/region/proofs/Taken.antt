-- A region is taken exactly if it follows the rules, in whichever order they are asked.
-- Assumes nothing.
use Rattle.std.proofs.Common.{◌≡◌, ℕ, zero, suc, ◌+◌, ◌-◌, ◌*◌, ◌^◌, ◌<◌, ◌≤◌, Bool, true, false, ◌||◌, eqb, ltb, leb, pow-suc, ◌⊎◌, ◌↔◌, List, [], ◌∷◌, sym, refl, ◌∙◌, ap, inl, inr, ⊎_elim, arith, lit≤, ltb-true, lt-ltb, eq-eqb, eqb-true, le-leb, leb-true}
use native.Mathlib.Decide.{dec_lt}
use Rattle.std.specs.Int.{is_power_of_two}
use Rattle.std.specs.Int.RustNames.{count_ones}
use Rattle.std.proofs.lemmas.Nat.{ones_cat, zero_from_ones, pow_below}
use Rattle.answer.specs.Numbers.{REGION}
use Rattle.answer.specs.Outcome.{taken, Pass, each}
use Rattle.answer.specs.Calls.{asked}
use Rattle.answer.proofs.Checks.{pass-checked, asked-pass, pass-append, append-pass}
use Rattle.wire.specs.Numbers.{le_at}
use Rattle.region.specs.declared.Ring.{Ring}
use Rattle.region.specs.Region.{count_of, offset_of, capacity_of, end_of, ring_at, is_capacity, region_header_checks, apart_check, descriptor_checks, cursor_checks, ring_checks, table_checks, region_checks, queue_checks}
use Rattle.region.specs.Valid.{Consistent, Power, Queue, Apart, Valid}
use Rattle.region.specs.Steps.{Right}
use Rattle.answer.proofs.Each.{each-pass, pass-each}

-- ---- a capacity

or_cases : (s t : Bool) → (s || t) ≡ true → (s ≡ true) ⊎ (t ≡ true)
or_cases true t h = inl refl
or_cases false t h = inr h

or_left : (s t : Bool) → s ≡ true → (s || t) ≡ true
or_left s t h = rw h

or_right : (s t : Bool) → t ≡ true → (s || t) ≡ true
or_right true t h = refl
or_right false t h = h

power_is : (x k d : ℕ) → 6 + d ≡ k → k ≤ 16 → eqb x (2 ^ k) ≡ true → Power x
power_is x k d e l h = record { exponent = k; least = omega arith; most = l; is = eqb-true x (2 ^ k) h }

power_or : (x k d : ℕ) (t : Bool) → 6 + d ≡ k → k ≤ 16 → (t ≡ true → Power x) → (eqb x (2 ^ k) || t) ≡ true → Power x
power_or x k d t e l f h = ⊎_elim (λ g. power_is x k d e l g) f (or_cases (eqb x (2 ^ k)) t h)

pub capacity_power : (x : ℕ) → is_capacity x ≡ true → Power x
unfolding is_capacity
capacity_power x =
    power_or x 6 0 _ refl (lit≤ tt) (power_or x 7 1 _ refl (lit≤ tt) (power_or x 8 2 _ refl (lit≤ tt) (power_or x 9 3 _ refl (lit≤ tt)
    (power_or x 10 4 _ refl (lit≤ tt) (power_or x 11 5 _ refl (lit≤ tt) (power_or x 12 6 _ refl (lit≤ tt) (power_or x 13 7 _ refl (lit≤ tt)
    (power_or x 14 8 _ refl (lit≤ tt) (power_or x 15 9 _ refl (lit≤ tt) (power_is x 16 10 refl (lit≤ tt)))))))))))

-- what holds of each of the eleven holds of a power of two from 64 to 65,536
pub record Eleven (P : ℕ → Type 0) : Type 0 where
  pub p6 : P 64
  pub p7 : P 128
  pub p8 : P 256
  pub p9 : P 512
  pub p10 : P 1024
  pub p11 : P 2048
  pub p12 : P 4096
  pub p13 : P 8192
  pub p14 : P 16384
  pub p15 : P 32768
  pub p16 : P 65536

eleven : (P : ℕ → Type 0) → Eleven P → (d : ℕ) → d ≤ 10 → P (2 ^ (6 + d))
eleven P e zero h = e.p6
eleven P e (suc zero) h = e.p7
eleven P e (suc (suc zero)) h = e.p8
eleven P e (suc (suc (suc zero))) h = e.p9
eleven P e (suc (suc (suc (suc zero)))) h = e.p10
eleven P e (suc (suc (suc (suc (suc zero))))) h = e.p11
eleven P e (suc (suc (suc (suc (suc (suc zero)))))) h = e.p12
eleven P e (suc (suc (suc (suc (suc (suc (suc zero))))))) h = e.p13
eleven P e (suc (suc (suc (suc (suc (suc (suc (suc zero)))))))) h = e.p14
eleven P e (suc (suc (suc (suc (suc (suc (suc (suc (suc zero))))))))) h = e.p15
eleven P e (suc (suc (suc (suc (suc (suc (suc (suc (suc (suc zero)))))))))) h = e.p16
eleven P e (suc (suc (suc (suc (suc (suc (suc (suc (suc (suc (suc d))))))))))) h = absurd (omega arith)

pub power_case : (P : ℕ → Type 0) → Eleven P → {x : ℕ} → Power x → P x
power_case P e w =
    let l = w.least in
    let m = w.most in
    let z : 6 + (w.exponent - 6) ≡ w.exponent = omega arith in
    rw (w.is, ← z) (eleven P e (w.exponent - 6) (omega arith))

pub power_capacity : {x : ℕ} → Power x → is_capacity x ≡ true
unfolding is_capacity
power_capacity w = power_case (λ x. is_capacity x ≡ true) (record { p6 = refl; p7 = refl; p8 = refl; p9 = refl; p10 = refl; p11 = refl; p12 = refl; p13 = refl; p14 = refl; p15 = refl; p16 = refl }) w

power_size : {x : ℕ} → Power x → (64 ≤ x) × (x ≤ 65536) × (is_power_of_two x ≡ true)
unfolding count_ones
power_size w = power_case (λ x. (64 ≤ x) × (x ≤ 65536) × (is_power_of_two x ≡ true))
    (record { p6 = (lit≤ tt, lit≤ tt, refl); p7 = (lit≤ tt, lit≤ tt, refl); p8 = (lit≤ tt, lit≤ tt, refl); p9 = (lit≤ tt, lit≤ tt, refl); p10 = (lit≤ tt, lit≤ tt, refl); p11 = (lit≤ tt, lit≤ tt, refl); p12 = (lit≤ tt, lit≤ tt, refl); p13 = (lit≤ tt, lit≤ tt, refl); p14 = (lit≤ tt, lit≤ tt, refl); p15 = (lit≤ tt, lit≤ tt, refl); p16 = (lit≤ tt, lit≤ tt, refl) }) w

ones_one : count_ones 1 ≡ 1
unfolding count_ones
ones_one = refl

-- a number with one bit
one_bit : (k n : ℕ) → n < 2 ^ k → count_ones n ≡ 1 → (j : ℕ) × (n ≡ 2 ^ j)
unfolding count_ones
one_bit zero n h e = let z : n ≡ 0 = omega arith in let o : count_ones 0 ≡ 1 = rw z at e in absurd (omega arith)
one_bit (suc k) n h e = go (dec_lt n (2 ^ k)) (λ l. one_bit k n l e)
  where
    go : Dec (n < 2 ^ k) → (n < 2 ^ k → (j : ℕ) × (n ≡ 2 ^ j)) → (j : ℕ) × (n ≡ 2 ^ j)
    go (yes l) r = r l
    go (no l) r =
        let double : 2 ^ suc k ≡ 2 ^ k * 2 = pow-suc 2 k in
        let small : n - 2 ^ k < 2 ^ k = omega (arith, l) in
        let split : 1 * 2 ^ k + (n - 2 ^ k) ≡ n = omega (arith, l) in
        let cat : count_ones n ≡ count_ones 1 + count_ones (n - 2 ^ k) = ap count_ones (sym split) ∙ ones_cat k 1 (n - 2 ^ k) small in
        let none : n - 2 ^ k ≡ 0 = zero_from_ones (n - 2 ^ k) (omega (arith, cat, ones_one)) in
        (k, omega (arith, l))

-- what has one bit, and is not below 64 nor above 65,536, is one of the eleven
power_of : (x : ℕ) → 64 ≤ x → x ≤ 65536 → is_power_of_two x ≡ true → Power x
power_of x l m h = let w = one_bit 17 x (omega arith) (eqb-true (count_ones x) 1 h) in
    record { exponent = w.0; least = least w.0 w.1 (dec_lt w.0 6); most = most w.0 w.1 (dec_lt 16 w.0); is = w.1 }
  where
    least : (j : ℕ) → x ≡ 2 ^ j → Dec (j < 6) → 6 ≤ j
    least j e (yes k) = let p = pow_below j 6 k in absurd (omega arith)
    least j e (no k) = omega (arith, k)

    most : (j : ℕ) → x ≡ 2 ^ j → Dec (16 < j) → j ≤ 16
    most j e (yes k) = let p = pow_below 16 j k in absurd (omega arith)
    most j e (no k) = omega (arith, k)

same_test : (s t : Bool) → (s ≡ true → t ≡ true) → (t ≡ true → s ≡ true) → s ≡ t
same_test true t f g = sym (f refl)
same_test false true f g = g refl
same_test false false f g = refl

pub capacity_is : (x : ℕ) → 64 ≤ x → x ≤ 65536 → is_power_of_two x ≡ is_capacity x
capacity_is x l m = same_test _ _ (λ h. power_capacity (power_of x l m h)) (λ h. (power_size (capacity_power x h)).2)

-- and nothing outside them is
pub capacity_out : (x : ℕ) → (64 ≤ x → x ≤ 65536 → ⊥) → false ≡ is_capacity x
capacity_out x h = same_test _ _ (λ e. cc) (λ e. let p = power_size (capacity_power x e) in absurd (h p.0 p.1))

-- ---- a ring's header

pub cursors_pass : (r : Ring) (o cap : ℕ) → Consistent r cap → Pass (cursor_checks r o cap)
cursors_pass r o cap c = (eq-eqb _ _ c.head4, (le-leb _ _ c.near, (eq-eqb _ _ c.reserve4, (eq-eqb _ _ c.commit4, (eq-eqb _ _ c.same, tt)))))

pub pass_cursors : (r : Ring) (o cap : ℕ) → Pass (cursor_checks r o cap) → Consistent r cap
pass_cursors r o cap h = record { head4 = eqb-true _ _ h.0; near = leb-true _ _ h.1.0; reserve4 = eqb-true _ _ h.1.1.0; commit4 = eqb-true _ _ h.1.1.1.0; same = eqb-true _ _ h.1.1.1.1.0 }

-- ---- a descriptor, and its ring

apart_pass : (b : List ℕ) (i j : ℕ) → Apart b i j → Pass (apart_check b i j)
apart_pass b i j h = (⊎_elim (λ e. or_left (leb (end_of b j) (offset_of b i)) _ (le-leb _ _ e)) (λ e. or_right (leb (end_of b j) (offset_of b i)) _ (le-leb _ _ e)) h, tt)

pass_apart : (b : List ℕ) (i j : ℕ) → Pass (apart_check b i j) → Apart b i j
pass_apart b i j h = ⊎_elim (λ e. inl (leb-true _ _ e)) (λ e. inr (leb-true _ _ e)) (or_cases (leb (end_of b j) (offset_of b i)) _ h.0)

module _ (b : List ℕ) (i : ℕ) where
  descriptor_pass : Queue b i → ((j : ℕ) → j < i → Apart b i j) → Pass (descriptor_checks b i)
  unfolding descriptor_checks
  descriptor_pass q a = (
    eq-eqb _ _ q.four,
    (
      le-leb _ _ q.behind,
      (
        le-leb _ _ q.inside,
        pass-append (each (apart_check b i) i) _ (each-pass (apart_check b i) i (λ j l. apart_pass b i j (a j l))) (power_capacity q.capacity, (eq-eqb _ _ q.spare, tt)),
      ),
    ),
  )

  ring-pass : Queue b i → Pass (ring_checks b i)
  unfolding ring_checks
  ring-pass q = cursors_pass (ring_at b (offset_of b i)) (offset_of b i) (capacity_of b i) q.cursors

  pass_queue : Pass (descriptor_checks b i) → Pass (ring_checks b i) → Queue b i
  unfolding descriptor_checks ring_checks
  pass_queue h k =
      let w = append-pass (each (apart_check b i) i) ((is_capacity (capacity_of b i), REGION, 24 + 16 * i) ∷ (eqb (le_at 4 b (28 + 16 * i)) 0, REGION, 28 + 16 * i) ∷ []) h.1.1.1 in
      record {
        four = eqb-true _ _ h.0;
        behind = leb-true _ _ h.1.0;
        inside = leb-true _ _ h.1.1.0;
        capacity = capacity_power (capacity_of b i) w.1.0;
        spare = eqb-true _ _ w.1.1.0;
        cursors = pass_cursors (ring_at b (offset_of b i)) (offset_of b i) (capacity_of b i) k;
      }

  pass_clear : Pass (descriptor_checks b i) → (j : ℕ) → j < i → Apart b i j
  unfolding descriptor_checks
  pass_clear h j l =
      let w = append-pass (each (apart_check b i) i) ((is_capacity (capacity_of b i), REGION, 24 + 16 * i) ∷ (eqb (le_at 4 b (28 + 16 * i)) 0, REGION, 28 + 16 * i) ∷ []) h.1.1.1 in
      pass_apart b i j (pass-each (apart_check b i) i w.0 j l)

-- ---- the whole

module _ (b : List ℕ) where
  tables_pass : Valid b → Pass (table_checks b)
  unfolding table_checks
  tables_pass v =
      pass-append (each (descriptor_checks b) (count_of b)) (each (ring_checks b) (count_of b))
      (each-pass (descriptor_checks b) (count_of b) (λ i l. descriptor_pass b i (v.queues i l) (λ j k. v.apart i j k l)))
      (each-pass (ring_checks b) (count_of b) (λ i l. ring-pass b i (v.queues i l)))

  header-pass : Valid b → Pass (region_header_checks b)
  header-pass v = (le-leb _ _ v.long, (eq-eqb _ _ v.magic, (eq-eqb _ _ v.version, (eq-eqb _ _ v.total, (le-leb _ _ v.few, (le-leb _ _ v.table, tt))))))

  -- a header that is right, and queues that are
  pub right_valid : Pass (region_header_checks b) → Right b (count_of b) → Valid b
  right_valid h r =
      record {
        long = leb-true _ _ h.0;
        magic = eqb-true _ _ h.1.0;
        version = eqb-true _ _ h.1.1.0;
        total = eqb-true _ _ h.1.1.1.0;
        few = leb-true _ _ h.1.1.1.1.0;
        table = leb-true _ _ h.1.1.1.1.1.0;
        queues = r.queues;
        apart = r.apart;
      }

  pass_valid : Pass (region_header_checks b) → Pass (table_checks b) → Valid b
  unfolding table_checks
  pass_valid h t =
      let w = append-pass (each (descriptor_checks b) (count_of b)) (each (ring_checks b) (count_of b)) t in
      let d : (i : ℕ) → i < count_of b → Pass (descriptor_checks b i) = pass-each (descriptor_checks b) (count_of b) w.0 in
      right_valid h
      (record {
        queues = λ i l. pass_queue b i (d i l) (pass-each (ring_checks b) (count_of b) w.1 i l);
        apart = λ i j k l. pass_clear b i (d i l) j k;
      })

  -- the call `check`
  pub region_taken : (asked (region_checks b) ≡ taken tt) ↔ Valid b
  region_taken = (
    (λ h. let w = append-pass (region_header_checks b) (table_checks b) (asked-pass (region_checks b) (sym h)) in pass_valid w.0 w.1),
    (λ v. pass-checked (region_checks b) (taken tt) (pass-append (region_header_checks b) (table_checks b) (header-pass v) (tables_pass v))),
  )

  -- and where a queue is asked for
  module _ (q : ℕ) where
    pub queue_pass : Valid b → q < count_of b → Pass (queue_checks b q)
    queue_pass v l = pass-append (region_header_checks b) ((ltb q (count_of b), REGION, 12) ∷ table_checks b) (header-pass v) (lt-ltb _ _ l, tables_pass v)

    pub pass_queues : Pass (queue_checks b q) → Valid b × (q < count_of b)
    pass_queues h =
        let w = append-pass (region_header_checks b) ((ltb q (count_of b), REGION, 12) ∷ table_checks b) h in
        (pass_valid w.0 w.1.1, ltb-true _ _ w.1.0)

    pub queue_taken : (asked (queue_checks b q) ≡ taken tt) ↔ (Valid b × (q < count_of b))
    queue_taken = (
      (λ h. pass_queues (asked-pass (queue_checks b q) (sym h))),
      (λ v. pass-checked (queue_checks b q) (taken tt) (queue_pass v.0 v.1)),
    )
