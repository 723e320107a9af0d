-- Request 1: the calls on a region keep demands 1 and 2, and a ring's use its promise.
-- Assumes nothing.
use mathlib.Core.Path.{◌≡◌, refl, ap, sym, ◌∙◌}
use mathlib.Core.Logic.{◌≢◌, ◌↔◌}
use mathlib.Core.Bool.{Bool, true, false, ◌||◌}
use mathlib.Core.List.{List, [], ◌∷◌, ◌++◌}
use Prim.Native.Nat.{ℕ, zero, suc, ◌+◌, ◌%◌, ◌<◌}
use native.Mathlib.Omega.{arith}
use lib.Dec.{eqb}
use lib.ListN.{length, take, drop}
use lib.Seq.{take-append_seam}
use borrow.Author.Tests.{eqb-true}
use Rattle.answer.specs.declared.Answer.{Answer}
use Rattle.answer.specs.Numbers.{REGION, BIG, FULL, EMPTY, RECORD, TURN, is_among}
use Rattle.answer.specs.Outcome.{Outcome, taken, refused, Checks, checked, each, room}
use Rattle.answer.specs.Calls.{asked, verdict, Writes}
use Rattle.answer.proofs.Once.{equal_once}
use Rattle.answer.proofs.Checks.{checked-append, checked-pass, pass-checked, append-pass}
use Rattle.answer.proofs.Firsts.{checked-first}
use Rattle.answer.proofs.Outcomes.{taken_is, taken_refused}
use Rattle.wire.specs.Numbers.{le_at, bytes_of}
use Rattle.order.specs.Keyed.{Every}
use Rattle.order.proofs.Folds.{every_append}
use Rattle.region.specs.Region.{count_of, offset_of, apart_check, descriptor_checks, ring_checks, table_checks, region_checks, queue_checks}
use Rattle.region.specs.declared.Ring.{Ring}
use Rattle.region.specs.declared.Cursors.{Cursors}
use Rattle.region.specs.Report.{as_cursors, report_call}
use Rattle.region.specs.Valid.{Valid}
use Rattle.region.proofs.Taken.{region_taken, pass_queues, queue_pass}
use Rattle.rings.specs.Records.{advanced, record_size, need}
use Rattle.rings.specs.Calls.{Stores, stored, count, as_answer, as_pair, as_record, Leaves, reserve_checks, reserve_call, fill_checks, fill_stores, fill_call, commit_checks, commit_call, skip_at, take_checks, take_in, take_call}
use Rattle.rings.specs.Use as use-of
use Rattle.rings.specs.Use.{OpenPairs, Used, Course, Next}
use Rattle.rings.proofs.Keeps.{called_valid, called_elsewhere, fill_stores_within}
use Rattle.rings.proofs.Using.{comes, none_or_all, goes_on, in-turn, fill_takes, commit_takes, commit_waits}
use Rattle.aerosnap.proofs.Refusals.{Refuses, checked_refuses}
use Rattle.kinds.specs.declared.Message.{Message}
use Rattle.kinds.specs.Kinds.{paper, cells}
use Rattle.messages.specs.Reading as messages
use Rattle.messages.specs.Writing.{write_checks, written, write_message}
use Rattle.demands.specs.Demand2.{Within, data_of, Says}
use Rattle.demands.specs.Rings.{RingCall, Looks, RegionCalls, Exactly, ring, RegionRules, taken_bytes, Rings}
use Rattle.demands.proofs.Demand1.{demand1}
use Rattle.demands.proofs.Demand2.{demand2}

-- ---- the numbers of refusals

-- a number that is not 0, and among these
abbrev Own : List ℕ → ℕ → Type 0
Own own n = (0 < n) × (is_among own n ≡ true)

module _ (own : List ℕ) where
  abbrev Named : Checks → Type 0
  Named = Every (λ c. Own (REGION ∷ own) c.1)

  region_named : Own (REGION ∷ own) REGION
  region_named = (omega arith, refl)

  each_named : (f : ℕ → Checks) → ((i : ℕ) → Named (f i)) → (n : ℕ) → Named (each f n)
  unfolding each
  each_named f h zero = tt
  each_named f h (suc n) = every_append _ (each f n) (f n) (each_named f h n) (h n)

  descriptor_named : (b : List ℕ) (i : ℕ) → Named (descriptor_checks b i)
  unfolding descriptor_checks
  descriptor_named b i =
      let r = region_named in
      (r, (r, (r, every_append _ (each (apart_check b i) i) _ (each_named (apart_check b i) (λ j. (r, tt)) i) (r, (r, tt)))))

  ring_named : (b : List ℕ) (i : ℕ) → Named (ring_checks b i)
  unfolding ring_checks
  ring_named b i = let r = region_named in (r, (r, (r, (r, (r, tt)))))

  tables_named : (b : List ℕ) → Named (table_checks b)
  unfolding table_checks
  tables_named b = every_append _ (each (descriptor_checks b) (count_of b)) _ (each_named (descriptor_checks b) (descriptor_named b) (count_of b)) (each_named (ring_checks b) (ring_named b) (count_of b))

  regions_named : (b : List ℕ) → Named (region_checks b)
  regions_named b = let r = region_named in (r, (r, (r, (r, (r, (r, tables_named b))))))

  queue_named : (b : List ℕ) (q : ℕ) → Named (queue_checks b q)
  queue_named b q = let r = region_named in (r, (r, (r, (r, (r, (r, (r, tables_named b)))))))

  -- a call that is taken behind its own checks
  call_named : {A : Type 0} (b : List ℕ) (q : ℕ) (rows : Checks) (a : A) → Named rows → Refuses (Own (REGION ∷ own)) (checked (queue_checks b q) (checked rows (taken a)))
  call_named b q rows a h = checked_refuses (Own (REGION ∷ own)) (queue_checks b q) _ (queue_named b q) (checked_refuses (Own (REGION ∷ own)) rows (taken a) h tt)

reserve_named : (b : List ℕ) (q n : ℕ) → Refuses (Own (REGION ∷ BIG ∷ FULL ∷ [])) (reserve_call b q n)
unfolding reserve_call
reserve_named b q n = call_named (BIG ∷ FULL ∷ []) b q (reserve_checks (ring b q) n) _ ((omega arith, refl), ((omega arith, refl), tt))

fill_named : (b : List ℕ) (q start end : ℕ) (m : List ℕ) → Refuses (Own (REGION ∷ TURN ∷ [])) (fill_call b q start end m)
unfolding fill_call
fill_named b q start end m =
    let t : Own (REGION ∷ TURN ∷ []) TURN = (omega arith, refl) in
    call_named (TURN ∷ []) b q (fill_checks (ring b q) start end (length m)) _ (t, (t, (t, (t, tt))))

commit_named : (b : List ℕ) (q start end : ℕ) → Refuses (Own (REGION ∷ TURN ∷ [])) (commit_call b q start end)
unfolding commit_call
commit_named b q start end =
    let t : Own (REGION ∷ TURN ∷ []) TURN = (omega arith, refl) in
    call_named (TURN ∷ []) b q (commit_checks (ring b q) start end) _ (t, (t, (t, (t, tt))))

take_named : (b : List ℕ) (q : ℕ) → Refuses (Own (REGION ∷ EMPTY ∷ RECORD ∷ [])) (take_call b q)
unfolding take_call take_in
take_named b q =
    let t : Own (REGION ∷ EMPTY ∷ RECORD ∷ []) RECORD = (omega arith, refl) in
    call_named (EMPTY ∷ RECORD ∷ []) b q (take_checks (ring b q) _ _) _ ((omega arith, refl), (t, (t, (t, tt))))

-- ---- demand 1

-- an answer that shows the number and the place of its outcome
record Shows {A R : Type 0} (f : Outcome (Stores × A) → R) (number place : R → ℕ) : Type 0 where
  pub refused_number : (n p : ℕ) → number (f (refused n p)) ≡ n
  pub taken_number : (x : Stores × A) → number (f (taken x)) ≡ 0
  pub taken_place : (x : Stores × A) → place (f (taken x)) ≡ count x.0

module _ {A R : Type 0} (f : Outcome (Stores × A) → R) (number place : R → ℕ) (w : Shows f number place) (own : List ℕ) where
  stays_so : (o : Outcome (Stores × A)) → Refuses (Own (REGION ∷ own)) o → (b new : List ℕ) (r : R) → Leaves f o b r new → number r ≢ 0
      → (is_among (REGION ∷ own) (number r) ≡ true) × (new ≡ b)
  stays_so (taken x) k b new r l ne = absurd (ne (ap number l.answers ∙ w.taken_number x))
  stays_so (refused n p) k b new r l ne =
      let e : number r ≡ n = ap number l.answers ∙ w.refused_number n p in
      (ap (is_among (REGION ∷ own)) e ∙ k.1, l.leaves)

  stores_so : (o : Outcome (Stores × A)) → Refuses (Own (REGION ∷ own)) o → (b new : List ℕ) (r : R) → Leaves f o b r new → number r ≡ 0
      → (s : Stores) × (a : A) × (o ≡ taken (s, a)) × (place r ≡ count s) × (new ≡ stored s b)
  stores_so (taken x) k b new r l z = (x.0, x.1, refl, ap place l.answers ∙ w.taken_place x, l.leaves)
  stores_so (refused n p) k b new r l z =
      let e : number r ≡ n = ap number l.answers ∙ w.refused_number n p in
      let h = k.0 in
      absurd (omega arith)

  changes : (call : List ℕ → Outcome (Stores × A)) → ((b : List ℕ) → Refuses (Own (REGION ∷ own)) (call b)) → RingCall f number place own call
  changes call k = record {
    stays = λ b. stays_so (call b) (k b) b;
    stores = λ b. stores_so (call b) (k b) b;
    once = λ b new now r s x y. (equal_once x.answers y.answers, equal_once x.leaves y.leaves);
  }

-- the number of an outcome, 0 where it is taken
abbrev number_of : {A : Type 0} → Outcome A → ℕ
number_of (taken a) = 0
number_of (refused n p) = n

-- calls that only look: the number is 0 exactly if the outcome is taken
only_region : (n : ℕ) → is_among (REGION ∷ []) n ≡ true → n ≡ REGION
only_region n h = eqb-true n REGION (or_nothing (eqb n REGION) h)
  where
    or_nothing : (b : Bool) → (b || false) ≡ true → b ≡ true
    or_nothing true h = refl
    or_nothing false h = h

looks : {A : Type 0} (o : Outcome A) (number : ℕ) (P : Type 0) → Refuses (Own (REGION ∷ [])) o → number ≡ number_of o → (((a : A) × (o ≡ taken a)) ↔ P) → Looks number P
looks (taken a) number P k e w = record { zero = ((λ z. w.0 (a, refl)), (λ p. e)); else = λ ne. absurd (ne e) }
looks (refused n p) number P k e w =
    let h = k.0 in
    record {
      zero = ((λ z. absurd (omega arith)), (λ q. absurd (taken_refused (sym (w.1 q).1))));
      else = λ ne. e ∙ only_region n k.1;
    }

shown_number : {A : Type 0} (o : Outcome A) → (verdict o).number ≡ number_of o
shown_number (taken a) = refl
shown_number (refused n p) = refl

reported_number : (o : Outcome Ring) → (as_cursors o).number ≡ number_of o
reported_number (taken a) = refl
reported_number (refused n p) = refl

shows_answer : Shows as_answer (λ r. r.number) (λ r. r.place)
shows_answer = record { refused_number = λ k p. refl; taken_number = λ x. refl; taken_place = λ x. refl }

calls : RegionCalls
calls = record {
  check = λ b r e.
      looks (asked (region_checks b)) r.number (Valid b) (checked_refuses (Own (REGION ∷ [])) (region_checks b) (taken tt) (regions_named [] b) tt)
      (ap (λ (a : Answer). a.number) e ∙ shown_number (asked (region_checks b)))
      ((λ z. (region_taken b).0 z.1), (λ v. (tt, (region_taken b).1 v)));
  report = λ b q r e.
      looks (report_call b q) r.number (Valid b × (q < count_of b)) (checked_refuses (Own (REGION ∷ [])) (queue_checks b q) _ (queue_named [] b q) tt)
      (ap (λ (a : Cursors). a.number) e ∙ reported_number (report_call b q))
      ((λ z. pass_queues b q (checked-pass (queue_checks b q) _ z.0 z.1).0), (λ v. (ring b q, pass-checked (queue_checks b q) _ (queue_pass b q v.0 v.1))));
  reserve = λ q n. changes as_pair (λ r. r.number) (λ r. r.place) (record { refused_number = λ k p. refl; taken_number = λ x. refl; taken_place = λ x. refl }) (BIG ∷ FULL ∷ []) (λ b. reserve_call b q n) (λ b. reserve_named b q n);
  fill = λ q start end m. changes as_answer (λ r. r.number) (λ r. r.place) shows_answer (TURN ∷ []) (λ b. fill_call b q start end m) (λ b. fill_named b q start end m);
  commit = λ q start end. changes as_answer (λ r. r.number) (λ r. r.place) shows_answer (TURN ∷ []) (λ b. commit_call b q start end) (λ b. commit_named b q start end);
  take = λ q. changes as_record (λ r. r.number) (λ r. r.place) (record { refused_number = λ k p. refl; taken_number = λ x. refl; taken_place = λ x. refl }) (EMPTY ∷ RECORD ∷ []) (λ b. take_call b q) (λ b. take_named b q);
}

-- ---- demand 2

exactly : {A : Type 0} (b : List ℕ) (q : ℕ) (rows : Checks) (a : A) → Exactly (checked (queue_checks b q) (checked rows (taken a))) b q rows a
exactly {A} b q rows a = record {
  takes = λ x. (
    (λ e.
        let w = checked-pass (queue_checks b q) _ x e in
        let v = pass_queues b q w.0 in
        let y = checked-pass rows (taken a) x w.1 in
        (v.0, v.1, y.0, taken_is y.1)),
    (λ h. pass-checked (queue_checks b q) _ (queue_pass b q h.0 h.1) ∙ pass-checked rows (taken a) h.2 ∙ ap taken h.3),
  );
  refuses = λ n p. (
    (λ e. (checked-first (queue_checks b q ++ rows) a n p).0 (checked-append (queue_checks b q) rows (taken a) ∙ e)),
    (λ f. sym (checked-append (queue_checks b q) rows (taken a)) ∙ (checked-first (queue_checks b q ++ rows) a n p).1 f),
  );
}

reserve_exactly : (b : List ℕ) (q n : ℕ) → let r = ring b q in let end = advanced r.reserve (need r.capacity r.reserve n) in
    Exactly (reserve_call b q n) b q (reserve_checks r n) ((offset_of b q + 4, bytes_of 4 end) ∷ [], (r.reserve, end))
unfolding reserve_call
reserve_exactly b q n = exactly b q (reserve_checks (ring b q) n) _

fill_exactly : (b : List ℕ) (q start end : ℕ) (m : List ℕ) → Exactly (fill_call b q start end m) b q (fill_checks (ring b q) start end (length m)) (fill_stores (offset_of b q) (ring b q).capacity start m, tt)
unfolding fill_call
fill_exactly b q start end m = exactly b q (fill_checks (ring b q) start end (length m)) _

commit_exactly : (b : List ℕ) (q start end : ℕ) → Exactly (commit_call b q start end) b q (commit_checks (ring b q) start end) ((offset_of b q + 8, bytes_of 4 end) ∷ [], tt)
unfolding commit_call
commit_exactly b q start end = exactly b q (commit_checks (ring b q) start end) _

take_exactly : (b : List ℕ) (q : ℕ) → let r = ring b q in let s = skip_at b (offset_of b q) r.capacity r.head in let at = offset_of b q + 16 + (r.head + s) % r.capacity in
    Exactly (take_call b q) b q (take_checks r s (le_at 4 b at)) ((offset_of b q, bytes_of 4 (advanced r.head (s + record_size (le_at 4 b at)))) ∷ [], (at + 4, le_at 4 b at))
unfolding take_call take_in
take_exactly b q = exactly b q (take_checks (ring b q) _ _) _

rules : RegionRules
rules = record {
  region = region_taken;
  region_refuses = λ b n p. checked-first (region_checks b) tt n p;
  report = λ b q. exactly b q [] (ring b q);
  reserve = reserve_exactly;
  fill = fill_exactly;
  commit = commit_exactly;
  take = take_exactly;
}

-- ---- messages through a ring

-- what a taken call wrote are the first bytes of its memory, and they say the message
wrote : (k : Message) (d old new : List ℕ) (r : Answer) → Within (cells (paper k)) → Writes (write_message k d (length old)) old r new → r.number ≡ 0 → Says (take r.place new) k d
unfolding write_message
wrote k d old new r typed w z =
    let v = (demand1.message_write k d).writes old new r w z in
    let y = checked-pass (write_checks (paper k) d ++ room (length old) (length (written k d))) (taken (written k d)) v.0 v.1 in
    let e : take r.place new ≡ v.0 = ap (λ (n : ℕ). take n new) v.3 ∙ ap (take (length v.0)) v.4 ∙ take-append_seam v.0 (drop (length v.0) old) in
    record { typed = typed; passes = (append-pass (write_checks (paper k) d) _ y.0).0; bytes = taken_is y.1 ∙ sym e }

sent : (k : Message) (d old new : List ℕ) (r : Answer) → Within (cells (paper k)) → Writes (write_message k d (length old)) old r new → r.number ≡ 0
    → {q : ℕ} {b c : List ℕ} (before behind : use-of.MessageList) {ns : use-of.MessageList} {ps qs : OpenPairs}
    → Used q b (before ++ take r.place new ∷ behind) ps → Course q b (before ++ take r.place new ∷ behind) ps c ns qs (length before)
    → (n : Next q c (take r.place new)) × (x : messages.MessageAndData)
    × (messages.read_message (taken_bytes n) ≡ taken x) × (x.message ≡ k) × (data_of x (taken_bytes n) ≡ d)
sent k d old new r typed w z before behind u course =
    let n = in-turn before behind u course in
    let x = demand2.messages_are.reads (take r.place new) k d (wrote k d old new r typed w z) in
    (n, x.0, rw n.payload x.1, x.2, rw n.payload x.3)

pub rings : Rings
rings = record {
  calls = calls;
  rules = rules;
  none_or_all = record {
    comes = λ {ms = ms} u. comes ms u;
    none_or_all = λ {ms = ms} u s. none_or_all ms u s;
    goes_on = λ u s. goes_on u s;
    in-turn = λ before behind u r. in-turn before behind u r;
  };
  handing = record {
    fill_takes = λ xs p ys u m e. fill_takes xs p ys u m e;
    commit_takes = λ u e. commit_takes u e;
    commit_waits = λ first xs p ys u. commit_waits first xs p ys u;
    fill_within = fill_stores_within;
  };
  others = record {
    follows = λ y v k. called_valid y v k;
    untouched = λ y v l ne k. (called_elsewhere y v l ne k).ring;
  };
  through = record { message = sent };
}
