-- Request 11, from the laws of parts (crates/aerosnap/proofs/Parts.antt, Rescued.antt, Judged.antt) and the examples by computation (Losses.antt).
-- Assumes nothing.
use mathlib.Core.Path.{◌≡◌, refl, sym, ◌∙◌, ap}
use mathlib.Core.Logic.{◌≢◌, ◌⊎◌, inl, inr}
use mathlib.Core.Bool.{Bool, true, false}
use mathlib.Core.List.{List, [], ◌∷◌, ◌++◌, map, append-nil, append_assoc}
use Prim.Native.Nat.{ℕ, ◌≤◌, ◌<◌}
use native.Mathlib.Omega.{arith}
use lib.ListN.{length, drop, replicate, length-append, length-replicate}
use lib.Seq.{drop_at}
use lib.Dec.{leb}
use borrow.Author.Tests.{leb-true, leb-false}
use Rattle.answer.specs.Numbers.{ROOM, is_number}
use Rattle.answer.specs.Outcome.{Outcome, taken, refused, Pass, Checks, checked, after, fitting, First, FirstOr}
use Rattle.answer.proofs.Checks.{Refused, row, later, behind, checked_refused}
use Rattle.answer.proofs.Outcomes.{taken_refused}
use Rattle.answer.proofs.Table.{number_some}
use Rattle.order.specs.Entries.{join}
use Rattle.aerosnap.specs.File.{file_most, header, header_checks}
use Rattle.aerosnap.specs.Content.{content_of}
use Rattle.aerosnap.specs.Salvage.{Part, loses, bytes_in, parts_of, loss_rows, Rescued, rescued_of, fitting_both, salvage}
use Rattle.aerosnap.proofs.Refusals.{Refuses, checked_refuses, after_refuses}
use Rattle.aerosnap.proofs.Rescued.{file_parts, no_loss, salvage_exactly, salvage_is, accepted_salvage}
use Rattle.aerosnap.proofs.Judged.{kept_taken, lost_refused, lost_stop, lost_stands, row_stands}
use Rattle.aerosnap.proofs.Examples.{p1, p4, p6}
use Rattle.aerosnap.proofs.Losses.{losses}
use Rattle.salvage.specs.declared.Salvaged.{Salvaged}
use Rattle.salvage.specs.Salvaging.{salvaged_answer, Salvages}
use Rattle.salvage.proofs.Once.{salvage_once}
use Rattle.demands.specs.Demand1.{InTable}
use Rattle.demands.specs.Salvage.{place_behind, Salvaging, SalvageProgram, RuledOutSalvage}

bounds : (s : List ℕ) → Pass (header_checks s) → (16 ≤ length s) × (length s ≤ file_most)
bounds s h = (leb-true 16 (length s) h.1.0, leb-true (length s) file_most h.0)

-- ---- refusals

first-later : {rows : Checks} {n p : ℕ} (c : Bool × ℕ × ℕ) → c.0 ≡ true → First rows n p → First (c ∷ rows) n p
first-later c q f = record { before = c ∷ f.before; behind = f.behind; split = ap (λ (l : Checks). c ∷ l) f.split; passed = (q, f.passed) }

first_or : {A : Type 0} (a : Outcome A) (n p : ℕ) (rows : Checks) → Refused a n p rows → FirstOr rows n p (a ≡ refused n p)
first_or a n p rows (row {b} {l} q) = inl (record { before = []; behind = l; split = ap (λ (t : Bool). (t, n, p) ∷ l) q; passed = tt })
first_or a n p rows (later {c} {l} q r) = go (first_or a n p l r)
  where
    go : FirstOr l n p (a ≡ refused n p) → FirstOr (c ∷ l) n p (a ≡ refused n p)
    go (inl f) = inl (first-later c q f)
    go (inr (h, e)) = inr ((q, h), e)
first_or a n p rows (behind e) = inr (tt, e)

room_stop : (have : ℕ) (b : List ℕ) {n p : ℕ} → fitting have b ≡ refused n p → (have < length b) × (n ≡ ROOM) × (p ≡ length b)
room_stop have b {n} {p} e = go (leb (length b) have) refl e
  where
    go : (t : Bool) → leb (length b) have ≡ t → checked ((t, ROOM, length b) ∷ []) (taken b) ≡ refused n p → (have < length b) × (n ≡ ROOM) × (p ≡ length b)
    go true q e = absurd (taken_refused e)
    go false q e = let i : ROOM ≡ n = cc in let j : length b ≡ p = cc in (leb-false (length b) have q, sym i, sym j)

-- the first output, then the second
abbrev Short : ℕ → ℕ → Rescued → ℕ → ℕ → Type 0
Short have space x n p = (n ≡ ROOM) × (((have < length x.file) × (p ≡ length x.file)) ⊎ ((length x.file ≤ have) × (space < length (join x.losses)) × (p ≡ length (join x.losses))))

both_stop : (have space : ℕ) (x : Rescued) (n p : ℕ) → fitting_both have space x ≡ refused n p → Short have space x n p
both_stop have space x n p e = go (leb (length x.file) have) refl e
  where
    second : (o : Outcome (List ℕ)) → fitting space (join x.losses) ≡ o → length x.file ≤ have → after o (λ _. taken x) ≡ refused n p → Short have space x n p
    second (taken b) q i h = absurd (taken_refused h)
    second (refused m k) q i h =
        let a : m ≡ n = cc in
        let b : k ≡ p = cc in
        let r = room_stop space (join x.losses) q in
        (sym a ∙ r.1, inr (i, r.0, sym b ∙ r.2))

    go : (t : Bool) → leb (length x.file) have ≡ t → after (checked ((t, ROOM, length x.file) ∷ []) (taken x.file)) (λ _. after (fitting space (join x.losses)) (λ _. taken x)) ≡ refused n p → Short have space x n p
    go true q h = second (fitting space (join x.losses)) refl (leb-true (length x.file) have q) h
    go false q h = let a : ROOM ≡ n = cc in let b : length x.file ≡ p = cc in (sym a, inl (leb-false (length x.file) have q, sym b))

salvage_refuses : (have space : ℕ) (s : List ℕ) (n p : ℕ) → salvage have space s ≡ refused n p → FirstOr (header_checks s) n p (Short have space (rescued_of (parts_of s)) n p)
unfolding salvage
salvage_refuses have space s n p e = go (first_or (fitting_both have space (rescued_of (parts_of s))) n p (header_checks s) (checked_refused (header_checks s) (fitting_both have space (rescued_of (parts_of s))) n p e))
  where
    go : FirstOr (header_checks s) n p (fitting_both have space (rescued_of (parts_of s)) ≡ refused n p) → FirstOr (header_checks s) n p (Short have space (rescued_of (parts_of s)) n p)
    go (inl f) = inl f
    go (inr (h, k)) = inr (h, both_stop have space (rescued_of (parts_of s)) n p k)

-- ---- numbers

both_numbered : (have space : ℕ) (x : Rescued) → Refuses (λ n. is_number n ≡ true) (fitting_both have space x)
both_numbered have space x =
    after_refuses (λ n. is_number n ≡ true) (fitting have x.file) (λ _. after (fitting space (join x.losses)) (λ _. taken x)) (checked_refuses (λ n. is_number n ≡ true) ((leb (length x.file) have, ROOM, length x.file) ∷ []) (taken x.file) (refl, tt) tt)
    (λ _. after_refuses (λ n. is_number n ≡ true) (fitting space (join x.losses)) (λ _. taken x) (checked_refuses (λ n. is_number n ≡ true) ((leb (length (join x.losses)) space, ROOM, length (join x.losses)) ∷ []) (taken (join x.losses)) (refl, tt) tt) (λ _. tt))

salvage_numbered : (have space : ℕ) (s : List ℕ) → Refuses (λ n. is_number n ≡ true) (salvage have space s)
unfolding salvage
salvage_numbered have space s = checked_refuses (λ n. is_number n ≡ true) (header_checks s) (fitting_both have space (rescued_of (parts_of s))) (refl, (refl, (refl, (refl, (refl, (refl, (refl, tt))))))) (both_numbered have space (rescued_of (parts_of s)))

in_table : {A : Type 0} (o : Outcome A) → Refuses (λ n. is_number n ≡ true) o → InTable o
in_table (taken a) h = tt
in_table (refused n p) h = h

-- ---- the promise

stays_so : (o : Outcome Rescued) → (out rows : List ℕ) (r : Salvaged) (new recs : List ℕ) → Salvages o out rows r new recs → r.number ≢ 0 → (new ≡ out) × (recs ≡ rows) × (r.losses ≡ 0)
stays_so (taken x) out rows r new recs v z = absurd (z (ap (λ (a : Salvaged). a.number) v.answers))
stays_so (refused n p) out rows r new recs v z = (v.file, v.records, ap (λ (a : Salvaged). a.losses) v.answers)

writes_so : (o : Outcome Rescued) → Refuses (λ n. is_number n ≡ true) o → (out rows : List ℕ) (r : Salvaged) (new recs : List ℕ) → Salvages o out rows r new recs → r.number ≡ 0
    → (x : Rescued) × (o ≡ taken x) × (r.place ≡ length x.file) × (r.losses ≡ length x.losses) × (new ≡ x.file ++ drop (length x.file) out) × (recs ≡ join x.losses ++ drop (length (join x.losses)) rows)
writes_so (taken x) h out rows r new recs v z = (x, refl, ap (λ (a : Salvaged). a.place) v.answers, ap (λ (a : Salvaged). a.losses) v.answers, v.file, v.records)
writes_so (refused n p) h out rows r new recs v z = absurd (omega (arith, z, ap (λ (a : Salvaged). a.number) v.answers, number_some n h))

-- the last part reaches to the end
last_part : (s : List ℕ) → Pass (header_checks s) → (done : List Part) (x : Part) → parts_of s ≡ done ++ (x ∷ []) → drop (place_behind done) s ≡ bytes_in x
last_part s h done x q =
    let e : s ≡ header ++ (join (map bytes_in done) ++ bytes_in x) = file_parts s h ∙ ap (λ (l : List Part). header ++ join (map bytes_in l)) q ∙ ap (λ (b : List ℕ). header ++ b) (parted done) in
    let n : length (header ++ join (map bytes_in done)) ≡ place_behind done = length-append header (join (map bytes_in done)) in
    ap (drop (place_behind done)) (e ∙ sym (append_assoc header (join (map bytes_in done)) (bytes_in x))) ∙ drop_at (header ++ join (map bytes_in done)) (bytes_in x) (place_behind done) n
  where
    parted : (l : List Part) → join (map bytes_in (l ++ (x ∷ []))) ≡ join (map bytes_in l) ++ bytes_in x
    parted [] = append-nil (bytes_in x)
    parted (y ∷ l) = ap (λ (b : List ℕ). bytes_in y ++ b) (parted l) ∙ sym (append_assoc (bytes_in y) (join (map bytes_in l)) (bytes_in x))

pub salvaging : Salvaging
salvaging = record {
  all = file_parts;
  kept = λ s done more e h q. kept_taken s (bounds s h).1 (bounds s h).0 done more e q;
  lost = λ s done more n e h q f. lost_refused s (bounds s h).1 (bounds s h).0 done more n e q f;
  stop = λ s done more n e h q f.
      let b = bounds s h in
      let z = lost_stop s b.1 b.0 done more n e q f in
      let k : parts_of s ≡ done ++ (loses n e ∷ []) = q ∙ ap (λ (m : List Part). done ++ (loses n e ∷ m)) z.1 in
      (z.0, z.1, last_part s h done (loses n e) k);
  records = λ s done more n e h q.
      let b = bounds s h in
      (ap (loss_rows 16) q ∙ row_stands done more n e 16, lost_stands s b.1 b.0 done more n e q);
  accepted = accepted_salvage;
  no_loss = no_loss;
  output = λ have space s x h. let v = salvage_is have space s x h in (v.in_order, v.content ∙ ap (λ (l : List (List ℕ)). taken (content_of l)) v.are, v.shorter);
  exactly = salvage_exactly;
  refuses = salvage_refuses;
  table = λ have space s. in_table (salvage have space s) (salvage_numbered have space s);
  stays = λ s out rows r new recs v z. stays_so (salvage (length out) (length rows) s) out rows r new recs v z;
  writes = λ s out rows r new recs v z. writes_so (salvage (length out) (length rows) s) (salvage_numbered (length out) (length rows) s) out rows r new recs v z;
  once = λ s out rows r p new now recs lines a b. salvage_once s out rows a b;
}

-- ---- wrong answers

module _ (P : SalvageProgram) where
  abbrev space : ℕ → List ℕ
  space n = replicate n 0

  answered : (s : List ℕ) (a b : ℕ) {x : Rescued} → salvage a b s ≡ taken x → P.answers s (space a) (space b) ≡ record { number = 0; place = length x.file; losses = length x.losses }
  answered s a b {x} e =
      let h : salvage (length (space a)) (length (space b)) s ≡ taken x = ap (λ (k : ℕ). salvage k (length (space b)) s) (length-replicate a 0) ∙ ap (λ (k : ℕ). salvage a k s) (length-replicate b 0) ∙ e in
      (P.meets s (space a) (space b)).answers ∙ ap salvaged_answer h

pub ruled_out_salvage : RuledOutSalvage
ruled_out_salvage = record {
  refuses_everything = λ P h. h p1 (space P 16) (space P 0) (ap (λ (a : Salvaged). a.number) (answered P p1 16 0 losses.P1));
  keeps_nothing = λ P h.
      let e = answered P p4 71 0 losses.P4 in
      let z : (P.answers p4 (space P 71) (space P 0)).place ≡ 71 = ap (λ (a : Salvaged). a.place) e in
      omega (arith, z, h p4 (space P 71) (space P 0) (ap (λ (a : Salvaged). a.number) e));
  tells_no_loss = λ P h.
      let e = answered P p6 16 24 losses.P6 in
      let z : (P.answers p6 (space P 16) (space P 24)).losses ≡ 1 = ap (λ (a : Salvaged). a.losses) e in
      omega (arith, z, h p6 (space P 16) (space P 24));
}
