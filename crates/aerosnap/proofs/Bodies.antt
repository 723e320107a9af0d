-- A payload is taken exactly if it is what its section's rules say; and its fault lies within it.
-- Assumes nothing.
use mathlib.Core.Path.{◌≡◌, refl, sym, ◌∙◌, ap, subst}
use mathlib.Core.List.{List, [], ◌∷◌}
use mathlib.Core.Bool.{Bool, true, false, cond}
use Prim.Native.Nat.{ℕ, zero-le}
use lib.ListN.{length, take, drop, take-append-drop}
use lib.Dec.{eqb}
use borrow.Author.Tests.{eqb-true, eq-eqb}
use Rattle.answer.specs.Numbers.{SHAPE}
use Rattle.answer.specs.Outcome.{taken, done}
use Rattle.answer.proofs.Checks.{checked-pass}
use Rattle.answer.proofs.Outcomes.{after_taken, done_taken}
use Rattle.answer.proofs.Within.{Within, checked-within, after-within}
use Rattle.format.specs.Format.{read}
use Rattle.format.proofs.Meaning.{sound, complete}
use Rattle.format.proofs.Within.{Keeps, read-within, text_keeps}
use Rattle.order.specs.Keyed.{Every}
use Rattle.entries.specs.States.{cpu_sized, cpu_state, mmu_length}
use Rattle.entries.specs.declared.Kind.TheVariants.{Devices, Disks, Cpus, Mmus}
use Rattle.entries.proofs.States.{whole-within}
use Rattle.entries.proofs.Lawful.{Lawful, lawful}
use Rattle.lists.specs.Lists.{list_at}
use Rattle.lists.proofs.Taken.{list_sound, list_complete}
use Rattle.lists.proofs.Within.{list_within}
use Rattle.aerosnap.specs.Payloads.{meta_form, Body, meta, cpu, mmu, list, opaque, known_bodies, body_in, body_of, payload}
use Rattle.aerosnap.specs.Rules.{IsBody}

-- the kinds of entry of the lists are lawful
abbrev pub Lawfully : Body → Type 0
Lawfully meta = Unit {0}
Lawfully (cpu v) = Unit {0}
Lawfully (mmu v) = Unit {0}
Lawfully (list d) = Lawful d
Lawfully opaque = Unit {0}

-- what holds of each row of the table, by its id, holds of a section's body; where no row has the id, of one of which nothing is asked
module _ (P : ℕ → Body → Type 0) (id v : ℕ) where
  pub body_cases : (l : List (ℕ × (ℕ → Body))) → Every (λ r. P r.0 (r.1 v)) l → (Every (λ r. eqb id r.0 ≡ false) l → P id opaque) → P id (body_in l id v)
  body_cases [] h o = o tt
  body_cases (r ∷ l) h o = go (eqb id r.0) refl (λ e. body_cases l h.1 (λ n. o (e, n)))
    where
      go : (b : Bool) → eqb id r.0 ≡ b → (eqb id r.0 ≡ false → P id (body_in l id v)) → P id (cond b (r.1 v) (body_in l id v))
      go true e k = subst (λ (i : ℕ). P i (r.1 v)) (sym (eqb-true id r.0 e)) h.0
      go false e k = k e

pub lawful_body : (id v : ℕ) → Lawfully (body_of id v)
lawful_body id v = body_cases (λ i k. Lawfully k) id v known_bodies (tt, (tt, (tt, (lawful Devices, (lawful Disks, (lawful (Cpus v), (lawful (Mmus v), tt))))))) (λ _. tt)

pub payload_sound : (k : Body) → Lawfully k → (p : List ℕ) → payload k p ≡ taken tt → IsBody k p
unfolding payload
payload_sound meta K p h =
    let q = done_taken (read meta_form p) h in
    (take q.0 p, drop q.0 p, sym (take-append-drop q.0 p), (sound meta_form p q.1).1)
payload_sound (cpu v) K p h = let q = checked-pass ((cpu_sized v p, SHAPE, 0) ∷ []) (cpu_state v p) tt h in (q.0.0, q.1)
payload_sound (mmu v) K p h = eqb-true _ _ (checked-pass ((eqb (length p) (mmu_length v), SHAPE, 0) ∷ []) (taken tt) tt h).0.0
payload_sound (list d) K p h = list_sound K p (after_taken (list_at d p) (λ _. taken tt) h).1
payload_sound opaque K p h = tt

pub payload_complete : (k : Body) → Lawfully k → (p : List ℕ) → IsBody k p → payload k p ≡ taken tt
unfolding payload
payload_complete meta K p (x, tail, q, h) = ap (λ (b : List ℕ). done (read meta_form b)) q ∙ rw (complete meta_form x tail h)
payload_complete (cpu v) K p h = rw h.0 h.1
payload_complete (mmu v) K p h = rw (eq-eqb (length p) (mmu_length v) h)
payload_complete (list d) K p h = rw (list_complete K p h)
payload_complete opaque K p h = refl

meta_keeps : Keeps meta_form
meta_keeps = ((λ e h. tt), ((λ e h. tt), ((λ e h. tt), text_keeps 4096)))

pub payload-within : (k : Body) → Lawfully k → (p : List ℕ) → Within (payload k p) (length p)
unfolding payload
payload-within meta K p = after-within (read meta_form p) (λ _. taken tt) (length p) (read-within meta_form p meta_keeps) (λ _ _. tt)
payload-within (cpu v) K p = whole-within v p
payload-within (mmu v) K p = checked-within ((eqb (length p) (mmu_length v), SHAPE, 0) ∷ []) (taken tt) (length p) (zero-le, λ _. tt)
payload-within (list d) K p = after-within (list_at d p) (λ _. taken tt) (length p) (list_within K p) (λ _ _. tt)
payload-within opaque K p = tt
