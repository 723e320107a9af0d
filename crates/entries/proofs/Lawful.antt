-- What the laws of lists want of a kind of entry, and that every kind has it.
-- Assumes nothing.
use mathlib.Core.Path.{◌≡◌, refl}
use mathlib.Core.List.{List, [], ◌∷◌, ◌++◌, append_assoc}
use Prim.Native.Nat.{ℕ, ◌+◌, ◌-◌, ◌≤◌, ◌<◌, zero-le}
use native.Mathlib.Omega.{arith}
use lib.ListN.{length, take, drop, length-drop}
use lib.Seq.{length-take-le}
use lib.Dec.{leb}
use borrow.Author.Tests.{leb-true}
use Rattle.answer.specs.Numbers.{SHAPE}
use Rattle.answer.specs.Outcome.{taken, refused, Pass}
use Rattle.answer.specs.Calls.{asked}
use Rattle.answer.proofs.Checks.{checked-pass}
use Rattle.answer.proofs.Within.{Within, checked-within}
use Rattle.wire.specs.Numbers.{le_at}
use Rattle.wire.proofs.Numbers.{le_at-append}
use Rattle.format.specs.Format.{bytes, Is}
use Rattle.format.specs.Places.{read_at}
use Rattle.format.proofs.Exits.{block_inside}
use Rattle.format.proofs.Meaning.{least_le}
use Rattle.format.proofs.Within.{Keeps, blob_keeps, text_keeps}
use Rattle.entries.specs.declared.Kind.{Kind}
use Rattle.entries.specs.declared.Kind.TheVariants.{Devices, Disks, Cpus, Mmus, Controllers}
use Rattle.entries.specs.Kinds.{Description, lead_checks, devices, disks, cpus, mmus, controllers, controller_checks}
use Rattle.entries.specs.Code.{describe}
use Rattle.entries.proofs.States.{held-within}

pub record Lawful (d : Description) : Type 0 where
  -- an entry has bytes
  pub some : 0 < d.fixed
  -- the fixed part lies in the entry
  pub wide : (e : List ℕ) → Is d.form e → d.fixed ≤ length e
  -- the key lies in the fixed part
  pub named : (e rest : List ℕ) → d.fixed ≤ length e → d.key (e ++ rest) ≡ d.key e
  -- an entry passes what is asked before KEY
  pub passes : (e rest : List ℕ) → Is d.form e → Pass (d.early (e ++ rest))
  -- the bound of the count
  pub bounded : d.most ≤ 4096
  -- faults lie within the bytes
  pub keeps : Keeps d.form
  pub early_in : (b : List ℕ) → d.fixed ≤ length b → Within (asked (d.early b)) (length b)

-- the checks of a lead lie within the bytes
pub lead_within : {d : Description} → Lawful d → (b : List ℕ) → Within (asked (lead_checks d b)) (length b)
lead_within {d} K b = checked-within ((leb d.fixed (length b), SHAPE, 0) ∷ []) (asked (d.early b)) (length b) (zero-le, λ h. K.early_in b (leb-true _ _ h))

-- the u32 that an entry begins with
id_named : (e rest : List ℕ) → 4 ≤ length e → le_at 4 (e ++ rest) 0 ≡ le_at 4 e 0
id_named e rest h = le_at-append 4 e rest 0 h

devices_lawful : Lawful devices
devices_lawful = record {
  some = omega arith;
  wide = λ e h. least_le devices.form e h;
  named = λ e rest h. rw (le_at-append 4 e rest 0 (omega arith), le_at-append 2 e rest 4 (omega arith), le_at-append 2 e rest 6 (omega arith));
  passes = λ e rest h. tt;
  bounded = omega arith;
  keeps = ((λ e h. tt), blob_keeps 8 67108864);
  early_in = λ b h. tt;
}

disks_lawful : Lawful disks
disks_lawful = record {
  some = omega arith;
  wide = λ e h. omega (arith, least_le disks.form e h);
  named = id_named;
  passes = λ e rest h. tt;
  bounded = omega arith;
  keeps = ((λ e h. tt), (text_keeps 65536, text_keeps 65536));
  early_in = λ b h. tt;
}

cpus_lawful : (v : ℕ) → Lawful (cpus v)
cpus_lawful v = record {
  some = omega arith;
  wide = λ e h. omega (arith, least_le (cpus v).form e h);
  named = λ e rest h. id_named e rest (omega arith);
  passes = λ e rest h. tt;
  bounded = omega arith;
  keeps = ((λ e h. tt), ((((λ n. (refl, tt)), λ e h. tt), held-within v), blob_keeps 8 67108864));
  early_in = λ b h. tt;
}

mmus_lawful : (v : ℕ) → Lawful (mmus v)
mmus_lawful v = record {
  some = omega arith;
  wide = λ e h. omega (arith, h.0);
  named = λ e rest h. id_named e rest (omega arith);
  passes = λ e rest h. tt;
  bounded = omega arith;
  keeps = λ e h. tt;
  early_in = λ b h. tt;
}

controller_in : (b : List ℕ) → 2 ≤ length b → Within (asked (controller_checks b)) (length b)
controller_in b h = checked-within (controller_checks b) (taken tt) (length b) (h, λ _. tt)

-- a fault in the head of the controller at a place lies before the end
pub head_place : (s : List ℕ) (at : ℕ) {e n p : ℕ} → taken e ≡ read_at (bytes 8) s at → refused n p ≡ asked (controller_checks (take (e - at) (drop at s))) → at + p ≤ length s
head_place s at {e} h k =
    let i = block_inside s at 8 h (omega arith) in
    let y : List ℕ = take (e - at) (drop at s) in
    let l : length y ≡ e - at = length-take-le (e - at) (drop at s) (rw length-drop (omega arith)) in
    omega (arith, rw (← k) at (controller_in y (omega arith)))

controllers_lawful : Lawful controllers
controllers_lawful = record {
  some = omega arith;
  wide = λ e h. least_le controllers.form e h;
  named = λ e rest h. le_at-append 2 e rest 0 (omega arith);
  passes = passes;
  bounded = omega arith;
  keeps = ((λ e h. rw h at (controller_in e (omega arith))), ((λ n. tt), λ e h. tt));
  early_in = λ b h. controller_in b (omega arith);
}
  where
    passes : (e rest : List ℕ) → Is controllers.form e → Pass (controller_checks (e ++ rest))
    passes e rest (x, y, q, h, k) =
        let l : 8 ≤ length x = omega (arith, h.0) in
        rw (q, append_assoc, le_at-append 2 x (y ++ rest) 2 (omega arith))
        (checked-pass (controller_checks x) (taken tt) tt h.1).0

pub lawful : (k : Kind) → Lawful (describe k)
lawful Devices = devices_lawful
lawful Disks = disks_lawful
lawful (Cpus v) = cpus_lawful v
lawful (Mmus v) = mmus_lawful v
lawful Controllers = controllers_lawful
