use Rattle.answer.proofs.Outcomes.{passes}
use mathlib.Core.Bool.{true}
use native.Mathlib.Omega.{arith}
use Rattle.edits.proofs.Asking.{row_outside, row_long, row_known, row_stop, row_goes}
use Rattle.aerosnap.specs.Many.{new_device_at, is_inside}
use Rattle.answer.specs.Outcome.{taken}
use Rattle.entries.specs.Kinds.{payload_most}
use Rattle.edits.specs.Cuts.{payload_long}
use mathlib.Core.Path.{◌≡◌, refl, sym, ◌∙◌, ap}
use Prim.Native.Nat.{ℕ, ◌+◌, ◌≤◌}
use Rattle.edits.proofs.ask_row.Goals as goal

pub returns-then-not-is_part : goal.returns-then-not-is_part
returns-then-not-is_part c =
    let part : let a = c.args in c.is_part.result ≡ is_inside a.store.now (new_device_at a.part.now 0) = rw (c.u64_at-len.ensures, c.u64_at.ensures) at c.is_part.ensures in
    let a = c.args in λ x y e. row_outside _ a.store.now (new_device_at a.part.now 0) a.site a.old a.i a.grown x y (sym (part) ∙ c.if-not-is_part.true)

pub returns-then-n-gt-PAYLOAD_MOST : goal.returns-then-n-gt-PAYLOAD_MOST
returns-then-n-gt-PAYLOAD_MOST c =
    let part : let a = c.args in c.is_part.result ≡ is_inside a.store.now (new_device_at a.part.now 0) = rw (c.u64_at-len.ensures, c.u64_at.ensures) at c.is_part.ensures in
    let inside : let a = c.args in is_inside a.store.now (new_device_at a.part.now 0) ≡ true = sym (part) ∙ c.if-not-is_part.false in
    let a = c.args in λ x y e. row_long _ a.store.now (new_device_at a.part.now 0) a.site a.old a.i a.grown x y (inside) (omega (arith, c.if-n-gt-PAYLOAD_MOST.true, c.u64_at-len.ensures))

pub returns-then-known : goal.returns-then-known
returns-then-known c =
    let part : let a = c.args in c.is_part.result ≡ is_inside a.store.now (new_device_at a.part.now 0) = rw (c.u64_at-len.ensures, c.u64_at.ensures) at c.is_part.ensures in
    let inside : let a = c.args in is_inside a.store.now (new_device_at a.part.now 0) ≡ true = sym (part) ∙ c.if-not-is_part.false in
    let short : let a = c.args in (new_device_at a.part.now 0).length ≤ payload_most = omega (arith, c.if-n-gt-PAYLOAD_MOST.false, c.u64_at-len.ensures) in
    let a = c.args in λ x y e. row_known _ a.store.now (new_device_at a.part.now 0) a.site a.old a.i a.grown x y (inside) (short) (sym e ∙ c.if-known.true)

pub resized-requires : goal.resized-requires
resized-requires c =
    let short : let a = c.args in (new_device_at a.part.now 0).length ≤ payload_most = omega (arith, c.if-n-gt-PAYLOAD_MOST.false, c.u64_at-len.ensures) in
    let a = c.args in let m = c.requires in let l = c.list_length-long.ensures in rw l (m.shows, m.sections, m.takes, m.bytes, omega (arith, m.small, l, short, c.u64_at-len.ensures))

pub returns-in_err-bounds : goal.returns-in_err-bounds
returns-in_err-bounds c = let a = c.args in
    let x = new_device_at a.part.now 0 in
    let part : c.is_part.result ≡ is_inside a.store.now x = rw (c.u64_at-len.ensures, c.u64_at.ensures) at c.is_part.ensures in
    let inside : is_inside a.store.now x ≡ true = sym part ∙ c.if-not-is_part.false in
    let short : x.length ≤ payload_most = omega (arith, c.if-n-gt-PAYLOAD_MOST.false, c.u64_at-len.ensures) in
    let f : c.list_length-long.result + (a.grown + (16 + c.u64_at-len.result)) ≡ payload_long a.site + (a.grown + (16 + x.length)) = omega (arith, c.list_length-long.ensures, c.u64_at-len.ensures) in
    λ y o e. passes _ c.in_err-bounds.field-0.0 c.from_residual.ensures.1
    (row_stop _ a.store.now x a.site a.old a.i a.grown y o inside short (sym e ∙ c.if-known.false) c.requires refl f c.list_length-long.ensures c.resized.ensures.0 c.resized.ensures.1 c.in_err-bounds.ensures)

pub returns : goal.returns
returns c = let a = c.args in
    let x = new_device_at a.part.now 0 in
    let part : c.is_part.result ≡ is_inside a.store.now x = rw (c.u64_at-len.ensures, c.u64_at.ensures) at c.is_part.ensures in
    let inside : is_inside a.store.now x ≡ true = sym part ∙ c.if-not-is_part.false in
    let short : x.length ≤ payload_most = omega (arith, c.if-n-gt-PAYLOAD_MOST.false, c.u64_at-len.ensures) in
    let f : c.list_length-long.result + (a.grown + (16 + c.u64_at-len.result)) ≡ payload_long a.site + (a.grown + (16 + x.length)) = omega (arith, c.list_length-long.ensures, c.u64_at-len.ensures) in
    λ y o e. ap (λ (k : ℕ). taken (a.grown + (16 + k))) c.u64_at-len.ensures
    ∙ row_goes _ a.store.now x a.site a.old a.i a.grown y o inside short (sym e ∙ c.if-known.false) c.requires refl f c.list_length-long.ensures c.resized.ensures.0 c.resized.ensures.1 c.in_ok-bounds.ensures
