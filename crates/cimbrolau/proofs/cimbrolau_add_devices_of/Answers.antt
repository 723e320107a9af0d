use mathlib.Core.Path.{refl, sym, subst}
use native.Mathlib.Omega.{arith}
use Rattle.std.proofs.Common.{length, ℕ, ◌*◌, ◌<◌, take}
use Rattle.cards.specs.Cards.{WritesBeside}
use Rattle.cards.specs.Whole.{many_card}
use Rattle.newcomers.proofs.Loop.{looked_next, part_none, part_next, part_end}
use Rattle.newcomers.specs.Records.{looked_at}
use Rattle.cimbrolau.proofs.cimbrolau_add_devices_of.Goals as goal

pub loop-i-init : goal.loop-i-init
loop-i-init c = (c.looked_at-n.ensures, part_none c.args.table.now _ refl)

pub loop-i-preserved : goal.loop-i-preserved
loop-i-preserved c =
    let t = c.args.table.now in
    let h : c.loop-i.i < looked_at (length t) = omega (arith, c.looked_at-n.ensures) in
    (c.looked_at-n.ensures, part_next c.loop-i.invariant.1 h c.put.ensures.wide (sym (looked_next c.loop-i.i (length t) h)) c.put.ensures.stored.1 c.put.auto.records)

pub returns : goal.returns
returns c =
    let a = c.args in
    part_end _ _ _ c.loop-i.invariant.1 (omega (arith, c.looked_at-n.ensures))
    (subst (λ (n : ℕ). WritesBeside a.card (many_card (length a.out.now) a.card a.file.now (take (n * 24) c.loop-i.records) a.store.now) a.out.now c.add_records.result c.add_records.new.out) c.looked_at-n.ensures c.add_records.ensures)
