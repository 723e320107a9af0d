use Rattle.answer.specs.Outcome.{taken}
use Rattle.payloads.proofs.Bodies.{kept_list, kept_plain, other_id}
use Rattle.entries.specs.Kinds.{devices, disks, cpus, mmus}
use Rattle.aerosnap.specs.Payloads.{meta, cpu, mmu, opaque, payload}
use mathlib.Core.Path.{refl}
use Rattle.payloads.proofs.body.Goals as goal

pub returns-in-1 : goal.returns-in-1
returns-in-1 c = kept_plain c.args.version c.args.p.now c.in-1.is meta refl refl c.requires c.snapshot_meta.ensures c.plain.ensures

pub returns-in-2 : goal.returns-in-2
unfolding payload
returns-in-2 c = kept_plain c.args.version c.args.p.now c.in-2.is (cpu c.args.version) refl refl c.requires c.cpu_state.ensures c.plain-in-2.ensures

pub returns-in-3 : goal.returns-in-3
returns-in-3 c = kept_plain c.args.version c.args.p.now c.in-3.is (mmu c.args.version) refl refl c.requires c.mmu_state.ensures c.plain-in-3.ensures

pub returns-in-4 : goal.returns-in-4
returns-in-4 c = let a = c.args in kept_list a.version a.p.now c.in-4.is devices refl c.index.ensures

pub returns-in-5 : goal.returns-in-5
returns-in-5 c = let a = c.args in kept_list a.version a.p.now c.in-5.is disks refl c.index-in-5.ensures

pub returns-in-7 : goal.returns-in-7
returns-in-7 c = let a = c.args in kept_list a.version a.p.now c.in-7.is (cpus a.version) refl c.index-in-7.ensures

pub returns-in-8 : goal.returns-in-8
returns-in-8 c = let a = c.args in kept_list a.version a.p.now c.in-8.is (mmus a.version) refl c.index-in-8.ensures

pub returns-in_default : goal.returns-in_default
unfolding payload
returns-in_default c = let a = c.args in
    let r = c.in_default.in_default-own.rest in
    kept_plain a.version a.p.now {id = a.id} refl opaque (other_id a.id a.version r.0.0.0.0.0.0.1 r.0.0.0.0.0.1 r.0.0.0.0.1 r.0.0.0.1 r.0.0.1 r.0.1 r.1) refl c.requires {o = taken tt} refl c.plain-in_default.ensures
