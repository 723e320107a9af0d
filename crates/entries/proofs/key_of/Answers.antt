use mathlib.Core.Logic.{inl, inr}
use Rattle.entries.proofs.Keys.{id-key, address-key, device-key}
use Rattle.entries.proofs.key_of.Goals as goal

pub returns-in-Devices : goal.returns-in-Devices
returns-in-Devices c = rw c.in-Devices.is (device-key c.args.b.now (λ i. (c.type_inv.b i).fits) c.u64_at-x.ensures c.device_key.ensures)

pub returns-in-Disks : goal.returns-in-Disks
returns-in-Disks c = let k = id-key c.args.b.now (λ i. (c.type_inv.b i).fits) c.u64_at-x.ensures in elim c.in-Disks.is [ inl e ↦ rw e k | inr f ↦ elim f [ inl e ↦ rw e.1 k | inr e ↦ rw e.1 k ] ]

pub returns-in-Controllers : goal.returns-in-Controllers
returns-in-Controllers c = rw c.in-Controllers.is (address-key c.args.b.now (λ i. (c.type_inv.b i).fits) c.u64_at-x.ensures)
