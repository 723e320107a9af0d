-- The descriptions that the code's kinds stand for.
-- Assumes nothing.
use Rattle.entries.specs.declared.Kind.{Kind}
use Rattle.entries.specs.declared.Kind.TheVariants.{Devices, Disks, Cpus, Mmus, Controllers}
use Rattle.entries.specs.Kinds.{Description, devices, disks, cpus, mmus, controllers}

abbrev pub describe : Kind → Description
describe Devices = devices
describe Disks = disks
describe (Cpus v) = cpus v
describe (Mmus v) = mmus v
describe Controllers = controllers
