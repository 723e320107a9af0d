use Rattle.entries.proofs.Lengths.{block_length, one-length}
use Rattle.entries.proofs.length_of.Goals as goal

pub returns-in-Mmus : goal.returns-in-Mmus
returns-in-Mmus c = rw c.in-Mmus.is (block_length c.args.b.now _ _ (rw c.mmu_length.ensures at c.reach.ensures))

pub returns-in-Controllers : goal.returns-in-Controllers
returns-in-Controllers c = rw c.in-Controllers.is (one-length c.args.b.now 8 4 _ _ _ c.u32_at.ensures c.reach-in-Controllers.ensures)
