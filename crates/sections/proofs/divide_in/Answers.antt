use Rattle.sections.proofs.Directories.{middle_long, index_made}
use mathlib.Core.Path.{◌∙◌}
use lib.ListN.{length-set}
use native.Mathlib.Omega.{arith}
use Rattle.sections.proofs.divide_in.Goals as goal

pub overflow_add-dir : goal.overflow_add-dir
overflow_add-dir c = omega (arith, c.find_parts-r.ensures.small, c.requires.1)

pub put_directory-requires : goal.put_directory-requires
put_directory-requires c = (length-set c.find_parts-r.new.dir 18 _ ∙ c.find_parts-r.ensures.long, middle_long c.args.file.now c.args.index.now c.requires.2 c.find_parts-r.ensures c.find_parts-r.auto.starts)

pub returns : goal.returns
returns c = index_made c.args.file.now c.args.index.now c.requires.2 c.find_parts-r.ensures c.find_parts-r.auto.starts c.put_directory.ensures
