use Rattle.region.proofs.Walk.{fine}
use Rattle.region.proofs.Taken.{right_valid}
use Rattle.region.specs.Region.{region_header_checks}
use Rattle.answer.proofs.Checks.{asked-pass}
use Rattle.std.proofs.Common.{sym, ◌∙◌, arith}
use Rattle.region.proofs.is_right.Goals as goal

pub returns : goal.returns
returns c h = let b = c.args.s.now in
    let passed = asked-pass (region_header_checks b) (fine c.header.result (sym c.is_err.ensures.value ∙ c.if-is_err.false) ∙ c.header.ensures) in
    (right_valid b passed (rw c.u32_at-n.ensures at (c.are_right.ensures h)), omega arith)
