use Rattle.std.proofs.Common.{◌∙◌}
use Rattle.gs_report.proofs.Placed.{violations_placed}
use Rattle.gs_report.proofs.unmet.add_violations.Goals as goal

pub add_each-requires : goal.add_each-requires
add_each-requires c =
    violations_placed c.args.design.now c.args.timing.now c.as_slice.result.now (c.as_slice.ensures.value ∙ c.in_ok-all.ensures)
