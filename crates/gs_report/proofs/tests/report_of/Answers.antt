use Rattle.std.proofs.Common.{◌∙◌}
use Rattle.gs_report.proofs.OneNet.{no_sizes}
use Rattle.gs_report.proofs.tests.report_of.Goals as goal

pub write_report-requires-clause-sizes : goal.write_report-requires-clause-sizes
write_report-requires-clause-sizes c =
    no_sizes c.in_ok-design.design c.from_vec-sizes.result c.in_ok-design.ensures.insts (c.from_vec-sizes.ensures ∙ c.new.ensures.items)
