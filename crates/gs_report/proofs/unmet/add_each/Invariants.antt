use Rattle.std.proofs.Common.{◌≡◌, ◌++◌, take}
use Rattle.std.specs.List.{flat_map}
use Rattle.gs_report.specs.Report.{violation_line}
use Rattle.gs_report.proofs.unmet.add_each.Given as goal

abbrev pub invariant-loop-unmet : goal.invariant-loop-unmet
invariant-loop-unmet l = l.text.items ≡ l.initial.text.items ++ flat_map (violation_line l.design) (take l.unmet-index l.all)
