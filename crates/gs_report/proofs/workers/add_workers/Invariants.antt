use Rattle.std.proofs.Common.{◌≡◌, ◌++◌}
use Rattle.std.specs.List.{flat_map, range_with_len}
use Rattle.gs_report.specs.Report.{worker_line}
use Rattle.gs_report.proofs.workers.add_workers.Given as goal

abbrev pub invariant-loop-worker : goal.invariant-loop-worker
invariant-loop-worker l = l.text.items ≡ l.initial.text.items ++ flat_map (worker_line l.entries) (range_with_len 0 l.worker)
