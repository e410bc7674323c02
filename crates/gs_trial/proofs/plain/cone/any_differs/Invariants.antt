use Rattle.std.proofs.Common.{◌≡◌, drop}
use Rattle.std.specs.List.{list_any}
use Rattle.gs_move.specs.Records.{differ}
use Rattle.gs_trial.proofs.plain.cone.any_differs.Given as goal

abbrev pub invariant-loop-net : goal.invariant-loop-net
invariant-loop-net l = list_any (differ l.old l.new) (drop l.net-index l.nets) ≡ list_any (differ l.old l.new) l.nets
