use Rattle.std.proofs.Common.{◌≡◌, ◌*◌, ◌≤◌, length, sum_by}
use Rattle.std.specs.List.{range_with_len}
use Rattle.gs_move.specs.Cone.{in_cone_of}
use Rattle.gs_trial.specs.Over.{over_if}
use Rattle.gs_trial.proofs.plain.over.over_cone.Given as goal

abbrev pub invariant-loop-number : goal.invariant-loop-number
invariant-loop-number l =
    (l.overs.old ≡ sum_by (over_if (in_cone_of l.design l.mv l.old l.new) l.design l.old) (range_with_len 0 l.number))
    × (l.overs.new ≡ sum_by (over_if (in_cone_of l.design l.mv l.old l.new) l.design l.new) (range_with_len 0 l.number))
    × (l.overs.old ≤ l.number * 309485046714833216143884288) × (l.overs.new ≤ l.number * 309485046714833216143884288)
    × (l.number ≤ length l.design.nets)
