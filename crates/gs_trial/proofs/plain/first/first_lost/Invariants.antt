use Rattle.std.proofs.Common.{◌<◌, ◌≤◌, length}
use Rattle.gs_move.specs.Change.{is_lost}
use Rattle.gs_trial.proofs.FirstLaws.{IsFirst}
use Rattle.gs_trial.proofs.plain.first.first_lost.Given as goal

abbrev pub invariant-loop-number : goal.invariant-loop-number
invariant-loop-number l = IsFirst l.design (is_lost l.design l.old l.new) (λ m. m < l.number) l.first × (l.number ≤ length l.design.nets)
