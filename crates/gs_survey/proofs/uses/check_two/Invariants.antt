use Rattle.std.proofs.Common.{◌≡◌, ◌-◌, length}
use Rattle.std.specs.List.{range_with_len}
use Rattle.gs_survey.specs.First.{first_some}
use Rattle.gs_survey.specs.Uses.{two_drivers}
use Rattle.gs_survey.proofs.uses.check_two.Given as goal

abbrev pub invariant-loop-n : goal.invariant-loop-n
invariant-loop-n l = first_some (two_drivers l.nets l.driven) (range_with_len l.n (length l.nets - l.n)) ≡ first_some (two_drivers l.nets l.driven) (range_with_len 0 (length l.nets))
