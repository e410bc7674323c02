use Rattle.std.proofs.Common.{◌≡◌, ◌-◌, length}
use Rattle.std.specs.List.{range_with_len}
use Rattle.gs_survey.specs.First.{first_some}
use Rattle.gs_survey.specs.Uses.{undriven}
use Rattle.gs_survey.proofs.uses.check_driven.Given as goal

abbrev pub invariant-loop-n : goal.invariant-loop-n
invariant-loop-n l = first_some (undriven l.nets l.driven l.read) (range_with_len l.n (length l.nets - l.n)) ≡ first_some (undriven l.nets l.driven l.read) (range_with_len 0 (length l.nets))
