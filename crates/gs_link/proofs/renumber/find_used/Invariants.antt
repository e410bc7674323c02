use Rattle.std.proofs.Common.{◌≡◌}
use Rattle.gs_survey.specs.Uses.{kept}
use Rattle.gs_link.proofs.renumber.find_used.Given as goal

abbrev pub invariant-loop-net : goal.invariant-loop-net
invariant-loop-net l = l.used.items ≡ kept l.driven l.read l.net
