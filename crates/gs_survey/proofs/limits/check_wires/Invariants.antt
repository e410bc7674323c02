use Rattle.std.proofs.Common.{◌≡◌, drop}
use Rattle.gs_survey.specs.First.{first_some}
use Rattle.gs_survey.specs.Limits.{unknown_net}
use Rattle.gs_spef.specs.declared.wires.Wire.{Wire}
use Rattle.gs_survey.proofs.limits.check_wires.Given as goal

abbrev pub invariant-loop-i : goal.invariant-loop-i
invariant-loop-i l = first_some (λ (w : Wire). unknown_net l.nets w.net) (drop l.i l.wires) ≡ first_some (λ (w : Wire). unknown_net l.nets w.net) l.wires
