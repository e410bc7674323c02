use Rattle.std.proofs.Common.{◌≡◌, drop}
use Rattle.gs_survey.specs.Uses.{net_at_pin}
use Rattle.gs_survey.proofs.pins.net_at.Given as goal

abbrev pub invariant-loop-link : goal.invariant-loop-link
invariant-loop-link l = net_at_pin (drop l.link-index l.links) l.pin ≡ net_at_pin l.links l.pin
