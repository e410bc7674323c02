use Rattle.std.proofs.Common.{◌≡◌, drop}
use Rattle.gs_survey.specs.First.{first_some}
use Rattle.gs_survey.specs.Instances.{unknown_link}
use Rattle.gs_survey.proofs.instances.check_links.Given as goal

abbrev pub invariant-loop-link : goal.invariant-loop-link
invariant-loop-link l = first_some (unknown_link l.cell l.inst) (drop l.link-index l.inst.links) ≡ first_some (unknown_link l.cell l.inst) l.inst.links
