use Rattle.gs_design.proofs.AlternativeLaws.{kept}
use Rattle.gs_design.proofs.alternatives.alternatives_are_kept.Goals as goal

pub returns : goal.returns
returns c = λ slew_default cells cell well lt. kept cells slew_default well cell lt
