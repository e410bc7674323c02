use Rattle.std.proofs.Common.{ap}
use Rattle.gs_drive.specs.Machine.{stopped}
use Rattle.gs_drive.proofs.driver.refusal.Goals as goal

pub returns-in-Some-clause-value : goal.returns-in-Some-clause-value
returns-in-Some-clause-value g c = λ before agrees. ap (λ later. stopped later c.args.i c.args.error) (c.in-Some.ensures.value before agrees)
