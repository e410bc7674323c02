use Rattle.std.proofs.Common.{◌∙◌, ap}
use Rattle.gs_sdc.specs.Command.{as_ports}
use Rattle.gs_sdc.proofs.reading.the_ports.Goals as goal

pub returns-clause-value : goal.returns-clause-value
returns-clause-value c = λ bytes. c.as_ports.ensures.value bytes ∙ ap as_ports (c.first_of.ensures.value bytes)

pub returns-clause-inside : goal.returns-clause-inside
returns-clause-inside c = λ bytes h. c.as_ports.ensures.inside bytes (c.first_of.ensures.inside bytes h)
