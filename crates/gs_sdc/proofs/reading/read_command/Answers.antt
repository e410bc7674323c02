use Rattle.std.proofs.Common.{◌∙◌, ap}
use Rattle.gs_sdc.specs.Front.{reading_by, said_by}
use Rattle.gs_sdc.proofs.reading.read_command.Goals as goal

pub returns-in_ok-found-in-Heads-clause-value : goal.returns-in_ok-found-in-Heads-clause-value
returns-in_ok-found-in-Heads-clause-value c =
    c.said_by.ensures.value c.args.bytes.now ∙ ap (said_by c.args.units c.in-Heads.command) c.in_ok-found-in-Heads.ensures.value ∙ ap (reading_by c.args.units) c.in-Heads.ensures.value
