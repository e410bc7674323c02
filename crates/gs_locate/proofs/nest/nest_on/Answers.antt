use Rattle.gs_locate.proofs.Searching.{nests_on}
use Rattle.gs_locate.proofs.nest.nest_on.Goals as goal

pub returns-clause-is : goal.returns-clause-is
returns-clause-is c =
    nests_on c.args.bytes.now c.args.pieces.now c.args.at c.args.nest c.nest_past.result c.requires.is c.nest_past.ensures.value
