use Rattle.gs_move.proofs.InstallLaws.{delta_exact, delta_fits, timing_length}
use Rattle.gs_move.proofs.laws.delta_is_exact.Goals as goal

pub returns-clause-whole : goal.returns-clause-whole
returns-clause-whole c = timing_length c.args.design.now

pub returns-clause-fits : goal.returns-clause-fits
returns-clause-fits c = delta_fits c.args.design.now

pub returns-clause-exact : goal.returns-clause-exact
returns-clause-exact c = delta_exact c.args.design.now
