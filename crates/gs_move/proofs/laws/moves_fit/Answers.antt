use Rattle.gs_move.proofs.MoveLaws.{after_fits, place_of_it}
use Rattle.gs_move.proofs.laws.moves_fit.Goals as goal

pub returns-clause-places : goal.returns-clause-places
returns-clause-places c = λ s m is. place_of_it c.args.design.now s m is

pub returns-clause-sizes : goal.returns-clause-sizes
returns-clause-sizes c = λ s m fit is. after_fits c.args.design.now s m is fit
