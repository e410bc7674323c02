use Rattle.gs_move.proofs.LegalLaws.{fair_unknown, settled_legal}
use Rattle.gs_move.proofs.laws.settling_is_legal.Goals as goal

pub returns-clause-legal : goal.returns-clause-legal
returns-clause-legal c = λ J start budget es m w front legal moves. settled_legal J c.args.design.now start budget es m w front legal moves

pub returns-clause-unknown : goal.returns-clause-unknown
returns-clause-unknown c = λ J start budget es m legal. fair_unknown J c.args.design.now start budget es legal m
