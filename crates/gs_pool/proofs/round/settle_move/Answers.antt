use Rattle.std.proofs.Common.{sym, ◌∙◌}
use Rattle.gs_pool.proofs.SettleLaws.{settled_on, trial_on}
use Rattle.gs_pool.proofs.round.settle_move.Goals as goal

pub settle-requires-clause-trial : goal.settle-requires-clause-trial
settle-requires-clause-trial g c κs within =
    trial_on g.J.Judge.answers c.args.book.now c.make_room.new.self c.args.mv c.in_ok-trial.trial c.make_room.ensures.kept c.requires.mv (sym c.is_present.ensures ∙ c.if-is_present.false) c.in_ok-trial.ensures.trial

pub returns-clause-book : goal.returns-clause-book
returns-clause-book g c =
    settled_on g.J.Judge.answers c.args.book.now c.make_room.new.self c.settle.new.self c.args.mv c.in_ok-trial.trial c.settle.result c.make_room.ensures.kept (sym c.is_present.ensures ∙ c.if-is_present.false)
    c.in_ok-trial.ensures.trial c.settle.ensures.answer c.settle.ensures.book
