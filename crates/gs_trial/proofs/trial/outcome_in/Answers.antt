use Rattle.std.proofs.Common.{◌≡◌, Some, sym, ◌∙◌, ap}
use Rattle.gs_move.specs.Change.{change_of}
use Rattle.gs_move.specs.Fair.{new_leak, present_leak}
use Rattle.gs_trial.proofs.trial.outcome_in.Goals as goal

pub returns-in-Some-clause-outcome : goal.returns-in-Some-clause-outcome
returns-in-Some-clause-outcome g c =
    let J = g.J.Judge.answers c.args.judge.now in
    let d = c.args.design.now in
    let s = c.args.sizes.now in
    let m = c.args.mv.now in
    let glanced : J.glance (present_leak d s m) (new_leak d m) ≡ Some c.in-Some.why =
    ap (λ z. J.glance z (new_leak d m)) (sym c.present_leak-leak_old.ensures)
    ∙ ap (λ z. J.glance c.present_leak-leak_old.result z) (sym c.new_leak-leak_new.ensures)
    ∙ sym c.glance.ensures ∙ c.in-Some.is in
    sym (c.judges_are_lawful.ensures.refuses (change_of d s m) c.in-Some.why glanced)
