use Rattle.std.proofs.Common.{◌≡◌, Some, sym, ◌∙◌, ap}
use Rattle.gs_move.specs.Change.{change_of}
use Rattle.gs_move.specs.Fair.{new_leak, present_leak}
use Rattle.gs_move.specs.declared.trial.Trial.{Trial}
use Rattle.gs_trial.proofs.trial.try_in.Goals as goal

pub returns-in-Some-clause-judged : goal.returns-in-Some-clause-judged
returns-in-Some-clause-judged g c =
    let J = g.J.Judge.answers c.args.judge.now in
    let d = c.args.design.now in
    let s = c.args.sizes.now in
    let m = c.args.mv in
    let glanced : J.glance (present_leak d s m) (new_leak d m) ≡ Some c.in-Some.why =
    ap (λ z. J.glance z (new_leak d m)) (sym c.present_leak-leak_old.ensures)
    ∙ ap (λ z. J.glance c.present_leak-leak_old.result z) (sym c.new_leak-leak_new.ensures)
    ∙ sym c.glance.ensures ∙ c.in-Some.is in
    ap (λ (t : Trial). t.outcome) c.made.ensures ∙ sym (c.judges_are_lawful.ensures.refuses (change_of d s m) c.in-Some.why glanced)
