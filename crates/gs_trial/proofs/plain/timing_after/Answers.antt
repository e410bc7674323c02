use Rattle.std.proofs.Common.{◌≡◌, slice_set, ◌∙◌, ap, subst, IfOk}
use Rattle.std.proofs.lemmas.Result.{IfOk-weaker}
use Rattle.gs_design.specs.Timing.{FitTiming, IsTiming, timing_of}
use Rattle.gs_move.specs.Moves.{after}
use Rattle.gs_trial.proofs.plain.timing_after.Goals as goal

pub returns-clause-value : goal.returns-clause-value
returns-clause-value c =
    let d = c.args.design.now in
    let s = c.args.sizes.now in
    let m = c.args.mv.now in
    let sizes_are : c.set.new.self ≡ after c.args.sizes.now c.args.mv.now = c.set.ensures ∙ ap (λ r. slice_set r m.inst m.place) c.in_ok-changed.ensures in
    IfOk-weaker c.time_all.result (λ t. IsTiming d (after s m) t) (λ t. t ≡ timing_of d (after s m))
    (λ t timing. c.timing_is_made.ensures.only (after s m) t (c.moves_fit.ensures.sizes s m c.requires.sizes c.requires.mv) timing)
    (subst (λ r. IfOk c.time_all.result (λ t. IsTiming d r t)) sizes_are c.time_all.ensures.timing)

pub returns-clause-fit : goal.returns-clause-fit
returns-clause-fit c =
    let d = c.args.design.now in
    IfOk-weaker c.time_all.result (λ t. IsTiming d c.set.new.self t) (λ t. FitTiming d t) (λ t timing. timing.as_many) c.time_all.ensures.timing
