use Rattle.std.proofs.Common.{ap, ◌∙◌}
use Rattle.std.proofs.lemmas.Result.{on_ok_weaker}
use Rattle.gs_design.specs.Timing.{timing_of}
use Rattle.gs_incr.specs.Seen.{seen_between}
use Rattle.gs_incr.specs.Shown.{Shown}
use Rattle.gs_move.specs.Moves.{after}
use Rattle.gs_incr.proofs.scratch.Scratch.retime.Goals as goal

pub begin-requires : goal.begin-requires
begin-requires g c = (c.moves_fit.ensures.places c.args.sizes.now c.args.mv.now c.requires.mv).inst_in

pub walk-requires-clause-laid : goal.walk-requires-clause-laid
walk-requires-clause-laid g c = c.begin.ensures.laid ∙ ap (λ (x : Shown). x.nets) c.self.view_is ∙ c.requires.nets

pub walk-requires-clause-empty : goal.walk-requires-clause-empty
walk-requires-clause-empty g c = c.in_ok-begin.ensures.empty

pub walk-requires-clause-walk : goal.walk-requires-clause-walk
walk-requires-clause-walk g c =
    c.in_ok-begin.ensures.walk c.args.timing.now (timing_of c.args.design.now (after c.args.sizes.now c.args.mv.now)) c.requires.timing.as_many

pub returns-clause-nets : goal.returns-clause-nets
returns-clause-nets g c = c.walk.ensures.laid ∙ c.begin.ensures.laid ∙ ap (λ (x : Shown). x.nets) c.self.view_is

pub returns-clause-seen : goal.returns-clause-seen
returns-clause-seen g c =
    let d = c.args.design.now in
    let s = c.args.sizes.now in
    let m = c.args.mv.now in
    on_ok_weaker c.walk.result
    (λ e. e ∙ ap (λ t. seen_between d m t (timing_of d (after s m))) (c.timing_is_made.ensures.only s c.args.timing.now c.requires.sizes c.requires.timing))
    c.walk.ensures.seen

pub returns-clause-steps : goal.returns-clause-steps
returns-clause-steps g c = c.walk.ensures.steps
