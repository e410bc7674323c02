use Rattle.gs_design.specs.Timing.{timing_of}
use Rattle.gs_move.specs.Moves.{after}
use Rattle.gs_incr.proofs.ConeLaws.{calm, moved}
use Rattle.gs_incr.proofs.SeenLaws.{laid_whole, seen_exact}
use Rattle.gs_incr.proofs.laws.cones_are_whole.Goals as goal

pub returns-clause-exact : goal.returns-clause-exact
returns-clause-exact c = λ s m n lt. seen_exact c.args.design.now m (timing_of c.args.design.now s) (timing_of c.args.design.now (after s m)) n lt

pub returns-clause-outside : goal.returns-clause-outside
returns-clause-outside c = λ s m n fit mv lt out.
    let d = c.args.design.now in
    calm d s m (timing_of d s) (timing_of d (after s m))
    (moved d s m (timing_of d s) c.record_reads.ensures fit (c.moves_fit.ensures.sizes s m fit mv) (c.timing_is_made.ensures.made s fit) c.timing_is_made.ensures.made) n lt out

pub returns-clause-laid : goal.returns-clause-laid
returns-clause-laid c = λ s m fit mv.
    let d = c.args.design.now in
    laid_whole d s m (timing_of d s) (timing_of d (after s m))
    (moved d s m (timing_of d s) c.record_reads.ensures fit (c.moves_fit.ensures.sizes s m fit mv) (c.timing_is_made.ensures.made s fit) c.timing_is_made.ensures.made)
