use Rattle.std.proofs.Common.{Some, refl}
use Rattle.gs_top.specs.declared.job.Job.TheVariants.{Size}
use Rattle.gs_top.proofs.Running.{ran, complete, exact}
use Rattle.gs_top.proofs.program.run_size_alone.Goals as goal

pub returns : goal.returns
returns g c =
    let o = Some (Size c.args.job.now) in
    let h = ran g.H.Shelf.tells o _ _ _ c.act_size-status.result c.say.result c.act_size-status.ensures c.say.ensures in
    record {
      leaves = h.leaves;
      cause = h.causes;
      said = h.says;
      silent = h.silent;
      complete = λ t. complete g.H.Shelf.tells o _ _ c.say.result h t (Size c.args.job.now) refl;
      exact = exact g.H.Shelf.tells o _ _ c.say.result h;
      later = h.later;
    }
