use Rattle.std.proofs.Common.{Some, ap}
use Rattle.gs_top.specs.declared.job.Job.TheVariants.{Check, Size}
use Rattle.gs_top.proofs.Running.{ran_of}
use Rattle.gs_top.proofs.program.run_job.Goals as goal

pub returns-in-Size : goal.returns-in-Size
returns-in-Size g c =
    ran_of g.H.Shelf.tells (Some c.args.job.now) (Some (Size c.in-Size.job)) _ _ c.run_size_alone.result (ap Some c.in-Size.is) (record {
      leaves = c.run_size_alone.ensures.leaves;
      causes = c.run_size_alone.ensures.cause;
      says = c.run_size_alone.ensures.said;
      silent = c.run_size_alone.ensures.silent;
      later = c.run_size_alone.ensures.later;
    })

pub returns-in-Check : goal.returns-in-Check
returns-in-Check g c =
    ran_of g.H.Shelf.tells (Some c.args.job.now) (Some (Check c.in-Check.job)) _ _ c.run_check.result (ap Some c.in-Check.is) (record {
      leaves = c.run_check.ensures.leaves;
      causes = c.run_check.ensures.cause;
      says = c.run_check.ensures.said;
      silent = c.run_check.ensures.silent;
      later = c.run_check.ensures.later;
    })
