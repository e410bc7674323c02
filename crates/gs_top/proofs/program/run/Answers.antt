use Rattle.gs_top.specs.Job.{job_of}
use Rattle.gs_top.proofs.Running.{complete, exact}
use Rattle.gs_top.proofs.program.run.Goals as goal

pub returns : goal.returns
returns g c =
    let h = c.run_words.ensures in
    record {
      leaves = h.leaves;
      cause = h.causes;
      said = h.says;
      silent = h.silent;
      complete = complete g.H.Shelf.tells (job_of c.args.words.now) _ _ c.run_words.result h;
      exact = exact g.H.Shelf.tells (job_of c.args.words.now) _ _ c.run_words.result h;
      later = h.later;
    }
