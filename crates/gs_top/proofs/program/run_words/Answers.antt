use Rattle.std.proofs.Common.{Some}
use Rattle.gs_top.specs.Job.{job_of}
use Rattle.gs_top.proofs.Acting.{not_read}
use Rattle.gs_top.proofs.Running.{ran, ran_of}
use Rattle.gs_top.proofs.program.run_words.Goals as goal

pub returns-in-Ok : goal.returns-in-Ok
returns-in-Ok g c =
    ran_of g.H.Shelf.tells (job_of c.args.words.now) (Some c.in-Ok.job) _ _ c.run_job.result c.in-Ok.ensures.read c.run_job.ensures

pub returns-in-Err : goal.returns-in-Err
returns-in-Err g c =
    let o = job_of c.args.words.now in
    ran g.H.Shelf.tells o _ _ _ c.words_status.result c.say.result (not_read g.H.Shelf.tells o _ c.in-Err.error c.words_status.result c.words_status.ensures c.in-Err.ensures.read) c.say.ensures
