use Rattle.gs_top.proofs.Fetching.{unfetched}
use Rattle.gs_top.proofs.fetch.fetch_file.Goals as goal

pub returns-in-Err-clause-work : goal.returns-in-Err-clause-work
returns-in-Err-clause-work g c = record {
  stay = c.in-Err.ensures.stay;
  said = c.in-Err.ensures.said;
  later = c.in-Err.ensures.later;
  answer =
      unfetched c.args.file (g.H.Shelf.files c.args.shelf.now) g.H.Shelf.tells (g.J.JobFiles.inputs c.args.job.now) _ _ _ _ c.in-Err.error c.input.ensures c.fetch_status.ensures c.in-Err.ensures.err c.in-Err.ensures.still;
}
