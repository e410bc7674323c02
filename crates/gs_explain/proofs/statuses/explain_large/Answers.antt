use Rattle.gs_explain.proofs.statuses.explain_large.Goals as goal

pub returns : goal.returns
returns c = rw (c.as_bytes.ensures.value, c.input_name.ensures, c.in_ok-job.ensures) at c.unplaced.ensures
