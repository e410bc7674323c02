use Rattle.gs_explain.proofs.statuses.explain_unread.Goals as goal

pub returns : goal.returns
returns c =
    rw (c.as_bytes-2.ensures.value, c.input_name.ensures, c.in_ok-job.ensures, c.as_slice.ensures.value, c.in_ok-said.ensures, c.as_bytes.ensures.value, c.reason_text.ensures)
    at c.unplaced.ensures
