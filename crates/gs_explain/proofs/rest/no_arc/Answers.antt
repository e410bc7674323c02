use Rattle.gs_explain.proofs.rest.no_arc.Goals as goal

pub returns : goal.returns
returns c = rw (c.as_bytes.ensures, c.as_bytes-2.ensures) at c.joined.ensures
