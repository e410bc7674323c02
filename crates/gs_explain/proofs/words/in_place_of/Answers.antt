use Rattle.gs_explain.proofs.words.in_place_of.Goals as goal

pub returns : goal.returns
returns c = rw (c.as_bytes.ensures.value, c.as_bytes-2.ensures.value) at c.joined.ensures
