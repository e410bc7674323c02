use Rattle.gs_explain.proofs.spot.show_line.Goals as goal

pub returns-in-None : goal.returns-in-None
returns-in-None c = λ at said h. c.in-None.ensures.is at h.0
