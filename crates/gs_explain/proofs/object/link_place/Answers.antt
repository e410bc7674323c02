use Rattle.gs_explain.proofs.object.link_place.Goals as goal

pub returns-in-UnknownNet : goal.returns-in-UnknownNet
returns-in-UnknownNet c = rw c.in-UnknownNet.is (rw c.as_bytes-in-UnknownNet.ensures at c.wire_place.ensures)
