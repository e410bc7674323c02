use Rattle.std.proofs.Common.{length, sym, ◌∙◌, ap}
use Rattle.gs_incr.proofs.LaidLaws.{length_laid}
use Rattle.gs_incr.proofs.laid.Laid.count.Goals as goal

pub returns : goal.returns
returns c = ap length c.as_slice.ensures.value ∙ sym (length_laid c.self.inside.turn c.self.inside.marks.items c.self.inside.records.items) ∙ ap length c.self.view_is
