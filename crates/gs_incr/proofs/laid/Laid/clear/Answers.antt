use Rattle.gs_incr.proofs.LaidLaws.{laid_none}
use Rattle.gs_incr.proofs.laid.Laid.clear.Goals as goal

pub returns-clause-none : goal.returns-clause-none
returns-clause-none c =
    laid_none c.next_turn-self-inside.result c.next_turn-self-inside.new.marks.items c.self.inside.records.items c.next_turn-self-inside.ensures.past
