use Rattle.gs_shelf.proofs.FailureLaws.{NoneFell-entered, Rose-entered}
use Rattle.gs_shelf.proofs.memory.MemShelf.refuse.Goals as goal

pub returns-in-Ok-clause-later : goal.returns-in-Ok-clause-later
returns-in-Ok-clause-later c = NoneFell-entered _ _ _ c.in-Ok.ensures.ok

pub returns-in-Ok-clause-cause : goal.returns-in-Ok-clause-cause
returns-in-Ok-clause-cause c _ = Rose-entered _ _ _ c.in-Ok.ensures.ok
