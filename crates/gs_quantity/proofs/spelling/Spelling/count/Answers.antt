use Rattle.gs_quantity.proofs.Digits.{digits_append}
use Rattle.gs_quantity.proofs.spelling.Spelling.count.Goals as goal

pub returns-clause-digits : goal.returns-clause-digits
returns-clause-digits c = rw (← c.self.view_is) (digits_append c.self.inside.whole.now c.self.inside.part.now c.self.invariant.of_whole c.self.invariant.of_part)
