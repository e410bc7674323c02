use Rattle.std.proofs.Common.{arith}
use Rattle.gs_incr.proofs.LaidLaws.{laid_none, length_laid}
use Rattle.gs_incr.proofs.laid.fresh.Goals as goal

pub returns-clause-many : goal.returns-clause-many
returns-clause-many c = length_laid 1 c.args.marks.items c.args.records.items

pub returns-clause-none : goal.returns-clause-none
returns-clause-none c = laid_none 1 c.args.marks.items c.args.records.items (λ n lt. let zero = c.requires.zero n lt in omega (arith, zero))
