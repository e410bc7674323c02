use Rattle.std.proofs.Common.{arith}
use Rattle.std.specs.Str.{all_ascii_digits}
use Rattle.gs_top.proofs.Forms.{past_first}
use Rattle.gs_top.proofs.number.+number_from.Goals as goal

pub returns-then-next-most : goal.returns-then-next-most
returns-then-next-most t c =
    past_first c.args.most c.args.number c.args.digits.now (all_ascii_digits c.args.digits.now) (omega (arith, c.in-len1-up.len_at_least)) (omega (arith, c.if-next-most.true))
