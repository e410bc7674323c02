use Rattle.gs_quantity.proofs.Digits.{front_digits}
use Rattle.gs_quantity.proofs.spelling.digits.Goals as goal

pub returns-clause-digits : goal.returns-clause-digits
returns-clause-digits c = rw c.digits_len.ensures.count (front_digits c.args.bytes.now)
