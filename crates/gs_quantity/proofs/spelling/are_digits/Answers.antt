use Rattle.gs_quantity.proofs.Digits.{all_at_front}
use Rattle.gs_quantity.proofs.spelling.are_digits.Goals as goal

pub returns : goal.returns
returns c = rw c.digits_len.ensures.count (all_at_front c.args.bytes.now)
