use Rattle.std.proofs.Common.{◌-◌, length, arith, length-append}
use Rattle.gs_quantity.proofs.Digits.{digit_at}
use Rattle.gs_quantity.proofs.spelling.Spelling.digit.Goals as goal

pub digit_of-requires : goal.digit_of-requires
digit_of-requires c = digit_at c.self.inside.whole.now c.args.place c.self.invariant.of_whole (omega arith)

pub digit_of-requires-else-place-self : goal.digit_of-requires-else-place-self
digit_of-requires-else-place-self c =
    let within = rw (← c.self.view_is) at c.requires in
    digit_at c.self.inside.part.now (c.args.place - length c.self.inside.whole.now) c.self.invariant.of_part
    (omega (arith, within, length-append c.self.inside.whole.now c.self.inside.part.now))
