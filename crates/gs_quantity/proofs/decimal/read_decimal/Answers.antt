use Rattle.std.proofs.Common.{◌∙◌, ap, nat_abs}
use Rattle.gs_quantity.proofs.Scaling.{abs_signed, is_magnitude, far_from}
use Rattle.gs_quantity.proofs.decimal.read_decimal.Goals as goal

pub returns-in-Some-magnitude-clause-nearest : goal.returns-in-Some-magnitude-clause-nearest
returns-in-Some-magnitude-clause-nearest c =
    rw (← c.in-Some.ensures)
    (is_magnitude c.in-Some.spelling c.args.tens (nat_abs c.signed.result)
    (ap nat_abs c.signed.ensures ∙ abs_signed c.spelling.inside.negative c.in-Some-magnitude.magnitude ∙ c.in-Some-magnitude.ensures.0))

pub returns-in-None-clause-far : goal.returns-in-None-clause-far
returns-in-None-clause-far c = λ _. rw (← c.in-Some.ensures) (far_from c.in-Some.spelling c.args.tens c.in-None.ensures)
