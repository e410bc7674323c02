use Rattle.std.proofs.Common.{◌∙◌}
use Rattle.gs_quantity.specs.Decimal.{digits_of}
use Rattle.gs_quantity.proofs.Scaling.{shortened, shortened_far, rounded_same, bounded_same}
use Rattle.gs_quantity.proofs.spelling.Spelling.shortened.Goals as goal

pub returns-in-Some : goal.returns-in-Some
returns-in-Some c =
    let value = rw c.count.ensures.count at c.in-Some.ensures.0 in
    let next = rw c.count.ensures.count at c.digit.ensures.value in
    bounded_same c.bounded.result _ _
    (c.rounded.ensures ∙ rounded_same _ _ _ _ value next
    ∙ shortened (digits_of c.args.self.now) c.args.dropped c.count.ensures.digits c.requires.some c.requires.within)
    c.bounded.ensures

pub returns-in-None : goal.returns-in-None
returns-in-None c =
    let far = rw c.count.ensures.count at c.in-None.ensures in
    shortened_far (digits_of c.args.self.now) c.args.dropped c.count.ensures.digits c.requires.some c.requires.within far
