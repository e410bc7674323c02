use Rattle.std.proofs.Common.{◌+◌, ◌<◌, ◌∙◌, length, arith}
use Rattle.gs_quantity.specs.Lookup.{at}
use Rattle.gs_quantity.proofs.Spots.{spot_small}
use Rattle.gs_quantity.proofs.lookup.axis.find_spot.Goals as goal

pub returns-clause-small : goal.returns-clause-small
returns-clause-small c =
    let xs = c.args.points.now in
    let i = c.segment-place.result in
    let lt : c.segment-place.result + 1 < length xs = c.segment-place.ensures.within (λ e. c.if-len-eq1.false (c.len.ensures ∙ e)) in
    let e = rw (c.point.ensures, c.point-2.ensures) at c.between.ensures in
    spot_small (length xs) i (at xs i) (at xs (i + 1)) c.args.query c.between.result e lt
    (c.requires.axis.narrow i (omega arith)) (c.requires.axis.narrow (i + 1) lt) c.requires.query (c.requires.axis.rising i lt)
