use Rattle.std.proofs.Common.{◌+◌, ◌<◌, length, arith}
use Rattle.std.proofs.lemmas.Int.Digits.{digits_value_more}
use Rattle.gs_quantity.specs.Decimal.{digits_of}
use Rattle.gs_quantity.proofs.Digits.{front_grows}
use Rattle.gs_quantity.proofs.spelling.Spelling.front.Goals as goal

pub returns-then-value-ge-NUMBER_LIMIT : goal.returns-then-value-ge-NUMBER_LIMIT
returns-then-value-ge-NUMBER_LIMIT c =
    let ds = digits_of c.args.self.now in
    let i = c.loop-place.place in
    let lt : c.loop-place.place < length (digits_of c.args.self.now) = omega arith in
    omega (arith, digits_value_more 10 ds i lt, c.loop-place.invariant.0, c.digit.ensures.value, front_grows ds (i + 1) c.args.count (omega arith), c.if-value-ge-NUMBER_LIMIT.true)

pub loop-place-preserved : goal.loop-place-preserved
loop-place-preserved c =
    let ds = digits_of c.args.self.now in
    let i = c.loop-place.place in
    let lt : c.loop-place.place < length (digits_of c.args.self.now) = omega arith in
    (omega (arith, digits_value_more 10 ds i lt, c.loop-place.invariant.0, c.digit.ensures.value), omega arith)
