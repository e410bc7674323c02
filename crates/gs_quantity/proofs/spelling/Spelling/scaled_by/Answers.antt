use Rattle.std.proofs.Common.{sym, arith}
use Rattle.gs_quantity.specs.Decimal.{digits_of}
use Rattle.gs_quantity.proofs.Scaling.{scaled_up, scaled_down, scaled_none, bounded_same}
use Rattle.gs_quantity.proofs.spelling.Spelling.scaled_by.Goals as goal

pub returns-then-down-up : goal.returns-then-down-up
returns-then-down-up c =
    bounded_same c.lengthened.result _ _ (scaled_up (digits_of c.args.self.now) c.args.up c.args.down (omega arith)) c.lengthened.ensures

pub returns-then-dropped-count : goal.returns-then-dropped-count
returns-then-dropped-count c =
    let e = scaled_none (digits_of c.args.self.now) c.args.up c.args.down c.count.ensures.digits (omega (arith, c.count.ensures.count)) in
    (sym e, omega (arith, e))

pub returns : goal.returns
returns c =
    bounded_same c.shortened.result _ _ (scaled_down (digits_of c.args.self.now) c.args.up c.args.down (omega arith)) c.shortened.ensures
