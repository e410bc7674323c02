use Rattle.std.proofs.Common.{◌∙◌, sym, length, arith}
use Rattle.gs_quantity.specs.TableFault.{falls}
use Rattle.gs_quantity.proofs.Places.{place_here, place_skip}
use Rattle.gs_quantity.proofs.lookup.fault.first_fall.Goals as goal

pub returns-then-is_fall-clause-value : goal.returns-then-is_fall-clause-value
returns-then-is_fall-clause-value c =
    sym (place_here (falls c.args.points.now) c.loop-place.place (length c.args.points.now) (omega (arith, c.len-place-end.ensures)) (sym c.is_fall.ensures ∙ c.if-is_fall.true))
    ∙ c.loop-place.invariant

pub loop-place-preserved : goal.loop-place-preserved
loop-place-preserved c =
    sym (place_skip (falls c.args.points.now) c.loop-place.place (length c.args.points.now) (omega (arith, c.len-place-end.ensures)) (sym c.is_fall.ensures ∙ c.if-is_fall.false))
    ∙ c.loop-place.invariant
