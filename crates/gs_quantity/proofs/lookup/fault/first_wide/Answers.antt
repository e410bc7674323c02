use Rattle.std.proofs.Common.{◌∙◌, sym, length, arith}
use Rattle.gs_quantity.specs.TableFault.{is_wide}
use Rattle.gs_quantity.proofs.Places.{place_here, place_skip}
use Rattle.gs_quantity.proofs.lookup.fault.first_wide.Goals as goal

pub returns-then-is_wide_at-clause-value : goal.returns-then-is_wide_at-clause-value
returns-then-is_wide_at-clause-value c =
    sym (place_here (is_wide c.args.values.now) c.loop-place.place (length c.args.values.now) (omega (arith, c.len-place-end.ensures)) (sym c.is_wide_at.ensures ∙ c.if-is_wide_at.true))
    ∙ c.loop-place.invariant

pub loop-place-preserved : goal.loop-place-preserved
loop-place-preserved c =
    sym (place_skip (is_wide c.args.values.now) c.loop-place.place (length c.args.values.now) (omega (arith, c.len-place-end.ensures)) (sym c.is_wide_at.ensures ∙ c.if-is_wide_at.false))
    ∙ c.loop-place.invariant
