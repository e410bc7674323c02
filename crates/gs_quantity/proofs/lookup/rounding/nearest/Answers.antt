use Rattle.std.proofs.Common.{◌∙◌}
use Rattle.gs_quantity.proofs.Quotient.{nearest_sides}
use Rattle.gs_quantity.proofs.lookup.rounding.nearest.Goals as goal

pub returns : goal.returns
returns c =
    c.floor.ensures ∙ nearest_sides c.args.over c.args.under c.doubled.result c.plus.result c.doubled-2.result
    c.doubled.ensures.value c.plus.ensures.value c.doubled-2.ensures.value
