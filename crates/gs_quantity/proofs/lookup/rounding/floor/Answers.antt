use Rattle.std.proofs.Common.{◌∙◌, sym}
use Rattle.gs_quantity.proofs.Quotient.{floor_is}
use Rattle.gs_quantity.proofs.lookup.rounding.floor.Goals as goal

pub returns : goal.returns
returns c =
    let q = rw (c.magnitude.ensures, c.magnitude-under.ensures) at c.quotient.ensures.value in
    c.from_whole.ensures
    ∙ floor_is c.args.top c.args.bottom c.quotient.result (sym c.is_negative.ensures ∙ c.if-is_negative.false) c.requires.some q
