use Rattle.std.proofs.Common.{refl, arith}
use Rattle.std.proofs.Math.Nat.{div-le_self}
use Rattle.gs_quantity.proofs.Quotient.{quotient_is}
use Rattle.gs_quantity.proofs.lookup.rounding.quotient.Goals as goal

pub returns-then-is_quotient : goal.returns-then-is_quotient
returns-then-is_quotient c =
    let facts = (rw c.if-is_quotient.true at c.is_quotient.ensures).0 refl in
    let value = quotient_is c.args.top c.args.bottom c.guess-whole.result c.requires facts.0 facts.1 in
    record { value = value; small = omega (arith, value, div-le_self c.args.top c.args.bottom) }
