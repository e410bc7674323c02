use Rattle.std.proofs.Common.{length, take_all, arith}
use Rattle.std.specs.Str.Parse.{digits_value}
use Rattle.gs_quantity.specs.declared.limits.TheConstants.{NUMBER_LIMIT}
use Rattle.gs_quantity.specs.Decimal.{digits_of}
use Rattle.gs_quantity.proofs.Scaling.{zeros_grow}
use Rattle.gs_quantity.proofs.spelling.Spelling.lengthened.Goals as goal

pub returns-in-None : goal.returns-in-None
returns-in-None c =
    let far = rw (c.count.ensures.count, take_all (length (digits_of c.args.self.now)) (digits_of c.args.self.now) (omega arith)) at c.in-None.ensures in
    zeros_grow (digits_value 10 (digits_of c.args.self.now)) c.args.zeros NUMBER_LIMIT far
