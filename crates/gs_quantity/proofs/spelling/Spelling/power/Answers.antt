use Rattle.std.proofs.Common.{arith}
use Rattle.std.proofs.lemmas.Int.Digits.{digits_value_more}
use Rattle.gs_quantity.proofs.Digits.{digit_at}
use Rattle.gs_quantity.proofs.spelling.Spelling.power.Goals as goal

pub digit_of-requires : goal.digit_of-requires
digit_of-requires c = digit_at c.self.inside.power.now c.loop-byte.byte-index c.self.invariant.of_power (omega arith)

pub loop-byte-preserved : goal.loop-byte-preserved
loop-byte-preserved c =
    omega (arith, digits_value_more 10 c.self.inside.power.now c.loop-byte.byte-index (omega arith), c.loop-byte.invariant, c.digit_of.ensures.value, c.saturating_mul.ensures, c.saturating_add-power.ensures)
