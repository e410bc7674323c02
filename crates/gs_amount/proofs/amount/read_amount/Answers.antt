use Rattle.std.proofs.Common.{◌∙◌, ap}
use Rattle.gs_amount.specs.Amount.{unless_negative}
use Rattle.gs_amount.proofs.Amounts.{amount_kept}
use Rattle.gs_amount.proofs.amount.read_amount.Goals as goal

pub returns-clause-kept : goal.returns-clause-kept
returns-clause-kept c =
    amount_kept c.args.bytes.now c.args.tens c.unless_negative.result (c.unless_negative.ensures ∙ ap unless_negative c.read_decimal.ensures.value)
