use Rattle.std.proofs.Common.{◌∙◌, ap}
use Rattle.gs_amount.specs.Amount.{where_read}
use Rattle.gs_amount.proofs.Amounts.{number_kept}
use Rattle.gs_amount.proofs.amount.read_number.Goals as goal

pub returns-clause-kept : goal.returns-clause-kept
returns-clause-kept c =
    number_kept c.args.bytes.now c.args.tens c.where_read.result (c.where_read.ensures ∙ ap where_read c.read_decimal.ensures.value)
