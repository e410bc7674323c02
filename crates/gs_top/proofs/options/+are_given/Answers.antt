use Rattle.std.proofs.Common.{sym}
use Rattle.std.specs.Prelude.{string_bytes}
use Rattle.gs_top.proofs.Forms.{given_few}
use Rattle.gs_top.proofs.options.+are_given.Goals as goal

pub returns-then-words-lt2 : goal.returns-then-words-lt2
returns-then-words-lt2 t c =
    given_few (λ o. o.now) string_bytes c.args.options.now c.args.words.now (sym c.if-is_empty.ensures) c.if-words-lt2.true
