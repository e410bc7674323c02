use Rattle.std.proofs.Common.{◌≡◌, ◌∙◌, sym}
use Rattle.gs_libcell.proofs.Texts.{plain_text}
use Rattle.gs_libcell.proofs.text.may_continue.Goals as goal

pub returns : goal.returns
returns c = λ none. plain_text c.args.text.now (sym c.has_backslash.ensures ∙ none)
