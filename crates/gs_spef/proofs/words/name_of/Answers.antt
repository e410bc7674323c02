use Rattle.std.proofs.Common.{◌∙◌, sym}
use Rattle.gs_spef.proofs.Plain.{plain_kept}
use Rattle.gs_spef.proofs.words.name_of.Goals as goal

pub returns-else-contains : goal.returns-else-contains
returns-else-contains c =
    plain_kept _ c.args.text.now c.copy_of.result (sym c.contains.ensures.value ∙ c.if-contains.false) c.copy_of.ensures
