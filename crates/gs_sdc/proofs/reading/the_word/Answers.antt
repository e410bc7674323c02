use Rattle.std.proofs.Common.{◌∙◌, ap}
use Rattle.gs_sdc.specs.Command.{as_word}
use Rattle.gs_sdc.proofs.reading.the_word.Goals as goal

pub returns : goal.returns
returns c = λ bytes. c.as_word.ensures bytes ∙ ap as_word (c.first_of.ensures.value bytes)
