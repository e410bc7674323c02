use Rattle.gs_grammar.proofs.Answers.{decided}
use Rattle.gs_grammar.proofs.Lawful.{lawful}
use Rattle.gs_sizes.specs.Lines.{rows}
use Rattle.gs_sizes.specs.Reader.{reading}
use Rattle.gs_sizes.specs.Refusal.{HasCause}
use Rattle.gs_sizes.specs.Sizes.{IsSizes}
use Rattle.gs_sizes.specs.declared.error.SizesErr.{SizesErr}
use Rattle.gs_sizes.proofs.Reading.{caused, causes, complete, lasts, sound}
use Rattle.gs_sizes.proofs.law.each_text_is_decided.Goals as goal

pub returns : goal.returns
returns c d bytes =
    let ls = rows bytes in
    lawful SizesErr.Mem (reading d ls) (IsSizes d bytes) (HasCause d bytes) (complete d ls) (caused d ls)
    (decided SizesErr.Mem (reading d ls) (IsSizes d bytes) (HasCause d bytes) (sound d ls) (causes d ls) (lasts d ls))
