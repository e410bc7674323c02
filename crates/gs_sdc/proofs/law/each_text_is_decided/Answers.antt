use Rattle.gs_grammar.proofs.Answers.{decided}
use Rattle.gs_grammar.proofs.Lawful.{lawful}
use Rattle.gs_lines.specs.Lines.{line_count}
use Rattle.gs_sdc.specs.Reader.{answer_of, items_of}
use Rattle.gs_sdc.specs.Sdc.{HasCause, IsSdc, text_lines}
use Rattle.gs_sdc.specs.declared.error.SdcErr.{SdcErr}
use Rattle.gs_sdc.proofs.Answering.{caused, causes, complete, lasts, sound}
use Rattle.gs_sdc.proofs.law.each_text_is_decided.Goals as goal

pub returns : goal.returns
returns c u bytes =
    let last = line_count bytes in
    let ls = text_lines bytes in
    let said = answer_of last (items_of u ls) in
    lawful SdcErr.Mem said (IsSdc u bytes) (HasCause u bytes) (complete u last ls) (caused u last ls)
    (decided SdcErr.Mem said (IsSdc u bytes) (HasCause u bytes) (sound u last ls) (causes u last ls) (lasts u last ls))
