use Rattle.gs_grammar.proofs.Answers.{answers_err, answers_exact, answers_ok, answers_only, decided}
use Rattle.gs_lines.specs.Lines.{line_count}
use Rattle.gs_sdc.specs.Sdc.{HasCause, IsSdc, text_lines}
use Rattle.gs_sdc.specs.Reader.{answer_of, items_of}
use Rattle.gs_sdc.specs.declared.error.SdcErr.{SdcErr}
use Rattle.gs_sdc.proofs.Answering.{caused, causes, complete, free, lasts, sound}
use Rattle.gs_sdc.proofs.read.read_sdc.Goals as goal

pub returns-clause-ok : goal.returns-clause-ok
returns-clause-ok c =
    let u = c.args.units in
    let bytes = c.args.bytes.now in
    let last = line_count bytes in
    let ls = text_lines bytes in
    answers_ok SdcErr.Mem (answer_of last (items_of u ls)) (IsSdc u bytes) (sound u last ls) c.read_text-read.result c.read_text-read.ensures

pub returns-clause-only : goal.returns-clause-only
returns-clause-only c =
    let u = c.args.units in
    let bytes = c.args.bytes.now in
    let last = line_count bytes in
    let ls = text_lines bytes in
    answers_only SdcErr.Mem (answer_of last (items_of u ls)) (IsSdc u bytes) (complete u last ls) c.read_text-read.result c.read_text-read.ensures

pub returns-clause-err : goal.returns-clause-err
returns-clause-err c =
    let u = c.args.units in
    let bytes = c.args.bytes.now in
    let last = line_count bytes in
    let ls = text_lines bytes in
    answers_err SdcErr.Mem (answer_of last (items_of u ls)) (HasCause u bytes) (causes u last ls) (free u last ls) c.read_text-read.result c.read_text-read.ensures

pub returns-clause-exact : goal.returns-clause-exact
returns-clause-exact c =
    let u = c.args.units in
    let bytes = c.args.bytes.now in
    let last = line_count bytes in
    let ls = text_lines bytes in
    answers_exact SdcErr.Mem (answer_of last (items_of u ls)) (HasCause u bytes) (caused u last ls) c.read_text-read.result c.read_text-read.ensures

pub returns-clause-decided : goal.returns-clause-decided
returns-clause-decided c =
    let u = c.args.units in
    let bytes = c.args.bytes.now in
    let last = line_count bytes in
    let ls = text_lines bytes in
    decided SdcErr.Mem (answer_of last (items_of u ls)) (IsSdc u bytes) (HasCause u bytes) (sound u last ls) (causes u last ls) (lasts u last ls)
