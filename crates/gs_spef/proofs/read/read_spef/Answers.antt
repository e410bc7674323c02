use Rattle.gs_grammar.proofs.Answers.{answers_err, answers_exact, answers_ok, answers_only, decided}
use Rattle.gs_lines.specs.Lines.{line_count}
use Rattle.gs_spef.specs.Lines.{text_lines}
use Rattle.gs_spef.specs.Reader.{reading}
use Rattle.gs_spef.specs.Refusal.{HasCause}
use Rattle.gs_spef.specs.Spef.{IsSpef}
use Rattle.gs_spef.specs.declared.error.SpefErr.{SpefErr}
use Rattle.gs_spef.proofs.Reading.{caused, causes, complete, lasts, sound}
use Rattle.gs_spef.proofs.read.read_spef.Goals as goal

pub returns-clause-ok : goal.returns-clause-ok
returns-clause-ok c =
    let bytes = c.args.bytes.now in
    let last = line_count bytes in
    let ls = text_lines bytes in
    answers_ok SpefErr.Mem (reading last ls) (IsSpef bytes) (sound last ls) c.read_text-read.result c.read_text-read.ensures

pub returns-clause-only : goal.returns-clause-only
returns-clause-only c =
    let bytes = c.args.bytes.now in
    let last = line_count bytes in
    let ls = text_lines bytes in
    answers_only SpefErr.Mem (reading last ls) (IsSpef bytes) (complete last ls) c.read_text-read.result c.read_text-read.ensures

pub returns-clause-err : goal.returns-clause-err
returns-clause-err c =
    let bytes = c.args.bytes.now in
    let last = line_count bytes in
    let ls = text_lines bytes in
    answers_err SpefErr.Mem (reading last ls) (HasCause bytes) (causes last ls) tt c.read_text-read.result c.read_text-read.ensures

pub returns-clause-exact : goal.returns-clause-exact
returns-clause-exact c =
    let bytes = c.args.bytes.now in
    let last = line_count bytes in
    let ls = text_lines bytes in
    answers_exact SpefErr.Mem (reading last ls) (HasCause bytes) (caused last ls) c.read_text-read.result c.read_text-read.ensures

pub returns-clause-decided : goal.returns-clause-decided
returns-clause-decided c =
    let bytes = c.args.bytes.now in
    let last = line_count bytes in
    let ls = text_lines bytes in
    decided SpefErr.Mem (reading last ls) (IsSpef bytes) (HasCause bytes) (sound last ls) (causes last ls) (lasts last ls)
