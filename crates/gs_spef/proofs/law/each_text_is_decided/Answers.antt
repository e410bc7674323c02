use Rattle.gs_grammar.proofs.Answers.{decided}
use Rattle.gs_grammar.proofs.Lawful.{lawful}
use Rattle.gs_lines.specs.Lines.{line_count}
use Rattle.gs_spef.specs.Lines.{text_lines}
use Rattle.gs_spef.specs.Reader.{reading}
use Rattle.gs_spef.specs.Refusal.{HasCause}
use Rattle.gs_spef.specs.Spef.{IsSpef}
use Rattle.gs_spef.specs.declared.error.SpefErr.{SpefErr}
use Rattle.gs_spef.proofs.Reading.{caused, causes, complete, lasts, sound}
use Rattle.gs_spef.proofs.law.each_text_is_decided.Goals as goal

pub returns : goal.returns
returns c bytes =
    let last = line_count bytes in
    let ls = text_lines bytes in
    lawful SpefErr.Mem (reading last ls) (IsSpef bytes) (HasCause bytes) (complete last ls) (caused last ls)
    (decided SpefErr.Mem (reading last ls) (IsSpef bytes) (HasCause bytes) (sound last ls) (causes last ls) (lasts last ls))
