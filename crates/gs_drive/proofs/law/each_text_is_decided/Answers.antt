use Rattle.gs_grammar.proofs.Lawful.{lawful}
use Rattle.gs_text.specs.Faults.{HasFault}
use Rattle.gs_drive.specs.Cause.{Cause, Reads}
use Rattle.gs_drive.specs.Machine.{judged}
use Rattle.gs_drive.specs.Tokens.{tokens}
use Rattle.gs_drive.specs.declared.refusal.Refusal.{Refusal}
use Rattle.gs_drive.proofs.Reading.{read_said, caused, is_decided, token_faults}
use Rattle.gs_drive.proofs.law.each_text_is_decided.Goals as goal

pub returns : goal.returns
returns g c style bytes =
    let m = g.M.Machine in
    let found = tokens m.token style bytes in
    let faults = token_faults m.token style bytes (c.each_text_is_decided.ensures style bytes) in
    lawful Refusal.Mem (judged m.step m.begin m.end found) (Reads m.Text found) (Cause (HasFault style bytes) m.Form m.Text m.Breaks found)
    (read_said m.step m.loose m.begin m.end (HasFault style bytes) m.Form m.Text m.Breaks c.requires found faults)
    (caused m.step m.loose m.begin m.end (HasFault style bytes) m.Form m.Text m.Breaks c.requires found faults)
    (is_decided m.step m.loose m.begin m.end (HasFault style bytes) m.Form m.Text m.Breaks c.requires found faults)
