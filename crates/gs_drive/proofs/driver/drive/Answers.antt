use Rattle.gs_grammar.proofs.Answers.{answers_ok, answers_only, answers_err, answers_exact}
use Rattle.gs_text.specs.Faults.{HasFault}
use Rattle.gs_drive.specs.Cause.{Cause, Reads}
use Rattle.gs_drive.specs.Machine.{judged}
use Rattle.gs_drive.specs.Tokens.{tokens}
use Rattle.gs_drive.specs.declared.refusal.Refusal.{Refusal}
use Rattle.gs_drive.proofs.Reading.{reads, read_said, causes, caused, is_decided, token_faults}
use Rattle.gs_drive.proofs.driver.drive.Goals as goal

pub returns-clause-ok : goal.returns-clause-ok
returns-clause-ok g c =
    let m = g.M.Machine in
    let found = tokens m.token c.args.style c.args.bytes.now in
    let faults = token_faults m.token c.args.style c.args.bytes.now c.run_text.ensures.fault in
    answers_ok Refusal.Mem (judged m.step m.begin m.end found) (Reads m.Text found)
    (reads m.step m.loose m.begin m.end (HasFault c.args.style c.args.bytes.now) m.Form m.Text m.Breaks c.requires.reader found faults) c.run_text.result c.run_text.ensures.answer

pub returns-clause-only : goal.returns-clause-only
returns-clause-only g c =
    let m = g.M.Machine in
    let found = tokens m.token c.args.style c.args.bytes.now in
    let faults = token_faults m.token c.args.style c.args.bytes.now c.run_text.ensures.fault in
    answers_only Refusal.Mem (judged m.step m.begin m.end found) (Reads m.Text found)
    (read_said m.step m.loose m.begin m.end (HasFault c.args.style c.args.bytes.now) m.Form m.Text m.Breaks c.requires.reader found faults) c.run_text.result c.run_text.ensures.answer

pub returns-clause-err : goal.returns-clause-err
returns-clause-err g c =
    let m = g.M.Machine in
    let found = tokens m.token c.args.style c.args.bytes.now in
    let faults = token_faults m.token c.args.style c.args.bytes.now c.run_text.ensures.fault in
    answers_err Refusal.Mem (judged m.step m.begin m.end found) (Cause (HasFault c.args.style c.args.bytes.now) m.Form m.Text m.Breaks found)
    (causes m.step m.loose m.begin m.end (HasFault c.args.style c.args.bytes.now) m.Form m.Text m.Breaks c.requires.reader found faults) tt c.run_text.result c.run_text.ensures.answer

pub returns-clause-exact : goal.returns-clause-exact
returns-clause-exact g c =
    let m = g.M.Machine in
    let found = tokens m.token c.args.style c.args.bytes.now in
    let faults = token_faults m.token c.args.style c.args.bytes.now c.run_text.ensures.fault in
    answers_exact Refusal.Mem (judged m.step m.begin m.end found) (Cause (HasFault c.args.style c.args.bytes.now) m.Form m.Text m.Breaks found)
    (caused m.step m.loose m.begin m.end (HasFault c.args.style c.args.bytes.now) m.Form m.Text m.Breaks c.requires.reader found faults) c.run_text.result c.run_text.ensures.answer

pub returns-clause-told : goal.returns-clause-told
returns-clause-told g c = λ e fault. c.run_text.ensures.told e ((c.run_text.ensures.fault e).1 fault)

pub returns-clause-decided : goal.returns-clause-decided
returns-clause-decided g c =
    let m = g.M.Machine in
    let found = tokens m.token c.args.style c.args.bytes.now in
    let faults = token_faults m.token c.args.style c.args.bytes.now c.run_text.ensures.fault in
    is_decided m.step m.loose m.begin m.end (HasFault c.args.style c.args.bytes.now) m.Form m.Text m.Breaks c.requires.reader found faults
