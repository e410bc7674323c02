use Rattle.gs_design.specs.Parts.{parts_of}
use Rattle.gs_design.specs.Sizes.{FitSizes}
use Rattle.gs_grammar.proofs.Answers.{answers_err, answers_exact, answers_ok, answers_only, decided}
use Rattle.gs_sizes.specs.Lines.{rows}
use Rattle.gs_sizes.specs.Reader.{reading}
use Rattle.gs_sizes.specs.Refusal.{HasCause}
use Rattle.gs_sizes.specs.Sizes.{IsSizes}
use Rattle.gs_sizes.specs.declared.error.SizesErr.{SizesErr}
use Rattle.gs_sizes.proofs.Reading.{caused, causes, complete, fits, lasts, sound}
use Rattle.gs_sizes.proofs.read.read_sizes.Goals as goal

pub returns-clause-ok : goal.returns-clause-ok
returns-clause-ok c =
    let d = parts_of c.args.design.now in
    let ls = rows c.args.bytes.now in
    answers_ok SizesErr.Mem (reading d ls) (IsSizes d c.args.bytes.now) (sound d ls) c.read_text-read.result c.read_text-read.ensures

pub returns-clause-fit : goal.returns-clause-fit
returns-clause-fit c =
    let d = parts_of c.args.design.now in
    let ls = rows c.args.bytes.now in
    answers_ok SizesErr.Mem (reading d ls) (FitSizes c.args.design.now) (λ s e. fits c.args.design.now ls s (sound d ls s e)) c.read_text-read.result c.read_text-read.ensures

pub returns-clause-only : goal.returns-clause-only
returns-clause-only c =
    let d = parts_of c.args.design.now in
    let ls = rows c.args.bytes.now in
    answers_only SizesErr.Mem (reading d ls) (IsSizes d c.args.bytes.now) (complete d ls) c.read_text-read.result c.read_text-read.ensures

pub returns-clause-err : goal.returns-clause-err
returns-clause-err c =
    let d = parts_of c.args.design.now in
    let ls = rows c.args.bytes.now in
    answers_err SizesErr.Mem (reading d ls) (HasCause d c.args.bytes.now) (causes d ls) tt c.read_text-read.result c.read_text-read.ensures

pub returns-clause-exact : goal.returns-clause-exact
returns-clause-exact c =
    let d = parts_of c.args.design.now in
    let ls = rows c.args.bytes.now in
    answers_exact SizesErr.Mem (reading d ls) (HasCause d c.args.bytes.now) (caused d ls) c.read_text-read.result c.read_text-read.ensures

pub returns-clause-decided : goal.returns-clause-decided
returns-clause-decided c =
    let d = parts_of c.args.design.now in
    let ls = rows c.args.bytes.now in
    decided SizesErr.Mem (reading d ls) (IsSizes d c.args.bytes.now) (HasCause d c.args.bytes.now) (sound d ls) (causes d ls) (lasts d ls)
