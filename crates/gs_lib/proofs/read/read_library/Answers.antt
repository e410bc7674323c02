use Rattle.std.proofs.Common.{subst}
use Rattle.gs_lib.proofs.Laws.{Answers, answers_err, answers_exact, answers_ok, answers_only, lawful}
use Rattle.gs_lib.proofs.read.read_library.Goals as goal

pub returns-clause-ok : goal.returns-clause-ok
returns-clause-ok c = answers_ok c.args.root.now c.read_root-read.result (subst (λ n. Answers n c.read_root-read.result) c.root.ensures.value c.read_root-read.ensures)

pub returns-clause-only : goal.returns-clause-only
returns-clause-only c = answers_only c.args.root.now c.read_root-read.result (subst (λ n. Answers n c.read_root-read.result) c.root.ensures.value c.read_root-read.ensures)

pub returns-clause-err : goal.returns-clause-err
returns-clause-err c = answers_err c.args.root.now c.read_root-read.result (subst (λ n. Answers n c.read_root-read.result) c.root.ensures.value c.read_root-read.ensures)

pub returns-clause-exact : goal.returns-clause-exact
returns-clause-exact c = answers_exact c.args.root.now c.read_root-read.result (subst (λ n. Answers n c.read_root-read.result) c.root.ensures.value c.read_root-read.ensures)

pub returns-clause-decided : goal.returns-clause-decided
returns-clause-decided c = (lawful c.args.root.now).decided
