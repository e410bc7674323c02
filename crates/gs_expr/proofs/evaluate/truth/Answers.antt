use Rattle.std.proofs.Common.{subst, sym, arith}
use Rattle.gs_expr.proofs.Clauses.{Gives, few, answers_ok, answers_only, answers_err, answers_exact, decided}
use Rattle.gs_expr.proofs.Parts.{same_fronts}
use Rattle.gs_expr.proofs.evaluate.truth.Goals as goal

pub returns-clause-ok : goal.returns-clause-ok
returns-clause-ok c =
    let bytes = c.args.bytes.now in
    let names = c.args.names.now in
    answers_ok bytes names c.read.result (subst (Gives c.read.result) (sym (few bytes names (omega arith))) c.read.ensures)

pub returns-clause-only : goal.returns-clause-only
returns-clause-only c =
    let bytes = c.args.bytes.now in
    let names = c.args.names.now in
    answers_only bytes names c.read.result (subst (Gives c.read.result) (sym (few bytes names (omega arith))) c.read.ensures)

pub returns-clause-err : goal.returns-clause-err
returns-clause-err c =
    let bytes = c.args.bytes.now in
    let names = c.args.names.now in
    answers_err bytes names c.read.result (subst (Gives c.read.result) (sym (few bytes names (omega arith))) c.read.ensures)

pub returns-clause-exact : goal.returns-clause-exact
returns-clause-exact c =
    let bytes = c.args.bytes.now in
    let names = c.args.names.now in
    answers_exact bytes names c.read.result (subst (Gives c.read.result) (sym (few bytes names (omega arith))) c.read.ensures)

pub returns-clause-decided : goal.returns-clause-decided
returns-clause-decided c = decided c.args.bytes.now c.args.names.now

pub returns-clause-fronts : goal.returns-clause-fronts
returns-clause-fronts c = same_fronts

pub returns-then-names-gt-NAMES-clause-fronts : goal.returns-then-names-gt-NAMES-clause-fronts
returns-then-names-gt-NAMES-clause-fronts c = same_fronts

pub returns-clause-function : goal.returns-clause-function
returns-clause-function c =
    let bytes = c.args.bytes.now in
    let names = c.args.names.now in
    subst (Gives c.read.result) (sym (few bytes names (omega arith))) c.read.ensures
