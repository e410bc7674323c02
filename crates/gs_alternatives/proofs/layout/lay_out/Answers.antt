use Rattle.std.proofs.Common.{◌∙◌, sym, subst, ◌+◌, arith}
use Rattle.gs_alternatives.specs.Choices.{AreShared}
use Rattle.gs_alternatives.proofs.LayoutLaws.{IsLaid, laid_put, laid_shared, laid_skip}
use Rattle.gs_alternatives.proofs.layout.lay_out.Goals as goal

pub loop-cell-preserved-then-at-cell : goal.loop-cell-preserved-then-at-cell
loop-cell-preserved-then-at-cell c =
    laid_skip c.args.cells.now c.args.classes.now c.loop-cell.choices.items c.loop-cell.stretches.items c.loop-cell.cell c.requires.kept c.requires.classes c.loop-cell.invariant (omega arith)
    (λ e. c.if-at-cell.true (c.at.ensures 0 ∙ e))

pub loop-cell-preserved : goal.loop-cell-preserved
loop-cell-preserved c =
    subst (λ xs. IsLaid c.args.cells.now c.args.classes.now xs c.put_group.new.stretches.items (c.loop-cell.cell + 1)) (sym c.in_ok-put_group.ensures.pushed)
    (laid_put c.args.cells.now c.args.classes.now c.loop-cell.choices.items c.loop-cell.stretches.items c.loop-cell.cell c.requires.kept c.requires.classes c.loop-cell.invariant (omega arith)
    c.list_at-list.result.now c.put_group.new.stretches.items (sym (c.at.ensures 0) ∙ c.if-at-cell.false) c.list_at-list.ensures c.in_ok-put_group.ensures.many c.in_ok-put_group.ensures.members c.in_ok-put_group.ensures.others)

pub returns-clause-shared : goal.returns-clause-shared
returns-clause-shared c =
    subst (λ xs. AreShared c.args.cells.now xs c.from_vec-2.result) (sym c.from_vec.ensures)
    (subst (λ ss. AreShared c.args.cells.now c.loop-cell.choices.items ss) (sym c.from_vec-2.ensures)
    (laid_shared c.args.cells.now c.args.classes.now c.loop-cell.choices.items c.loop-cell.stretches.items c.loop-cell.cell c.requires.kept c.requires.classes c.loop-cell.invariant (omega arith)))
