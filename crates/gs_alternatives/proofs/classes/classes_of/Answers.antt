use Rattle.std.proofs.Common.{◌≡◌, ◌∙◌, ap, sym, subst, refl, ◌+◌, length, arith}
use Rattle.std.specs.BTreeMap.{get}
use Rattle.gs_design.specs.Cells.{cell_at, no_cell}
use Rattle.gs_alternatives.specs.Classes.{AreClasses, class_key, key_cmp}
use Rattle.gs_alternatives.proofs.FirstLaws.{IsMapped, classes_are, mapped_more}
use Rattle.gs_alternatives.proofs.classes.classes_of.Goals as goal

pub loop-number-preserved : goal.loop-number-preserved
loop-number-preserved c =
    let i = c.loop-number.number in
    let here : c.at.result.now ≡ cell_at c.args.cells.now i = c.at.ensures no_cell in
    subst (λ xs. IsMapped c.args.cells.now (get key_cmp c.class_of.new.numbers) xs (i + 1)) (sym c.in_ok-push.ensures.items)
    (mapped_more c.args.cells.now (get key_cmp c.loop-number.numbers) (get key_cmp c.class_of.new.numbers) c.loop-number.classes.items i c.in_ok-class.class c.loop-number.invariant
    (class_key (cell_at c.args.cells.now i)) refl
    (λ e. c.in_ok-class.ensures.none (ap class_key here ∙ e))
    (λ e. c.in_ok-class.ensures.unchanged (ap class_key here ∙ e))
    (λ k e. c.in_ok-class.ensures.some k (ap class_key here ∙ e))
    (λ k e. c.in_ok-class.ensures.updates k (ap class_key here ∙ e)))

pub returns : goal.returns
returns c =
    let whole : c.loop-number.number ≡ length c.args.cells.now = omega (arith, c.loop-number-test.false, c.loop-number.auto.number-end, c.len-number-end.ensures) in
    subst (AreClasses c.args.cells.now) (sym c.from_vec.ensures)
    (classes_are c.args.cells.now (get key_cmp c.loop-number.numbers) c.loop-number.classes.items
    (subst (IsMapped c.args.cells.now (get key_cmp c.loop-number.numbers) c.loop-number.classes.items) whole c.loop-number.invariant))
