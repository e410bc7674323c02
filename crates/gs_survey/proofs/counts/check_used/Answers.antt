use Rattle.std.proofs.Common.{◌≡◌, ◌<◌, None, get_or, length, replicate, slice_range, refl, sym, ap, subst, ◌∙◌, arith}
use Rattle.std.proofs.lemmas.List.{get_or_default, length-replicate, length-set}
use Rattle.gs_alternatives.specs.Choices.{AreChoices}
use Rattle.gs_survey.proofs.ArcLaws.{among_is, begins, judged_more, none_judged}
use Rattle.gs_survey.proofs.First.{goes_on}
use Rattle.gs_survey.specs.Arcs.{no_arc_among, no_arc_of}
use Rattle.gs_survey.specs.First.{first_some}
use Rattle.gs_survey.proofs.counts.check_used.Goals as goal

pub loop-i-init : goal.loop-i-init
loop-i-init c =
    let choices = c.as_slice-choices.result.now in
    let zeros : c.in_ok-ends.ends.items ≡ replicate (length choices) 0 = c.in_ok-ends.ensures.items_if_clones_equal (λ y h. h) in
    record {
      so_far = refl;
      many = ap length zeros ∙ length-replicate (length choices) 0;
      judged = none_judged (no_arc_of c.args.cells.now) choices c.in_ok-ends.ends.items (length choices) zeros;
    }

pub loop-i-preserved : goal.loop-i-preserved
loop-i-preserved c =
    let cells = c.args.cells.now in
    let choices = c.as_slice-choices.result.now in
    let number = get_or c.args.found.now c.loop-i.i 0 in
    let stretch = c.stretch_of-stretch.result in
    let are : AreChoices cells choices c.args.table.now.stretches = subst (λ xs. AreChoices cells xs c.args.table.now.stretches) (sym c.as_slice-choices.ensures) c.requires.choices in
    let known : number < length cells = c.requires.numbers c.loop-i.i 0 (omega arith) in
    let passes : first_some (no_arc_of cells) (slice_range choices stretch.from stretch.to) ≡ None = c.in_default.ensures in
    let starts : stretch.from < length choices = begins cells choices c.args.table.now.stretches are number known stretch c.stretch_of-stretch.ensures in
    record {
      so_far = goes_on (no_arc_among cells) c.args.found.now c.loop-i.i (omega arith) number (get_or_default c.args.found.now c.loop-i.i 0 number (omega arith)) _ c.loop-i.invariant.so_far
          (sym (among_is cells choices c.args.table.now.stretches are number known stretch c.stretch_of-stretch.ensures) ∙ passes);
      many = length-set c.loop-i.ends.items stretch.from stretch.to ∙ c.loop-i.invariant.many;
      judged = judged_more (no_arc_of cells) choices c.loop-i.ends.items stretch.from stretch.to (omega (arith, starts, c.loop-i.invariant.many)) passes c.loop-i.invariant.judged;
    }
