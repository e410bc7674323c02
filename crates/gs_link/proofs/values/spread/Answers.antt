use Rattle.std.proofs.Common.{◌≡◌, ◌∙◌, arith, ap, refl, length, get_or, take}
use Rattle.std.proofs.lemmas.List.{get_or-replicate, length-replicate, length-set, take_all}
use Rattle.std.proofs.lemmas.List.FromFn.{fill_by_all}
use Rattle.gs_link.proofs.Growing.{spread_more}
use Rattle.gs_survey.specs.Numbers.{given}
use Rattle.gs_link.proofs.values.spread.Goals as goal

pub loop-i-init : goal.loop-i-init
loop-i-init g c = record {
  many = ap length c.in_ok-out.ensures ∙ length-replicate c.args.count c.args.other;
  each = λ n d lt. ap (λ xs. get_or xs n d) c.in_ok-out.ensures ∙ get_or-replicate c.args.count n c.args.other d lt;
}

pub loop-i-preserved : goal.loop-i-preserved
loop-i-preserved g c = record {
  many = length-set c.loop-i.out.items _ _ ∙ c.loop-i.invariant.many;
  each = spread_more c.loop-i.out.items c.args.numbers.now c.args.values.now c.args.other c.args.count c.loop-i.i c.loop-i.invariant.many c.requires.same c.loop-i-test.true
      (c.requires.below c.loop-i.i 0 c.loop-i-test.true) c.index-values-i.result c.index-values-i.is c.loop-i.invariant.each;
}

pub returns : goal.returns
returns g c =
    let numbers : take c.loop-i.i c.args.numbers.now ≡ c.args.numbers.now = take_all c.loop-i.i c.args.numbers.now c.loop-i-test.false in
    let values : take c.loop-i.i c.args.values.now ≡ c.args.values.now = take_all c.loop-i.i c.args.values.now (omega (arith, c.requires.same, c.loop-i-test.false)) in
    c.from_vec.ensures
    ∙ fill_by_all (given c.args.numbers.now c.args.values.now c.args.other) c.loop-i.out.items c.args.count c.args.other c.loop-i.invariant.many
    (λ n lt. c.loop-i.invariant.each n c.args.other lt ∙ rw (numbers, values) refl)
