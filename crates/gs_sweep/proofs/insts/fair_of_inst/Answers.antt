use Rattle.std.proofs.Common.{◌≡◌, ◌+◌, ◌≤◌, ◌++◌, [], ◌∷◌, true, false, length, sym, ◌∙◌, ap, subst, arith}
use Rattle.gs_move.specs.Judge.{is_fair_by}
use Rattle.gs_sweep.proofs.SweepLaws.{place_fair, place_present, place_unfair, to}
use Rattle.gs_sweep.proofs.insts.fair_of_inst.Goals as goal

pub loop-place-preserved-then-place-present : goal.loop-place-preserved-then-place-present
loop-place-preserved-then-place-present g c =
    let J = g.J.Judge.answers c.args.swept.now.judge.now in
    let d = c.args.swept.now.design.now in
    let s = c.args.swept.now.sizes.now in
    let p = c.loop-place.place in
    record {
      found = c.loop-place.invariant.found ∙ sym (place_present J d s c.args.inst p (c.if-place-present.true ∙ c.place-present.ensures));
      in_range = subst (λ alts. p + 1 ≤ length alts) c.alts.ensures (omega (arith, c.loop-place-test.true));
      nets = c.loop-place.invariant.nets;
    }

pub loop-place-preserved-then-not-fair : goal.loop-place-preserved-then-not-fair
loop-place-preserved-then-not-fair g c =
    let J = g.J.Judge.answers c.args.swept.now.judge.now in
    let d = c.args.swept.now.design.now in
    let s = c.args.swept.now.sizes.now in
    let p = c.loop-place.place in
    let unfair : is_fair_by J d s (to c.args.inst p) ≡ false = sym c.in_ok-fair.ensures.fair ∙ c.if-not-fair.true in
    record {
      found = c.loop-place.invariant.found ∙ sym (place_unfair J d s c.args.inst p (λ e. c.if-place-present.false (e ∙ sym c.place-present.ensures)) unfair);
      in_range = subst (λ alts. p + 1 ≤ length alts) c.alts.ensures (omega (arith, c.loop-place-test.true));
      nets = c.is_fair_by.ensures.nets ∙ c.loop-place.invariant.nets;
    }

pub loop-place-preserved : goal.loop-place-preserved
loop-place-preserved g c =
    let J = g.J.Judge.answers c.args.swept.now.judge.now in
    let d = c.args.swept.now.design.now in
    let s = c.args.swept.now.sizes.now in
    let p = c.loop-place.place in
    let fair : is_fair_by J d s (to c.args.inst p) ≡ true = sym c.in_ok-fair.ensures.fair ∙ c.if-not-fair.false in
    record {
      found = c.in_ok-add.ensures ∙ ap (λ ms. ms ++ to c.args.inst p ∷ []) c.loop-place.invariant.found
          ∙ sym (place_fair J d s c.args.inst p (λ e. c.if-place-present.false (e ∙ sym c.place-present.ensures)) fair);
      in_range = subst (λ alts. p + 1 ≤ length alts) c.alts.ensures (omega (arith, c.loop-place-test.true));
      nets = c.is_fair_by.ensures.nets ∙ c.loop-place.invariant.nets;
    }
