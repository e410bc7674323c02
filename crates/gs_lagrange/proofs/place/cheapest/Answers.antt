use Rattle.std.proofs.Common.{◌≡◌, ◌+◌, ◌≤◌, None, Some, length, sym, ◌∙◌, ap, subst, arith}
use Rattle.std.specs.Prelude.{if◌then◌else◌}
use Rattle.gs_lagrange.specs.Cost.{is_allowed}
use Rattle.gs_lagrange.specs.Flow.{weight_in}
use Rattle.gs_lagrange.specs.Place.{cheaper, choice_of}
use Rattle.gs_lagrange.proofs.Offers.{is_there, not_there, there_is}
use Rattle.gs_lagrange.proofs.Ranges.{folded, folded_none, folded_one}
use Rattle.gs_lagrange.proofs.place.cheapest.Goals as goal

pub loop-place-preserved-in-None : goal.loop-place-preserved-in-None
loop-place-preserved-in-None c =
    let w = c.args.weighed.now in
    let g = c.args.inst in
    let p = c.loop-place.place in
    let allowed = is_allowed w.design.now w.sizes.now w.timing.now g in
    let choice = choice_of w.design.now w.sizes.now w.timing.now (weight_in w.flows.now) g in
    record {
      best = c.loop-place.invariant.best ∙ sym (folded_none allowed choice cheaper None p (not_there (allowed p) (choice p) (sym c.choice_at.ensures ∙ c.in-None.is)));
      in_range = subst (λ alts. p + 1 ≤ length alts) c.alts.ensures (omega (arith, c.loop-place-test.true));
    }

pub loop-place-preserved : goal.loop-place-preserved
loop-place-preserved c =
    let w = c.args.weighed.now in
    let g = c.args.inst in
    let p = c.loop-place.place in
    let allowed = is_allowed w.design.now w.sizes.now w.timing.now g in
    let choice = choice_of w.design.now w.sizes.now w.timing.now (weight_in w.flows.now) g in
    let found : (if is_allowed w.design.now w.sizes.now w.timing.now c.args.inst c.loop-place.place then Some (choice_of w.design.now w.sizes.now w.timing.now (weight_in w.flows.now) c.args.inst c.loop-place.place) else None) ≡ Some c.in-Some.choice = sym c.choice_at.ensures ∙ c.in-Some.is in
    record {
      best = c.cheaper_of-best.ensures
          ∙ ap (λ o. cheaper o c.in-Some.choice) c.loop-place.invariant.best
          ∙ ap (cheaper (folded allowed choice cheaper None p)) (there_is (allowed p) (choice p) c.in-Some.choice found)
          ∙ sym (folded_one allowed choice cheaper None p (is_there (allowed p) (choice p) c.in-Some.choice found));
      in_range = subst (λ alts. p + 1 ≤ length alts) c.alts.ensures (omega (arith, c.loop-place-test.true));
    }
