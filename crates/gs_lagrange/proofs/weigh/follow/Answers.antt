use Rattle.std.proofs.Common.{◌≡◌, ◌+◌, ◌-◌, ◌<◌, true, false, length, slice_index, sym, ◌∙◌, subst, arith}
use Rattle.std.specs.Prelude.{if◌then◌else◌}
use Rattle.gs_lagrange.specs.Carry.{AreCarried}
use Rattle.gs_lagrange.specs.Flow.{flow_at, is_to}
use Rattle.gs_lagrange.specs.Path.{came_from, edge_on}
use Rattle.gs_lagrange.specs.declared.edge.NetEdge.{NetEdge}
use Rattle.gs_lagrange.proofs.CarryLaws.{carried_begin, carried_more, carried_small}
use Rattle.gs_lagrange.proofs.weigh.follow.Goals as goal

pub loop-place-init : goal.loop-place-init
loop-place-init c =
    let d = c.args.design.now in
    let s = c.args.sizes.now in
    let t = c.args.timing.now in
    let ms = c.args.multipliers.now in
    let all : length c.args.design.now.nets ≡ c.len-place.result = sym (c.len-place.ensures ∙ d.well.order_kept.ordered) in
    record {
      as_many = c.requires.as_many;
      carried = subst (λ k. AreCarried d s t ms k c.args.flows.now) all (carried_begin d s t ms c.requires.timed.fit c.args.flows.now c.requires.begun);
      in_range = omega (arith, all);
    }

pub carry_both-requires-clause-light : goal.carry_both-requires-clause-light
carry_both-requires-clause-light c =
    carried_small c.args.design.now c.args.sizes.now c.args.timing.now c.args.multipliers.now c.requires.timed.fit c.loop-place.place c.loop-place.flows c.requires.held c.loop-place.invariant.carried

pub loop-place-preserved : goal.loop-place-preserved
loop-place-preserved c =
    let d = c.args.design.now in
    let s = c.args.sizes.now in
    let t = c.args.timing.now in
    let ms = c.args.multipliers.now in
    let fs = c.loop-place.flows in
    let more = c.carry_both.new.flows in
    let floor = c.loop-place.place - 1 in
    let lt : c.loop-place.place - 1 < length c.args.design.now.nets = omega (arith, c.loop-place-test.true, c.loop-place.invariant.in_range) in
    let net_is : c.at-net.result.now ≡ slice_index c.args.design.now.order (c.loop-place.place - 1) = c.at-net.ensures 0 in
    record {
      as_many = c.carry_both.ensures.as_many;
      carried = carried_more d s t ms c.requires.timed.fit floor lt c.loop-place.place fs more (omega (arith, c.loop-place-test.true)) c.loop-place.invariant.carried
          (subst (λ n. (q : NetEdge) → flow_at more q ≡ flow_at fs q
          + (if is_to (came_from d s t (edge_on n true)) q then flow_at fs (edge_on n true) else 0)
          + (if is_to (came_from d s t (edge_on n false)) q then flow_at fs (edge_on n false) else 0)) net_is c.carry_both.ensures.at);
      in_range = omega (arith, lt);
    }
