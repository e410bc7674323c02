use Rattle.std.proofs.Common.{◌≡◌, ◌+◌, length, slice_index, ◌∙◌, ap, subst, arith}
use Rattle.std.specs.Prelude.{if◌then◌else◌}
use Rattle.gs_design.specs.Ends.{no_end}
use Rattle.gs_design.specs.declared.end.End.{End}
use Rattle.gs_lagrange.specs.Carry.{AreBegun, first_edge}
use Rattle.gs_lagrange.specs.Flow.{flow_at, is_edge}
use Rattle.gs_lagrange.specs.Path.{later_edge}
use Rattle.gs_lagrange.proofs.CarryLaws.{begun_fits, begun_more}
use Rattle.gs_lagrange.proofs.weigh.begin.Goals as goal

pub add-requires-clause-fits : goal.add-requires-clause-fits
add-requires-clause-fits c =
    let d = c.args.design.now in
    let ms = c.args.multipliers.now in
    let i = c.loop-number.number in
    let flow = begun_fits d c.args.timing.now ms i c.loop-number.flows c.later_edge-edge.result c.requires.held c.loop-number.invariant.begun in
    let one = c.requires.held i in
    let by_is : c.at-in-loop-number.result.now ≡ slice_index ms i = c.at-in-loop-number.ensures 0 in
    let few = d.well.ends_kept.few in
    omega (arith, flow, one, by_is, few, c.loop-number-test.true, c.len-number-end.ensures)

pub loop-number-preserved : goal.loop-number-preserved
loop-number-preserved c =
    let d = c.args.design.now in
    let t = c.args.timing.now in
    let ms = c.args.multipliers.now in
    let i = c.loop-number.number in
    let fs = c.loop-number.flows in
    let edge_is : c.later_edge-edge.result ≡ first_edge c.args.design.now c.args.timing.now c.loop-number.number =
    c.later_edge-edge.ensures ∙ ap (λ (e : End). later_edge t e.net) (c.at.ensures no_end) in
    let by_is : c.at-in-loop-number.result.now ≡ slice_index ms i = c.at-in-loop-number.ensures 0 in
    record {
      as_many = c.add.ensures.as_many ∙ c.loop-number.invariant.as_many;
      begun = begun_more d t ms i fs c.add.new.self c.loop-number.invariant.begun
          (λ q. c.add.ensures.at q
          ∙ ap (λ e. flow_at fs q + (if is_edge e q then c.at-in-loop-number.result.now else 0)) edge_is
          ∙ ap (λ b. flow_at fs q + (if is_edge (first_edge d t i) q then b else 0)) by_is);
      in_range = omega (arith, c.loop-number-test.true, c.len-number-end.ensures);
    }

pub returns-clause-begun : goal.returns-clause-begun
returns-clause-begun c =
    let all : c.loop-number.number ≡ length c.args.design.now.ends = omega (arith, c.loop-number.invariant.in_range, c.loop-number-test.false, c.len-number-end.ensures) in
    subst (λ n. AreBegun c.args.design.now c.args.timing.now c.args.multipliers.now n c.loop-number.flows) all c.loop-number.invariant.begun
