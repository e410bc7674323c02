use Rattle.std.proofs.Common.{◌≡◌, length, sym, ◌∙◌, ap, arith}
use Rattle.gs_lagrange.specs.Flow.{flow_at}
use Rattle.gs_lagrange.proofs.FlowLaws.{cleared, whole_written}
use Rattle.gs_lagrange.proofs.flow.Flows.clear.Goals as goal

pub returns-clause-none : goal.returns-clause-none
returns-clause-none c = λ e.
    let many = c.loop-flow.auto.flow-items in
    let same : length c.loop-flow.flow-items ≡ length c.self.inside.items.items = many ∙ ap length c.deref_mut-flow-items.ensures.value in
    let count : c.self.inside.items.len ≡ length c.self.inside.items.items = sym c.deref_mut-flow-items.ensures.len ∙ ap length c.deref_mut-flow-items.ensures.value in
    ap (λ fs. flow_at fs e) (whole_written c.loop-flow.flow-items c.self.inside.items.items c.self.inside.items.len same count)
    ∙ cleared c.loop-flow.flow-items (λ k lt. c.loop-flow.invariant k (omega (arith, lt, many, c.loop-flow-test.false))) e
