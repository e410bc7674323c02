use Rattle.std.proofs.Common.{◌≡◌, ◌+◌, Bool, slice_index_or, ◌∙◌, ap}
use Rattle.std.specs.Prelude.{if◌then◌else◌}
use Rattle.gs_lagrange.specs.Flow.{flow_on, no_flow, same_rise}
use Rattle.gs_lagrange.proofs.FlowLaws.{added_at}
use Rattle.gs_lagrange.proofs.flow.Flows.add.Goals as goal

pub returns-clause-at : goal.returns-clause-at
returns-clause-at c = λ q.
    let view : c.self.inside.items.items ≡ c.args.self.now = c.self.view_is in
    let is : (r : Bool) → flow_on r c.with_more-more.result ≡ flow_on r (slice_index_or c.args.self.now c.args.edge.now.net no_flow) + (if same_rise c.args.edge.now.rise r then c.args.by else 0) =
    λ r. c.with_more-more.ensures r
    ∙ ap (λ f. flow_on r f + (if same_rise c.args.edge.now.rise r then c.args.by else 0))
    (c.flow_of.ensures ∙ ap (λ xs. slice_index_or xs c.args.edge.now.net no_flow) (c.as_slice.ensures.value ∙ view)) in
    rw (c.index-at.ensures, view) (added_at c.args.self.now c.args.edge.now c.args.by c.with_more-more.result c.requires.net is q)
