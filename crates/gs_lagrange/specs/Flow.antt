-- What has come by the edges of nets, as paths are followed back.

use Rattle.std.specs.Prelude.{ℕ, ◌+◌, ◌≤◌, ◌==◌, Bool, true, false, not, ◌&&◌, List, slice_index_or, Option, None, Some}
use Rattle.gs_lagrange.specs.Path.{edge_on}
use Rattle.gs_lagrange.specs.declared.edge.NetEdge.{NetEdge}
use Rattle.gs_lagrange.specs.declared.flow.Flow.{Flow}

abbrev pub same_rise : Bool → Bool → Bool
same_rise true rise = rise
same_rise false rise = not rise

abbrev pub is_edge : NetEdge → NetEdge → Bool
is_edge e q = (e.net == q.net) && same_rise e.rise q.rise

abbrev pub is_to : Option NetEdge → NetEdge → Bool
is_to None q = false
is_to (Some e) q = is_edge e q

abbrev pub no_flow : Flow
no_flow = record { rise = 0; fall = 0 }

abbrev pub flow_on : Bool → Flow → ℕ
flow_on true f = f.rise
flow_on false f = f.fall

-- what came by an edge
abbrev pub flow_at : List Flow → NetEdge → ℕ
flow_at fs e = flow_on e.rise (slice_index_or fs e.net no_flow)

-- what came by a net
abbrev pub weight_in : List Flow → ℕ → ℕ
weight_in fs n = flow_at fs (edge_on n true) + flow_at fs (edge_on n false)

-- at most 2 ^ 48 by each edge: there are fewer than 2 ^ 24 endpoints, and no multiplier is above 2 ^ 24
abbrev pub AreLight : List Flow → Type 0
AreLight fs = (e : NetEdge) → flow_at fs e ≤ 281474976710656
