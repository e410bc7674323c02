-- How far paths have been followed back, where the nets of a rank and above are done.

use Rattle.std.specs.Prelude.{ℕ, zero, suc, ◌≡◌, ◌+◌, ◌≤◌, List, length, nat_le, slice_index, Option, None, Some, if◌then◌else◌}
use Rattle.gs_design.specs.Ends.{end_at}
use Rattle.gs_design.specs.declared.design.Design.{Design}
use Rattle.gs_design.specs.declared.time.NetTime.{NetTime}
use Rattle.gs_lagrange.specs.Flow.{flow_at, is_edge}
use Rattle.gs_lagrange.specs.Path.{came_from, later_edge}
use Rattle.gs_lagrange.specs.declared.edge.NetEdge.{NetEdge}
use Rattle.gs_lagrange.specs.declared.flow.Flow.{Flow}

-- the sum of f k for the numbers k below a count
abbrev pub total : (ℕ → ℕ) → ℕ → ℕ
total f zero = 0
total f (suc n) = total f n + f n

-- What a path of so many edges at most brings to an edge, where it goes on from the nets whose rank is at least the floor, and no further.
abbrev pub brought : (rank : ℕ → ℕ) → (back : NetEdge → Option NetEdge) → (floor steps : ℕ) → Option NetEdge → (by : ℕ) → NetEdge → ℕ
brought rank back floor zero o by q = 0
brought rank back floor (suc steps) None by q = 0
brought rank back floor (suc steps) (Some e) by q =
    (if is_edge e q then by else 0) + (if nat_le floor (rank e.net) then brought rank back floor steps (back e) by q else 0)

abbrev pub rank_in : Design → ℕ → ℕ
rank_in d n = slice_index d.ranks n

-- the edge at which an endpoint's path begins
abbrev pub first_edge : Design → List NetTime → (end : ℕ) → NetEdge
first_edge d t e = later_edge t (end_at d.ends e).net

-- the multipliers of the first so many endpoints are at the edges at which their paths begin
abbrev pub AreBegun : Design → List NetTime → (multipliers : List ℕ) → (count : ℕ) → List Flow → Type 0
AreBegun d t ms count fs = (q : NetEdge) → flow_at fs q ≡ total (λ e. if is_edge (first_edge d t e) q then slice_index ms e else 0) count

-- the paths to all endpoints have been followed down to a rank
abbrev pub AreCarried : Design → List ℕ → List NetTime → (multipliers : List ℕ) → (floor : ℕ) → List Flow → Type 0
AreCarried d s t ms floor fs = (q : NetEdge) → flow_at fs q
    ≡ total (λ e. brought (rank_in d) (came_from d s t) floor (length d.nets) (Some (first_edge d t e)) (slice_index ms e) q) (length d.ends)

-- no multiplier is above 2 ^ 24
abbrev pub AreHeld : (multipliers : List ℕ) → Type 0
AreHeld ms = (e : ℕ) → slice_index ms e ≤ 16777216
