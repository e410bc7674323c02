-- The weights of nets: each endpoint's multiplier counts at the nets on the path to it.

use Rattle.std.specs.Prelude.{ℕ, List, length, slice_index, sum_by, if◌then◌else◌}
use Rattle.std.specs.List.{range_with_len}
use Rattle.gs_design.specs.Ends.{end_at}
use Rattle.gs_design.specs.declared.design.Design.{Design}
use Rattle.gs_design.specs.declared.time.NetTime.{NetTime}
use Rattle.gs_lagrange.specs.Path.{passes, path_of}

-- what one endpoint adds to the weight of a net
abbrev pub added_by : Design → List ℕ → List NetTime → (multipliers : List ℕ) → (net : ℕ) → (end : ℕ) → ℕ
added_by d s t ms n e = if passes (path_of d s t (end_at d.ends e).net) n then slice_index ms e else 0

-- the sum over all endpoints
abbrev pub weight_of : Design → List ℕ → List NetTime → (multipliers : List ℕ) → (net : ℕ) → ℕ
weight_of d s t ms n = sum_by (added_by d s t ms n) (range_with_len 0 (length d.ends))
