-- The timing of a net in a list.

use Rattle.std.specs.Prelude.{ℕ, List, slice_index_or, None, ℤ, pos}
use Rattle.gs_design.specs.declared.time.Edge.{Edge}
use Rattle.gs_design.specs.declared.time.NetTime.{NetTime}

-- at time 0, without a slew
abbrev pub edge_at_zero : Edge
edge_at_zero = record { arrival = pos 0; slew = pos 0 }

abbrev pub no_time : NetTime
no_time = record { load = pos 0; load_bound = None; slew_bound = None; rise = edge_at_zero; fall = edge_at_zero }

abbrev pub time_at : List NetTime → ℕ → NetTime
time_at t n = slice_index_or t n no_time
