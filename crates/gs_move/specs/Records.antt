-- Whether two records of a net are the same.

use Rattle.std.specs.Prelude.{ℕ, Bool, not, ◌&&◌, List}
use Rattle.std.specs.Option.{option_eq}
use Rattle.std.specs.Ordering.{int_eq}
use Rattle.gs_design.specs.Times.{time_at}
use Rattle.gs_design.specs.declared.time.Edge.{Edge}
use Rattle.gs_design.specs.declared.time.NetTime.{NetTime}

abbrev pub same_edge : Edge → Edge → Bool
same_edge a b = int_eq a.arrival b.arrival && int_eq a.slew b.slew

-- load, bounds and both edges
abbrev pub same_record : NetTime → NetTime → Bool
same_record a b =
    int_eq a.load b.load
    && (option_eq int_eq a.load_bound b.load_bound && option_eq int_eq a.slew_bound b.slew_bound)
    && (same_edge a.rise b.rise && same_edge a.fall b.fall)

-- whether the records of a net in two timings differ
abbrev pub differ : (t u : List NetTime) → ℕ → Bool
differ t u n = not (same_record (time_at t n) (time_at u n))
