-- The starting sizes: the best of those that so many passes go through.

use Rattle.std.specs.Prelude.{ℕ, zero, suc, ◌==◌, Bool, ◌&&◌, ◌||◌, List, map, fold, length, replicate, nat_lt, int_lt, if◌then◌else◌}
use Rattle.std.specs.List.{range_with_len}
use Rattle.gs_design.specs.Limits.{excess_of}
use Rattle.gs_design.specs.Sizes.{leak_of, netlist_sizes}
use Rattle.gs_design.specs.Timing.{timing_of}
use Rattle.gs_design.specs.declared.design.Design.{Design}
use Rattle.gs_lagrange.specs.Multiplier.{raised_all}
use Rattle.gs_lagrange.specs.Place.{places_for}
use Rattle.gs_lagrange.specs.Weight.{weight_of}
use Rattle.gs_lagrange.specs.declared.score.Score.{Score}
use Rattle.gs_lagrange.specs.declared.state.State.{State}

-- sizes with their timing, and the multipliers
abbrev pub state_with : Design → (sizes multipliers : List ℕ) → State
state_with d s ms = record { sizes = s; timing = timing_of d s; multipliers = ms }

-- it begins with the sizes of the netlist, and each multiplier at 0
abbrev pub first_state : Design → State
first_state d = state_with d (netlist_sizes d) (replicate (length d.ends) 0)

-- A pass weighs the nets, replaces all instances by these weights, and then raises the multipliers, all by the timing before it.
abbrev pub after_pass : Design → State → State
after_pass d x = state_with d (places_for d x.sizes x.timing (weight_of d x.sizes x.timing x.multipliers)) (raised_all d x.timing x.multipliers)

abbrev pub state_after : Design → (passes : ℕ) → State
state_after d zero = first_state d
state_after d (suc p) = after_pass d (state_after d p)

abbrev pub sizes_after : Design → (passes : ℕ) → List ℕ
sizes_after d p = (state_after d p).sizes

-- what sizes are judged by: the excess of their timing, and then their leakage
abbrev pub score_of : Design → List ℕ → Score
score_of d s = record { excess = excess_of d (timing_of d s); leakage = leak_of d s }

abbrev pub is_less : Score → Score → Bool
is_less a b = nat_lt a.excess b.excess || ((a.excess == b.excess) && int_lt a.leakage b.leakage)

-- the better of two sizes, the earlier ones where they score the same
abbrev pub better : Design → List ℕ → List ℕ → List ℕ
better d s u = if is_less (score_of d u) (score_of d s) then u else s

-- the first of least score among the sizes after 0, 1, .. and so many passes
abbrev pub start_of : Design → (passes : ℕ) → List ℕ
start_of d passes = fold (better d) (sizes_after d 0) (map (sizes_after d) (range_with_len 1 passes))
