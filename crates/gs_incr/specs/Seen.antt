-- What a retiming evaluates, and that it is all that a move changes.

use Rattle.std.specs.Prelude.{ℕ, ◌==◌, Bool, List, map, filter, fold, slice_set}
use Rattle.std.specs.List.{list_any}
use Rattle.gs_design.specs.Timing.{timing_of}
use Rattle.gs_design.specs.Times.{time_at}
use Rattle.gs_design.specs.declared.design.Design.{Design}
use Rattle.gs_design.specs.declared.time.NetAt.{NetAt}
use Rattle.gs_design.specs.declared.time.NetTime.{NetTime}
use Rattle.gs_move.specs.Cone.{in_cone_of}
use Rattle.gs_move.specs.Moves.{after}
use Rattle.gs_move.specs.declared.moves.Move.{Move}

-- a net with its record in a timing
abbrev pub net_with : List NetTime → ℕ → NetAt
net_with t n = record { net = n; time = time_at t n }

-- of a move from one timing to another: the nets of the cone, in the design's order, each with its record in the later timing
abbrev pub seen_between : Design → Move → (t u : List NetTime) → List NetAt
seen_between d m t u = map (net_with u) (filter (in_cone_of d m t u) d.order)

-- of a move at sizes
abbrev pub seen_of : Design → List ℕ → Move → List NetAt
seen_of d s m = seen_between d m (timing_of d s) (timing_of d (after s m))

-- whether a net is among those that were seen
abbrev pub has_seen : List NetAt → ℕ → Bool
has_seen seen n = list_any (λ (a : NetAt). a.net == n) seen

-- a timing with the records of some nets in the place of its own
abbrev pub with_record : List NetTime → NetAt → List NetTime
with_record t a = slice_set t a.net a.time

abbrev pub laid_over : List NetTime → List NetAt → List NetTime
laid_over t seen = fold with_record t seen
