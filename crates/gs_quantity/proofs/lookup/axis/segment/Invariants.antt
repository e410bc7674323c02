use Rattle.std.proofs.Common.{◌-◌, ◌<◌, ◌≤◌, ◌≤ℤ◌}
use Rattle.gs_quantity.specs.Lookup.{at}
use Rattle.gs_quantity.proofs.lookup.axis.segment.Given as goal

abbrev pub invariant-loop-place : goal.invariant-loop-place
invariant-loop-place l = record { within : l.place ≤ l.last; reached : 0 < l.place → at l.points l.place ≤ℤ l.query }

abbrev pub decreases-loop-place : goal.decreases-loop-place
decreases-loop-place l = l.last - l.place
