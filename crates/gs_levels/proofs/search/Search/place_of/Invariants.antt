use Rattle.std.proofs.Common.{◌≡◌, ◌-◌, length, drop, true}
use Rattle.gs_levels.specs.Search.{has}
use Rattle.gs_levels.proofs.search.Search.place_of.Given as goal

-- the node is among those from the place on
abbrev pub invariant-loop-place : goal.invariant-loop-place
invariant-loop-place l = has (drop l.place l.self.stack.items) l.node ≡ true

abbrev pub decreases-loop-place : goal.decreases-loop-place
decreases-loop-place l = length l.self.stack.items - l.place
