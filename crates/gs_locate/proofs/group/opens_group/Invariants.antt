use Rattle.std.proofs.Common.{◌≡◌, ◌-◌, drop, length}
use Rattle.gs_locate.specs.Liberty.{opens_group}
use Rattle.gs_locate.proofs.group.opens_group.Given as goal

abbrev pub invariant-loop-at : goal.invariant-loop-at
invariant-loop-at l = opens_group l.bytes (drop l.at l.pieces) ≡ opens_group l.bytes (drop l.from l.pieces)

abbrev pub decreases-loop-at : goal.decreases-loop-at
decreases-loop-at l = length l.pieces - l.at
