use Rattle.std.proofs.Common.{◌≡◌, ◌-◌, drop, length}
use Rattle.gs_locate.specs.Liberty.{has_arg}
use Rattle.gs_locate.proofs.group.has_arg.Given as goal

abbrev pub invariant-loop-at : goal.invariant-loop-at
invariant-loop-at l = has_arg l.name l.bytes (drop l.at l.pieces) ≡ has_arg l.name l.bytes (drop l.from l.pieces)

abbrev pub decreases-loop-at : goal.decreases-loop-at
decreases-loop-at l = length l.pieces - l.at
