use Rattle.std.proofs.Common.{◌≡◌, ◌-◌, length}
use Rattle.gs_quantity.specs.TableFault.{falls, first_place}
use Rattle.gs_quantity.proofs.lookup.fault.first_fall.Given as goal

abbrev pub invariant-loop-place : goal.invariant-loop-place
invariant-loop-place l = first_place (falls l.points) l.place (length l.points - l.place) ≡ first_place (falls l.points) 0 (length l.points)
