use Rattle.std.proofs.Common.{◌≡◌, ◌-◌, length}
use Rattle.gs_quantity.specs.TableFault.{is_wide, first_place}
use Rattle.gs_quantity.proofs.lookup.fault.first_wide.Given as goal

abbrev pub invariant-loop-place : goal.invariant-loop-place
invariant-loop-place l = first_place (is_wide l.values) l.place (length l.values - l.place) ≡ first_place (is_wide l.values) 0 (length l.values)
