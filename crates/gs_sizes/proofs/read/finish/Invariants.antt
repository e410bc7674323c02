use Rattle.std.proofs.Common.{◌≡◌, ◌≤◌, drop, take, length, map}
use Rattle.std.specs.List.{position_from}
use Rattle.gs_sizes.specs.Reader.{is_none, or_zero}
use Rattle.gs_sizes.proofs.read.finish.Given as goal

abbrev pub invariant-loop-inst : goal.invariant-loop-inst
invariant-loop-inst l = record {
  within : l.inst ≤ length l.places;
  none : position_from is_none l.inst (drop l.inst l.places) ≡ position_from is_none 0 l.places;
  sizes : l.sizes.items ≡ map or_zero (take l.inst l.places);
}
