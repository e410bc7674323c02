use Rattle.std.proofs.Common.{◌≡◌, ◌≤◌, length, map, slice_index}
use Rattle.std.specs.List.{range_with_len}
use Rattle.gs_lagrange.specs.Multiplier.{lateness_of, raised}
use Rattle.gs_lagrange.proofs.multiplier.raised_all.Given as goal

abbrev pub invariant-loop-number : goal.invariant-loop-number
invariant-loop-number l = record {
  items : l.items.items ≡ map (λ e. raised (slice_index l.multipliers e) (lateness_of l.design l.timing e)) (range_with_len 0 l.number);
  in_range : l.number ≤ length l.design.ends;
}
