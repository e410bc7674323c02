use Rattle.std.proofs.Common.{◌≡◌, ◌++◌, map}
use Rattle.std.specs.List.{range_with_len, filter}
use Rattle.gs_design.specs.Ends.{is_data_pin}
use Rattle.gs_link.specs.Linked.{pin_end}
use Rattle.gs_link.proofs.ends.push_pin_ends.Given as goal

abbrev pub invariant-loop-pin : goal.invariant-loop-pin
invariant-loop-pin l = l.ends.items ≡ l.initial.ends.items ++ map (pin_end l.insts l.period) (filter (is_data_pin l.cells l.insts) (map (λ p. record { inst = l.inst; pin = p }) (range_with_len 0 l.pin)))
