use Rattle.std.proofs.Common.{◌≡◌, ◌++◌, map}
use Rattle.std.specs.List.{range_with_len}
use Rattle.gs_link.proofs.sinks.push_pins.Given as goal

abbrev pub invariant-loop-pin : goal.invariant-loop-pin
invariant-loop-pin l = l.sinks.items ≡ l.initial.sinks.items ++ map (λ p. record { inst = l.inst; pin = p }) (range_with_len 0 l.pin)
