use Rattle.std.specs.Prelude.{◌≡◌, replicate}
use Rattle.gs_design.specs.Times.{no_time}
use Rattle.gs_timing.proofs.whole.untimed.Given as goal

abbrev pub invariant-loop : goal.invariant-loop
invariant-loop l = l.records.items ≡ replicate l.counter no_time
