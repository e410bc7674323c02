use Rattle.std.proofs.Common.{take}
use Rattle.gs_move.specs.Delta.{AreInstalled}
use Rattle.gs_move.proofs.delta.put_records.Given as goal

abbrev pub invariant-loop-named : goal.invariant-loop-named
invariant-loop-named l = AreInstalled (take l.named-index l.named-items) l.initial.timing l.timing
