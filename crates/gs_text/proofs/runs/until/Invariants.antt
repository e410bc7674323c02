use Rattle.std.proofs.Common.{◌≡◌, ◌+◌, drop}
use Rattle.gs_text.specs.Runs.{until}
use Rattle.gs_text.proofs.runs.until.Given as goal

abbrev pub invariant-loop-i : goal.invariant-loop-i
invariant-loop-i g l = until g.E.Ending.test l.bytes ≡ l.i + until g.E.Ending.test (drop l.i l.bytes)
