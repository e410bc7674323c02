use Rattle.gs_timing.specs.Done.{IsTimedTo}
use Rattle.gs_timing.proofs.whole.pass.Given as goal

abbrev pub invariant-loop-net : goal.invariant-loop-net
invariant-loop-net g l = IsTimedTo l.design l.sizes l.times l.net-index
