use Rattle.gs_limits.proofs.LeakLaws.{IsLeakTo}
use Rattle.gs_limits.proofs.leak.leakage.Given as goal

abbrev pub invariant-loop-number : goal.invariant-loop-number
invariant-loop-number l = IsLeakTo l.design l.sizes l.number l.total
