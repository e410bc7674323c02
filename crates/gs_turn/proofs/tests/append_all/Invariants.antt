use Rattle.gs_turn.specs.Seats.{IsSeatOf, IsFree}
use Rattle.gs_turn.proofs.tests.append_all.Given as goal

abbrev pub invariant-loop-k : goal.invariant-loop-k
invariant-loop-k g l = IsSeatOf (λ _. tt) l.fn.hall l.seat × IsFree l.seat
