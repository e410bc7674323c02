use Rattle.std.proofs.Common.{◌≡◌}
use Rattle.gs_turn.proofs.hall.Hall.take.Given as goal

-- until it has the turn, the seat stays as it was
abbrev pub invariant-loop : goal.invariant-loop
invariant-loop g l = (goal.iterator-loop g).can_next l.iterator' × (goal.iterator-loop g).is_finite l.iterator' × (l.seat ≡ l.initial.seat)
