use Rattle.std.proofs.Common.{◌≡◌, ◌≤◌}
use Rattle.gs_locate.specs.Piece.{mark_before}
use Rattle.gs_locate.proofs.standing.mark_before.Given as goal

abbrev pub invariant-loop-left : goal.invariant-loop-left
invariant-loop-left l = record {
  within : l.left ≤ l.at;
  rest : mark_before l.pieces l.left ≡ mark_before l.pieces l.at;
}

abbrev pub decreases-loop-left : goal.decreases-loop-left
decreases-loop-left l = l.left
