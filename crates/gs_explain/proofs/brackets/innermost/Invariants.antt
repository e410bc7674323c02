use Rattle.std.proofs.Common.{◌≡◌, ◌≤◌, ◌+◌, ℕ, length, drop}
use Rattle.std.specs.List.{count_by}
use Rattle.gs_explain.specs.Pieces.{IsClosedFrom, closes, opens}
use Rattle.gs_explain.proofs.brackets.innermost.Given as goal

abbrev pub invariant-loop-i : goal.invariant-loop-i
invariant-loop-i l = record {
  within : l.i ≤ length l.found;
  open_few : l.open + l.i ≤ length l.found;
  closed_few : l.closed + l.i ≤ length l.found;
  opened : l.open ≡ count_by (opens l.bytes) (drop l.i l.found);
  closed : l.closed ≡ count_by (closes l.bytes) (drop l.i l.found);
  all : (j : ℕ) → l.i ≤ j → IsClosedFrom l.bytes l.found j;
}

abbrev pub decreases-loop-i : goal.decreases-loop-i
decreases-loop-i l = l.i
