use Rattle.std.proofs.Common.{◌≡◌, ◌≤◌, ℕ}
use Rattle.gs_explain.specs.Place.{line_of}
use Rattle.gs_explain.proofs.lines.line_start.Given as goal

abbrev pub invariant-loop-i : goal.invariant-loop-i
invariant-loop-i l = record {
  here : l.here ≡ line_of l.bytes l.i;
  none : (k : ℕ) → k ≤ l.i → line_of l.bytes k ≡ l.line → ⊥;
}
