use Rattle.std.proofs.Common.{◌≡◌, ◌≤◌, ◌-◌, true, length, map, drop}
use Rattle.gs_libcell.specs.Number.{gather, number_of}
use Rattle.gs_libcell.specs.Text.{runs_in}
use Rattle.gs_libcell.proofs.numbers.push_runs.Given as goal

abbrev pub invariant-loop-at : goal.invariant-loop-at
invariant-loop-at l = record {
  within : l.at ≤ length l.text;
  so_far : gather l.numbers.items (map (number_of l.tens) (runs_in true (drop l.at l.text))) ≡ gather l.initial.numbers.items (map (number_of l.tens) (runs_in true l.text));
}

abbrev pub decreases-loop-at : goal.decreases-loop-at
decreases-loop-at l = length l.text - l.at
