use Rattle.std.proofs.Common.{◌≡◌, ◌≤◌, ◌-◌, ◌++◌, false, length, drop}
use Rattle.std.specs.List.{filter_map, position}
use Rattle.gs_libcell.specs.Pin.{is_named}
use Rattle.gs_libcell.specs.Text.{runs_in}
use Rattle.gs_libcell.proofs.timing.push_words.Given as goal

abbrev pub invariant-loop-at : goal.invariant-loop-at
invariant-loop-at l = record {
  within : l.at ≤ length l.text;
  so_far : l.places.items ++ filter_map (λ word. position (is_named word) l.inputs) (runs_in false (drop l.at l.text))
      ≡ l.initial.places.items ++ filter_map (λ word. position (is_named word) l.inputs) (runs_in false l.text);
}

abbrev pub decreases-loop-at : goal.decreases-loop-at
decreases-loop-at l = length l.text - l.at
