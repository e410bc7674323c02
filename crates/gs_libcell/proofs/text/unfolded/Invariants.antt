use Rattle.std.proofs.Common.{◌≡◌, ◌++◌, drop, length}
use Rattle.gs_libcell.specs.Text.{unfolded}
use Rattle.gs_libcell.proofs.text.unfolded.Given as goal

abbrev pub invariant-loop-place : goal.invariant-loop-place
invariant-loop-place l = record {
  so_far : l.copy.items ++ unfolded (drop l.place l.text) ≡ unfolded l.text;
  length_so_far : length l.copy.items ≡ l.place;
}
