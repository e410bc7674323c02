use Rattle.std.proofs.Common.{◌≡◌, ◌≤◌, ◌+◌, ◌-◌, drop, length}
use Rattle.gs_design.specs.Parts.{parts_of}
use Rattle.gs_sizes.specs.Lines.{lines, rows, rows_from}
use Rattle.gs_sizes.proofs.Loop.{Reads}
use Rattle.gs_sizes.proofs.read.read_lines.Given as goal

abbrev pub invariant-loop-at : goal.invariant-loop-at
invariant-loop-at l = record {
  few : l.number ≤ l.at;
  within : l.at ≤ length l.bytes + 1;
  many : length l.places.items ≡ length l.design.insts;
  count : l.number + length (lines (drop l.at l.bytes)) ≡ length (lines l.bytes);
  reads : Reads (parts_of l.design) (rows_from (l.number + 1) (lines (drop l.at l.bytes))) (rows l.bytes) l.places.items;
}

abbrev pub decreases-loop-at : goal.decreases-loop-at
decreases-loop-at l = length l.bytes - l.at
