use Rattle.std.proofs.Common.{◌≤◌, ◌-◌, length, drop}
use Rattle.gs_spef.specs.Lines.{worded_lines}
use Rattle.gs_spef.specs.Reader.{IsReader}
use Rattle.gs_spef.proofs.Loop.{Reads}
use Rattle.gs_spef.proofs.read.read_pieces.Given as goal

abbrev pub invariant-loop-at : goal.invariant-loop-at
invariant-loop-at l = record {
  within : l.at ≤ length l.pieces;
  kept : IsReader l.reader;
  reads : Reads l.last (worded_lines l.bytes (drop l.at l.pieces)) (worded_lines l.bytes l.pieces) l.reader;
}

abbrev pub decreases-loop-at : goal.decreases-loop-at
decreases-loop-at l = length l.pieces - l.at
