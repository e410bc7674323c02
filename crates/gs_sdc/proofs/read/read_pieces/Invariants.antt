use Rattle.std.proofs.Common.{◌≤◌, ◌-◌, length, drop}
use Rattle.gs_sdc.specs.Reader.{IsReader, items_of}
use Rattle.gs_sdc.specs.Sdc.{token_lines}
use Rattle.gs_sdc.proofs.Loop.{Reads}
use Rattle.gs_sdc.proofs.read.read_pieces.Given as goal

abbrev pub invariant-loop-at : goal.invariant-loop-at
invariant-loop-at l = record {
  within : l.at ≤ length l.pieces;
  kept : IsReader l.reader;
  reads : Reads (items_of l.units (token_lines l.bytes (drop l.at l.pieces))) (items_of l.units (token_lines l.bytes l.pieces)) l.reader;
}

abbrev pub decreases-loop-at : goal.decreases-loop-at
decreases-loop-at l = length l.pieces - l.at
