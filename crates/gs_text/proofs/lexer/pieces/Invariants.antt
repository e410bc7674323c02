use Rattle.std.proofs.Common.{◌-◌, length}
use Rattle.gs_text.specs.Cutter.{IsPlace}
use Rattle.gs_text.proofs.PieceByPiece.{Collects}
use Rattle.gs_text.proofs.lexer.pieces.Given as goal

abbrev pub invariant-loop-piece : goal.invariant-loop-piece
invariant-loop-piece l = record {
  place : IsPlace l.bytes l.place;
  collects : Collects l.style l.bytes l.found.items l.place;
}

abbrev pub decreases-loop-piece : goal.decreases-loop-piece
decreases-loop-piece l = length l.bytes - l.place.at
