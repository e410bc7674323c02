use Rattle.std.proofs.Common.{◌-◌, List, length}
use Rattle.gs_text.specs.Cutter.{Agrees, IsPlace}
use Rattle.gs_text.specs.declared.kinds.Piece.{Piece}
use Rattle.gs_text.proofs.PieceByPiece.{Comes}
use Rattle.gs_text.proofs.cutter.fault_from.Given as goal

abbrev pub invariant-loop-after : goal.invariant-loop-after
invariant-loop-after l = record {
  place : IsPlace l.bytes l.here;
  comes : (before : List Piece) → Agrees l.bytes before l.fn.place → Comes l.style l.bytes before l.fn.place l.here;
}

abbrev pub decreases-loop-after : goal.decreases-loop-after
decreases-loop-after l = length l.bytes - l.here.at
