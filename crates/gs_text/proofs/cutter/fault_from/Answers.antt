use Rattle.gs_text.proofs.PieceByPiece.{comes_on}
use Rattle.gs_text.proofs.cutter.fault_from.Goals as goal

pub loop-after-preserved : goal.loop-after-preserved
loop-after-preserved c = record {
  place = c.in-Piece.ensures.next.place_after;
  comes = λ before a. comes_on c.args.style c.args.bytes.now before c.args.place c.loop-after.here c.in-Piece.after c.in-Piece.field-0 (c.loop-after.invariant.comes before a) c.in-Piece.ensures.next;
}
