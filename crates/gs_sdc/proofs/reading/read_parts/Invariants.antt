use Rattle.std.proofs.Common.{length, map}
use Rattle.std.specs.List.{All}
use Rattle.gs_text.specs.Pieces.{LiesIn}
use Rattle.gs_sdc.specs.Reads.{HasInside}
use Rattle.gs_sdc.specs.Token.{token_of}
use Rattle.gs_sdc.proofs.PartReads.{Reads}
use Rattle.gs_sdc.proofs.reading.read_parts.Given as goal

abbrev pub invariant-loop-left : goal.invariant-loop-left
invariant-loop-left l = record {
  inside : All (LiesIn (length l.bytes)) l.left;
  parts : All (HasInside l.bytes) l.parts.items;
  reads : Reads l.command l.bytes l.parts.items (map (token_of l.bytes) l.left) (map (token_of l.bytes) l.fn.pieces);
}

abbrev pub decreases-loop-left : goal.decreases-loop-left
decreases-loop-left l = length l.left
