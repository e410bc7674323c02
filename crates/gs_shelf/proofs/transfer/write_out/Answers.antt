use Rattle.std.proofs.Common.{rules}
use Rattle.gs_shelf.proofs.TransferLaws.{written_more}
use Rattle.gs_shelf.proofs.transfer.write_out.Goals as goal

pub loop-count-preserved : goal.loop-count-preserved
loop-count-preserved g c = record {
  within = search rules;
  written = written_more _ _ _ c.args.bytes.now c.loop-count.count c.in_ok-took.took c.loop-count.invariant.written c.in_ok-took.ensures.bytes;
}
