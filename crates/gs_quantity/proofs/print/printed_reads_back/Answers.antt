use Rattle.gs_quantity.proofs.Printing.{reads_back}
use Rattle.gs_quantity.proofs.print.printed_reads_back.Goals as goal

pub returns : goal.returns
returns c = reads_back c.args.m c.requires
