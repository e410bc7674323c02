use Rattle.std.proofs.Common.{arith}
use Rattle.gs_link.proofs.FoundLaws.{found_here, output_here}
use Rattle.gs_link.proofs.columns.find_rows.Goals as goal

pub row_for-requires-clause-cell : goal.row_for-requires-clause-cell
row_for-requires-clause-cell c = found_here c.args.cells.now c.args.insts.now c.args.found.now c.requires.found c.loop-i.i c.index-insts-i.result (omega arith) c.index-insts-i.is

pub row_for-requires-clause-net : goal.row_for-requires-clause-net
row_for-requires-clause-net c = output_here c.args.cells.now c.args.insts.now c.args.gates.now c.requires.gates c.loop-i.i c.index-insts-i.result (omega arith) c.index-insts-i.is
