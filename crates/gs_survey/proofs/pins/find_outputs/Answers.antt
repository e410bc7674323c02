use Rattle.std.proofs.Common.{arith}
use Rattle.gs_survey.proofs.FoundLaws.{found_here}
use Rattle.gs_survey.proofs.pins.find_outputs.Goals as goal

pub output_for-requires : goal.output_for-requires
output_for-requires c = found_here c.args.cells.now c.args.insts.now c.args.found.now c.requires c.loop-i.i c.index-insts-i.result (omega arith) c.index-insts-i.is
