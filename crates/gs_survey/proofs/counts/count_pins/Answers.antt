use Rattle.std.proofs.Common.{arith}
use Rattle.gs_survey.proofs.FoundLaws.{found_here}
use Rattle.gs_survey.proofs.counts.count_pins.Goals as goal

pub pins_for-count-requires : goal.pins_for-count-requires
pins_for-count-requires c = found_here c.args.cells.now c.args.insts.now c.args.found.now c.requires.found c.loop-i.i c.index-insts-i.result (omega arith) c.index-insts-i.is
