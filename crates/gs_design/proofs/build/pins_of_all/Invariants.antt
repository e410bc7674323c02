use Rattle.gs_design.proofs.HotLaws.{PinsTo}
use Rattle.gs_design.proofs.build.pins_of_all.Given as goal

abbrev pub invariant-loop-cell : goal.invariant-loop-cell
invariant-loop-cell l = PinsTo l.slew_default l.cell-items l.cell-index l.data
