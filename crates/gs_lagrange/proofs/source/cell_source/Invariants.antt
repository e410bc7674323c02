use Rattle.gs_lagrange.proofs.SourceLaws.{SoughtFrom}
use Rattle.gs_lagrange.proofs.source.cell_source.Given as goal

abbrev pub invariant-loop-arc : goal.invariant-loop-arc
invariant-loop-arc l = SoughtFrom l.timing l.inputs l.made.load l.made.rise l.made.arrival l.arcs l.arc-index
