use Rattle.gs_alternatives.proofs.LayoutLaws.{IsLaid}
use Rattle.gs_alternatives.proofs.layout.lay_out.Given as goal

abbrev pub invariant-loop-cell : goal.invariant-loop-cell
invariant-loop-cell l = IsLaid l.cells l.classes l.choices.items l.stretches.items l.cell
