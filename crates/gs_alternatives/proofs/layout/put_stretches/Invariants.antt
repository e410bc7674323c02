use Rattle.gs_alternatives.proofs.LayoutLaws.{IsPutTo}
use Rattle.gs_alternatives.proofs.layout.put_stretches.Given as goal

abbrev pub invariant-loop-place : goal.invariant-loop-place
invariant-loop-place l = IsPutTo l.group l.base l.place l.initial.stretches.items l.stretches.items
