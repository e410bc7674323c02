use Rattle.std.proofs.Common.{◌≡◌, drop}
use Rattle.gs_survey.specs.First.{first_some}
use Rattle.gs_survey.specs.Arcs.{no_arc_of}
use Rattle.gs_survey.proofs.counts.check_choices.Given as goal

abbrev pub invariant-loop-i : goal.invariant-loop-i
invariant-loop-i l = first_some (no_arc_of l.cells) (drop l.i l.choices) ≡ first_some (no_arc_of l.cells) l.choices
