use Rattle.std.proofs.Common.{◌≡◌, ◌<◌, length, get_or, subst, ◌∙◌, All}
use Rattle.gs_survey.proofs.ArcLaws.{arcs_are}
use Rattle.gs_survey.proofs.FoundLaws.{all_driving, all_found}
use Rattle.gs_survey.specs.Arcs.{no_arc_among, no_arc_of}
use Rattle.gs_survey.specs.Counts.{arc_fault}
use Rattle.gs_survey.specs.First.{Checks, first_some, or_else}
use Rattle.gs_survey.proofs.survey_phases.check_all_arcs.Goals as goal

pub check_arcs-requires-clause-numbers : goal.check_arcs-requires-clause-numbers
check_arcs-requires-clause-numbers c =
    rw (c.as_slice.ensures, c.as_slice-found.ensures) (all_found c.args.library.now.cells c.args.netlist.now.insts c.args.placed.now.found c.requires.found)

pub check_arcs-requires-clause-inside : goal.check_arcs-requires-clause-inside
check_arcs-requires-clause-inside c =
    let library = c.args.library.now in
    let numbers : All (λ x. x < length library.cells) c.args.placed.now.found = all_found library.cells c.args.netlist.now.insts c.args.placed.now.found c.requires.found in
    rw (c.as_slice.ensures, c.as_slice-found.ensures)
    (λ k d lt. (c.alternatives_are_kept.ensures library.slew_default library.cells (get_or c.args.placed.now.found k d) library.well (numbers k d lt)).inside)

pub check_arcs-requires-clause-driving : goal.check_arcs-requires-clause-driving
check_arcs-requires-clause-driving c =
    rw (c.as_slice.ensures, c.as_slice-2.ensures) (all_driving c.args.library.now.cells c.args.limits.now.drivers c.args.placed.now.driving c.requires.driving)

pub returns : goal.returns
returns c =
    let cells = c.args.library.now.cells in
    let same : or_else (first_some (no_arc_among c.as_slice.result.now) c.as_slice-found.result.now) (first_some (no_arc_of c.as_slice.result.now) c.as_slice-2.result.now)
    ≡ arc_fault cells c.args.netlist.now.insts c.args.limits.now.drivers =
    rw c.as_slice.ensures
    (arcs_are cells c.args.netlist.now.insts c.args.limits.now.drivers c.as_slice-found.result.now c.as_slice-2.result.now (c.as_slice-found.ensures ∙ c.requires.found.are) (c.as_slice-2.ensures ∙ c.requires.driving.are)) in
    subst (λ o. Checks o c.check_arcs.result) same c.check_arcs.ensures
