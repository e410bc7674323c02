use Rattle.std.proofs.Common.{◌≡◌, ◌++◌, IfOk, map, subst}
use Rattle.std.specs.List.{filter}
use Rattle.gs_design.specs.Ends.{data_pins}
use Rattle.gs_link.proofs.BuildLaws.{ends_are}
use Rattle.gs_link.proofs.SiteLaws.{delays_limited, few_insts, readable}
use Rattle.gs_link.specs.Columns.{end_of_port}
use Rattle.gs_link.specs.Linked.{linked_ends, pin_end}
use Rattle.gs_survey.specs.Numbers.{is_one_of}
use Rattle.gs_link.proofs.stages.link_ends.Goals as goal

pub build_ends-requires-clause-many : goal.build_ends-requires-clause-many
build_ends-requires-clause-many c = rw c.requires.insts (few_insts c.args.files.now.netlist.now c.args.files.now.library.now c.args.files.now.wires.now c.args.files.now.limits.now c.requires.kept c.requires.unrefused)

pub build_ends-requires-clause-readable : goal.build_ends-requires-clause-readable
build_ends-requires-clause-readable c =
    rw (c.as_slice.ensures, c.requires.insts)
    (readable c.args.files.now.netlist.now c.args.files.now.library.now c.args.files.now.wires.now c.args.files.now.limits.now c.requires.kept c.requires.unrefused
    (λ x lt. c.alternatives_are_kept.ensures c.args.files.now.library.now.slew_default c.args.files.now.library.now.cells x c.args.files.now.library.now.well lt))

pub build_ends-requires-clause-period : goal.build_ends-requires-clause-period
build_ends-requires-clause-period c = rw c.period.ensures.value c.period.ensures.kept.period

pub build_ends-requires-clause-delays : goal.build_ends-requires-clause-delays
build_ends-requires-clause-delays c = λ n. rw c.requires.numbering.values.departures (delays_limited c.args.files.now.netlist.now c.args.files.now.limits.now c.period.ensures.kept n)

pub returns : goal.returns
returns c =
    let same : map (end_of_port c.args.numbering.now.numbers c.args.numbering.now.values.departures c.period.result) (filter (is_one_of c.args.outputs.now) c.args.numbering.now.used) ++ map (pin_end c.args.insts.now c.period.result) (data_pins c.as_slice.result.now c.args.insts.now)
    ≡ linked_ends c.args.files.now.library.now.cells c.args.files.now.netlist.now c.args.files.now.limits.now =
    rw (c.as_slice.ensures, c.period.ensures.value, c.requires.outputs, c.requires.insts, c.requires.numbering.used)
    (ends_are c.args.files.now.library.now.cells c.args.files.now.netlist.now c.args.files.now.wires.now c.args.files.now.limits.now c.args.numbering.now.values c.requires.numbering.values c.args.numbering.now.numbers c.requires.numbering.numbers) in
    subst (λ x. IfOk c.build_ends.result (λ e. e ≡ x)) same c.build_ends.ensures
