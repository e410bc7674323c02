use Rattle.std.proofs.Common.{◌≡◌, IfOk, map, subst}
use Rattle.gs_design.specs.Insts.{insts_of}
use Rattle.gs_link.proofs.BuildLaws.{are_insts, insts_are}
use Rattle.gs_link.proofs.WellSound.{sound}
use Rattle.gs_link.specs.Columns.{new_inputs, raw_name, row_of}
use Rattle.gs_link.specs.Linked.{linked_insts}
use Rattle.gs_link.proofs.stages.link_insts.Goals as goal

pub build_insts-requires-clause-found : goal.build_insts-requires-clause-found
build_insts-requires-clause-found c = rw (c.as_slice.ensures, c.insts.ensures.value) c.requires.found

pub build_insts-requires-clause-gates : goal.build_insts-requires-clause-gates
build_insts-requires-clause-gates c = rw (c.as_slice.ensures, c.insts.ensures.value) c.requires.gates

pub build_insts-requires-clause-reads : goal.build_insts-requires-clause-reads
build_insts-requires-clause-reads c = rw (c.as_slice.ensures, c.insts.ensures.value) c.requires.reads

pub build_insts-requires-clause-few : goal.build_insts-requires-clause-few
build_insts-requires-clause-few c = rw c.insts.ensures.value (sound c.args.files.now.netlist.now c.args.files.now.library.now c.args.files.now.wires.now c.args.files.now.limits.now c.requires.unrefused).few_insts

pub build_insts-requires-clause-many : goal.build_insts-requires-clause-many
build_insts-requires-clause-many c = rw c.as_slice.ensures c.requires.choices.many

pub build_insts-requires-clause-are : goal.build_insts-requires-clause-are
build_insts-requires-clause-are c =
    rw (c.as_slice.ensures, c.insts.ensures.value)
    (are_insts c.args.files.now.library.now.cells c.args.files.now.netlist.now c.requires.kept c.args.files.now.limits.now (sound c.args.files.now.netlist.now c.args.files.now.library.now c.args.files.now.wires.now c.args.files.now.limits.now c.requires.unrefused) c.args.numbers.now c.requires.numbers c.args.alternatives.choices c.args.alternatives.stretches c.requires.choices)

pub returns : goal.returns
returns c =
    let same : insts_of c.args.alternatives.choices (map (row_of c.as_slice.result.now c.args.alternatives.stretches c.args.numbers.now) c.insts.result.now) (map (new_inputs c.as_slice.result.now c.args.numbers.now) c.insts.result.now) (map raw_name c.insts.result.now)
    ≡ linked_insts c.args.files.now.library.now.cells c.args.files.now.netlist.now =
    rw (c.as_slice.ensures, c.insts.ensures.value)
    (insts_are c.args.files.now.library.now.cells c.args.files.now.netlist.now c.requires.kept c.args.files.now.limits.now (sound c.args.files.now.netlist.now c.args.files.now.library.now c.args.files.now.wires.now c.args.files.now.limits.now c.requires.unrefused) c.args.numbers.now c.requires.numbers c.args.alternatives.choices c.args.alternatives.stretches c.requires.choices) in
    subst (λ x. IfOk c.build_insts.result (λ i. i ≡ x)) same c.build_insts.ensures
