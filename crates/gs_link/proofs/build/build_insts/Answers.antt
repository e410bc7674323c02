use Rattle.std.proofs.Common.{◌≡◌, ◌∙◌, map, ap}
use Rattle.gs_design.specs.Insts.{insts_of}
use Rattle.gs_link.specs.Columns.{new_inputs, raw_name, row_of}
use Rattle.gs_link.proofs.build.build_insts.Goals as goal

pub returns : goal.returns
returns c =
    let cells = c.args.cells.now in
    let stretches = c.args.alternatives.stretches in
    let insts = c.args.insts.now in
    let rows : c.in_ok-rows.rows ≡ map (row_of c.args.cells.now c.args.alternatives.stretches c.args.numbers.now) c.args.insts.now = c.in_ok-rows.ensures ∙ ap (λ ns. map (row_of cells stretches ns) insts) c.as_slice.ensures in
    let inputs : c.in_ok-inputs.inputs ≡ map (new_inputs c.args.cells.now c.args.numbers.now) c.args.insts.now = c.in_ok-inputs.ensures ∙ ap (λ ns. map (new_inputs cells ns) insts) c.as_slice-4.ensures in
    let names : c.in_ok-names.names ≡ map raw_name c.args.insts.now = c.in_ok-names.ensures in
    c.new.ensures ∙ (λ i. insts_of c.args.alternatives.choices (rows i) (inputs i) (names i))
