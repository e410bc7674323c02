use Rattle.std.proofs.Common.{◌≡◌, ◌<◌, ◌≤◌, ◌-◌, length, map, ap, sym, ◌∙◌, arith}
use Rattle.std.proofs.lemmas.List.{length-map}
use Rattle.gs_design.specs.Cells.{cell_at}
use Rattle.gs_design.specs.Hot.{pin_data}
use Rattle.gs_design.proofs.HotLaws.{data_of_pin, ends_on, length-ends_by_net, no_data, pins_at}
use Rattle.gs_design.proofs.design.Design.output.Goals as goal

pub overflow_sub-pins : goal.overflow_sub-pins
overflow_sub-pins c =
    let is : c.at-pins.result.now ≡ map (pin_data c.args.self.now.slew_default) (cell_at c.args.self.now.cells c.args.cell).pins =
    rw (c.at-pins.ensures, c.index.ensures, c.args.self.now.pin_data_is) (pins_at c.args.self.now.slew_default c.args.self.now.cells c.args.cell c.requires) in
    let many : length c.at-pins.result.now ≡ length (cell_at c.args.self.now.cells c.args.cell).pins = ap length is ∙ length-map (cell_at c.args.self.now.cells c.args.cell).pins (pin_data c.args.self.now.slew_default) in
    omega (arith, many, (cell_at c.args.self.now.cells c.args.cell).well.some_inputs)

pub data_at-requires : goal.data_at-requires
data_at-requires c =
    let is : c.at-pins.result.now ≡ map (pin_data c.args.self.now.slew_default) (cell_at c.args.self.now.cells c.args.cell).pins =
    rw (c.at-pins.ensures, c.index.ensures, c.args.self.now.pin_data_is) (pins_at c.args.self.now.slew_default c.args.self.now.cells c.args.cell c.requires) in
    let many : length c.at-pins.result.now ≡ length (cell_at c.args.self.now.cells c.args.cell).pins = ap length is ∙ length-map (cell_at c.args.self.now.cells c.args.cell).pins (pin_data c.args.self.now.slew_default) in
    omega (arith, many, (cell_at c.args.self.now.cells c.args.cell).well.some_inputs)

pub returns : goal.returns
returns c =
    let is : c.at-pins.result.now ≡ map (pin_data c.args.self.now.slew_default) (cell_at c.args.self.now.cells c.args.cell).pins =
    rw (c.at-pins.ensures, c.index.ensures, c.args.self.now.pin_data_is) (pins_at c.args.self.now.slew_default c.args.self.now.cells c.args.cell c.requires) in
    let many : length c.at-pins.result.now ≡ length (cell_at c.args.self.now.cells c.args.cell).pins = ap length is ∙ length-map (cell_at c.args.self.now.cells c.args.cell).pins (pin_data c.args.self.now.slew_default) in
    rw (c.data_at.ensures no_data, is, length-map (cell_at c.args.self.now.cells c.args.cell).pins (pin_data c.args.self.now.slew_default))
    (data_of_pin c.args.self.now.slew_default (cell_at c.args.self.now.cells c.args.cell).pins (length (cell_at c.args.self.now.cells c.args.cell).pins - 1) no_data
    (omega (arith, (cell_at c.args.self.now.cells c.args.cell).well.some_inputs)))
