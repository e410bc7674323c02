use Rattle.std.proofs.Common.{◌≡◌, ◌<◌, ◌≤◌, ◌-◌, length, map, ap, sym, ◌∙◌, arith}
use Rattle.std.proofs.lemmas.List.{length-map}
use Rattle.gs_design.specs.Cells.{cell_at}
use Rattle.gs_design.specs.Hot.{pin_data}
use Rattle.gs_design.proofs.HotLaws.{data_of_pin, ends_on, length-ends_by_net, no_data, pins_at}
use Rattle.gs_design.proofs.design.Design.pin.Goals as goal

pub returns : goal.returns
returns c =
    let is : c.at.result.now ≡ map (pin_data c.args.self.now.slew_default) (cell_at c.args.self.now.cells c.args.cell).pins =
    rw (c.at.ensures, c.index.ensures, c.args.self.now.pin_data_is) (pins_at c.args.self.now.slew_default c.args.self.now.cells c.args.cell c.requires.cell) in
    rw (c.data_at.ensures no_data, is) (data_of_pin c.args.self.now.slew_default (cell_at c.args.self.now.cells c.args.cell).pins c.args.pin no_data c.requires.pin)
