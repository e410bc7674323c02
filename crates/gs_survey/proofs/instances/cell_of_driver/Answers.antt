use Rattle.std.proofs.Common.{◌∙◌, ap}
use Rattle.gs_design.specs.Cells.{cell_at}
use Rattle.gs_survey.proofs.FoundLaws.{driver_at, driver_in}
use Rattle.gs_survey.specs.Blank.{no_driver}
use Rattle.gs_survey.proofs.instances.cell_of_driver.Goals as goal

pub cell_at_number-requires : goal.cell_at_number-requires
cell_at_number-requires c = driver_in c.args.cells.now c.args.drivers.now c.args.found.now c.requires.found c.args.place no_driver c.requires.place

pub returns : goal.returns
returns c = λ d. c.cell_at_number.ensures ∙ ap (cell_at c.args.cells.now) (driver_at c.args.cells.now c.args.drivers.now c.args.found.now c.requires.found c.args.place d c.requires.place)
