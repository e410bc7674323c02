use Rattle.std.proofs.Common.{◌≡◌, map, take}
use Rattle.gs_survey.specs.Instances.{cell_number}
use Rattle.gs_survey.proofs.instances.find_cells.Given as goal

abbrev pub invariant-loop-item : goal.invariant-loop-item
invariant-loop-item g l = l.numbers.items ≡ map (λ x. cell_number l.cells (g.T.OfCell.cell x)) (take l.item-index l.items)
