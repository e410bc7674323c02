use Rattle.gs_lib.proofs.Cells.{draft_tables, draft_well}
use Rattle.gs_lib.proofs.builder.cell_from.Goals as goal

pub cell_of-requires-clause-tables : goal.cell_of-requires-clause-tables
cell_of-requires-clause-tables c = draft_tables c.args.lib.now c.args.cell.now c.args.draft c.requires.of_cell c.requires.whole

pub cell_of-requires-clause-well : goal.cell_of-requires-clause-well
cell_of-requires-clause-well c = draft_well c.args.lib.now c.args.cell.now c.args.draft c.requires.of_cell c.requires.whole
