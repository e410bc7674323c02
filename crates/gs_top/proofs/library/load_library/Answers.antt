use Rattle.gs_lib.specs.Library.{IsLibraryOf}
use Rattle.gs_top.specs.Design.{LibraryCause, liberty, library_in}
use Rattle.gs_top.proofs.Stages.{goes_on, settled, stops}
use Rattle.gs_top.proofs.library.load_library.Goals as goal

pub returns-in-Ok : goal.returns-in-Ok
returns-in-Ok g c =
    goes_on {a = liberty} {next = library_in} {v = c.in-Ok.root} c.in-Ok.ensures (settled (IsLibraryOf c.in-Ok.root) (LibraryCause c.in-Ok.root) c.read_cells.ensures)

pub returns-in-Err : goal.returns-in-Err
returns-in-Err g c = stops {a = liberty} {next = library_in} c.in-Err.ensures
