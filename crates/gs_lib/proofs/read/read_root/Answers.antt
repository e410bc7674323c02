use Rattle.std.proofs.Common.{◌≡◌, ◌∙◌, ap, sym, refl, map}
use Rattle.gs_lib.specs.Draft.{cell_lists}
use Rattle.gs_lib.specs.Library.{count_fault}
use Rattle.gs_lib.proofs.Reading.{keeps}
use Rattle.gs_lib.proofs.read.read_root.Goals as goal

pub make_library-requires : goal.make_library-requires
make_library-requires c =
    keeps c.in-Ok-read_cells.builder.cells.items
    (ap (λ cs. count_fault (map cell_lists cs)) (sym c.as_slice-3.ensures.value) ∙ c.in_default.ensures)
    c.args.root.now.items c.in-Ok.header.slew_default c.in-Ok.ensures.slew c.in-Ok-read_cells.builder refl c.in-Ok-read_cells.ensures.kept
