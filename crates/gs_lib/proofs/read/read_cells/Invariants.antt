use Rattle.std.proofs.Common.{◌≡◌, ◌++◌, [], drop, map}
use Rattle.gs_design.specs.Cells.{cell_name}
use Rattle.gs_lib.specs.Draft.{cell_lists, cell_of}
use Rattle.gs_lib.specs.Index.{IsKept}
use Rattle.gs_lib.specs.Library.{drafts_fault, drafts_in}
use Rattle.gs_lib.proofs.read.read_cells.Given as goal

abbrev pub invariant-loop-item : goal.invariant-loop-item
invariant-loop-item l = record {
  fault : drafts_fault (map cell_name l.builder.cells.items) (drafts_in l.lib (drop l.item-index l.items)) ≡ drafts_fault [] (drafts_in l.lib l.items);
  cells : map cell_lists l.builder.cells.items ++ map cell_of (drafts_in l.lib (drop l.item-index l.items)) ≡ map cell_of (drafts_in l.lib l.items);
  kept : IsKept l.builder;
}
