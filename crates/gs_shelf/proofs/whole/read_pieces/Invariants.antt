use Rattle.std.proofs.Common.{◌≡◌, ◌≤◌, ◌-◌, length, take}
use Rattle.gs_shelf.specs.declared.whole.TheConstants.{FILE_LIMIT}
use Rattle.gs_shelf.specs.Files.{content, AllStay}
use Rattle.gs_shelf.specs.Faults.{NoneFell, CountsStay}
use Rattle.gs_shelf.proofs.whole.read_pieces.Given as goal

abbrev pub invariant-loop-bytes : goal.invariant-loop-bytes
invariant-loop-bytes g l = record {
  within : length l.bytes.items ≤ FILE_LIMIT;
  held : g.H.Shelf.tells → length l.bytes.items ≤ length (content (g.H.Shelf.files l.fn.shelf) l.name);
  so_far : g.H.Shelf.tells → l.bytes.items ≡ take (length l.bytes.items) (content (g.H.Shelf.files l.fn.shelf) l.name);
  stay : AllStay (g.H.Shelf.files l.fn.shelf) (g.H.Shelf.files l.shelf);
  said : g.H.Shelf.said l.shelf ≡ g.H.Shelf.said l.fn.shelf;
  later : NoneFell (g.H.Shelf.faults l.fn.shelf) (g.H.Shelf.faults l.shelf);
  still : CountsStay (g.H.Shelf.faults l.fn.shelf) (g.H.Shelf.faults l.shelf);
}

abbrev pub decreases-loop-bytes : goal.decreases-loop-bytes
decreases-loop-bytes g l = FILE_LIMIT - length l.bytes.items
