-- The cells of a library while it is read: what is known of them, and the map by which a name is found. No public clause names this.

use Rattle.std.specs.Prelude.{ℕ, ◌≡◌, List, [], ◌∷◌, map, All, Option, None, Some}
use Rattle.std.specs.Cmp.Lexicographic.{slice_cmp}
use Rattle.std.specs.List.{IsDistinct, list_any}
use Rattle.std.specs.List.Sorted.{IsStrictlySortedBy}
use Rattle.std.specs.Option.{is_some}
use Rattle.std.specs.Ordering.{nat_cmp}
use Rattle.std.specs.Str.{bytes_eq}
use Rattle.gs_design.specs.Cells.{cell_name}
use Rattle.gs_lib.specs.Draft.{CellLists, DraftLists, cell_of, draft_lists, draft_of}
use Rattle.gs_lib.specs.Library.{draft_fault}
use Rattle.gs_lib.specs.Profile.{kind_of}
use Rattle.gs_lib.specs.declared.builder.Builder.{Builder}
use Rattle.gs_lib.specs.declared.draft.Draft.{Draft}
use Rattle.gs_lib.specs.declared.error.LibErr.{LibErr}
use Rattle.gs_libcell.specs.Pin.{name_of, pins_in}
use Rattle.gs_libcell.specs.Template.{Frame}
use Rattle.gs_libtree.specs.declared.tree.Node.{Node}
use Rattle.gs_names.specs.Names.{HasBuckets, find}
use Rattle.gs_text.specs.Pieces.{IsUnbroken}

-- a draft is what a cell of the profile says
pub record IsOfCell (lib : Frame) (cell : Node) (d : Draft) : Type 0 where
  pub kind_is : kind_of cell (pins_in lib.units cell.items) ≡ Some d.kind
  pub lists : draft_lists d ≡ draft_of lib cell (pins_in lib.units cell.items) d.kind
  pub sorted : IsStrictlySortedBy (slice_cmp nat_cmp) (map name_of d.inputs)

-- the names differ, none is broken, and the map has just these
pub record IsKept (b : Builder) : Type 0 where
  pub buckets : HasBuckets b.names
  pub finds : (q : List ℕ) → is_some (find b.names q) ≡ list_any (bytes_eq q) (map cell_name b.cells.items)
  pub differ : IsDistinct bytes_eq (map cell_name b.cells.items)
  pub named : All (λ c. IsUnbroken c.name) b.cells.items

-- of an item that may be a cell of the profile
abbrev pub fault_by : (seen : List (List ℕ)) → Option DraftLists → Option LibErr
fault_by seen None = None
fault_by seen (Some d) = draft_fault seen d

abbrev pub cells_by : Option DraftLists → List CellLists
cells_by None = []
cells_by (Some d) = cell_of d ∷ []

abbrev pub names_by : Option DraftLists → List (List ℕ)
names_by None = []
names_by (Some d) = d.name ∷ []
