-- Which cells may take each other's place, and in which order.

use Rattle.std.specs.Prelude.{ℕ, ◌==◌, Bool, false, not, ◌&&◌, List, [], ◌∷◌, map, filter, fold, length, ℤ, if◌then◌else◌}
use Rattle.std.specs.BTreeMap.{insert_entry}
use Rattle.std.specs.Cmp.Lexicographic.{pointwise, slice_cmp}
use Rattle.std.specs.List.{range_with_len}
use Rattle.std.specs.Map.{values_of}
use Rattle.std.specs.Ordering.{int_cmp, nat_cmp, ordering_then}
use Rattle.std.specs.declared.cmp.Ordering.{Ordering}
use Rattle.std.specs.Str.{bytes_eq}
use Rattle.gs_design.specs.Cell.{is_gate, pin_name}
use Rattle.gs_design.specs.Cells.{cell_at}
use Rattle.gs_design.specs.declared.cell.Cell.{Cell}
use Rattle.gs_design.specs.declared.kind.CellKind.{CellKind}
use Rattle.gs_design.specs.declared.kind.CellKind.TheVariants.{Gate, Flop}

-- a gate that the library doesn't keep sizing from
abbrev pub is_sizable : Cell → Bool
is_sizable c = not c.marked && is_gate c.kind

abbrev pub same_truth : CellKind → CellKind → Bool
same_truth (Gate t) (Gate u) = t == u
same_truth (Gate t) Flop = false
same_truth Flop k = false

-- the inputs have the same names, and so have the outputs
abbrev pub same_pins : Cell → Cell → Bool
same_pins a b = pointwise bytes_eq (map pin_name a.pins) (map pin_name b.pins)

-- each may take the other's place: both are unmarked gates of one footprint, with the same input names, output name and truth table
abbrev pub alike : Cell → Cell → Bool
alike a b = (is_sizable a && is_sizable b) && (bytes_eq a.footprint b.footprint && (same_pins a b && same_truth a.kind b.kind))

-- how many cells may take a cell's place, itself among them where it is sizable
abbrev pub class_size : List Cell → Cell → ℕ
class_size cells c = length (filter (alike c) cells)

-- what cells are ordered by: their leakage, and then the bytes of their names
abbrev pub rank_key : Cell → ℤ × List ℕ
rank_key c = (c.leakage, c.name)

abbrev pub rank_cmp : ℤ × List ℕ → ℤ × List ℕ → Ordering
rank_cmp x y = ordering_then (int_cmp x.0 y.0) (slice_cmp nat_cmp x.1 y.1)

-- these numbers of cells in that order, each put at its place among those before it
abbrev pub in_rank_order : List Cell → List ℕ → List ℕ
in_rank_order cells cs = values_of (fold (λ ranked c. insert_entry rank_cmp ranked (rank_key (cell_at cells c)) c) [] cs)

-- all cells in that order
abbrev pub ranked : List Cell → List ℕ
ranked cells = in_rank_order cells (range_with_len 0 (length cells))

-- The alternatives of an instance of cell c: of a flip-flop or a marked cell itself alone, else the cells alike, in order.
abbrev pub alternatives : List Cell → ℕ → List ℕ
alternatives cells c = if is_sizable (cell_at cells c) then filter (λ x. alike (cell_at cells c) (cell_at cells x)) (ranked cells) else c ∷ []
