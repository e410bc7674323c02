-- Classes of cells that may take each other's place, by a key. No public clause names this.

use Rattle.std.specs.Prelude.{ℕ, ◌≡◌, ◌<◌, ◌+◌, ◌==◌, ◌&&◌, Bool, true, false, List, [], ◌∷◌, length, slice_index, map, Option, None, Some}
use Rattle.std.specs.Cmp.Lexicographic.{slice_cmp}
use Rattle.std.specs.List.{flat_map, list_any}
use Rattle.std.specs.Ordering.{nat_cmp, ordering_then}
use Rattle.std.specs.declared.cmp.Ordering.{Ordering}
use Rattle.std.specs.Str.{bytes_eq}
use Rattle.gs_design.specs.Alternatives.{alike, alternatives, is_sizable}
use Rattle.gs_design.specs.Cell.{pin_name}
use Rattle.gs_design.specs.Cells.{cell_at}
use Rattle.gs_design.specs.declared.cell.Cell.{Cell}
use Rattle.gs_design.specs.declared.kind.CellKind.{CellKind}
use Rattle.gs_design.specs.declared.kind.CellKind.TheVariants.{Gate, Flop}
use Rattle.gs_alternatives.specs.declared.choices.Stretch.{Stretch}

-- a name as bytes from which its end can be told: a 1 before each byte, and a 0 at the end
abbrev pub coded : List ℕ → List ℕ
coded [] = 0 ∷ []
coded (b ∷ bs) = 1 ∷ b ∷ coded bs

-- a truth table, and names one after another
abbrev pub Key : Type 0
Key = ℕ × List ℕ

abbrev pub key_cmp : Key → Key → Ordering
key_cmp x y = ordering_then (nat_cmp x.0 y.0) (slice_cmp nat_cmp x.1 y.1)

abbrev pub same_key : Key → Key → Bool
same_key x y = (x.0 == y.0) && bytes_eq x.1 y.1

abbrev pub key_by : (marked : Bool) → CellKind → List (List ℕ) → Option Key
key_by true kind names = None
key_by false (Gate truth) names = Some (truth, flat_map coded names)
key_by false Flop names = None

-- the key of a sizable cell: its truth table, its footprint and the names of its pins
abbrev pub class_key : Cell → Option Key
class_key c = key_by c.marked c.kind (c.footprint ∷ map pin_name c.pins)

abbrev pub matches_by : Key → Option Key → Bool
matches_by k None = false
matches_by k (Some l) = same_key k l

-- the cell has the key
abbrev pub has_key : Key → Cell → Bool
has_key k c = matches_by k (class_key c)

abbrev pub has : List ℕ → ℕ → Bool
has cs c = list_any (λ x. x == c) cs

-- The class of a cell is the number of the first cell of its class, and of a cell that isn't sizable its own number.
pub record AreClasses (cells : List Cell) (classes : List ℕ) : Type 0 where
  pub many : length classes ≡ length cells
  pub below : (c : ℕ) → c < length cells → slice_index classes c < length cells
  pub leads : (c : ℕ) → c < length cells → slice_index classes (slice_index classes c) ≡ slice_index classes c
  -- cells of a class have the same alternatives, and these are of that class
  pub same : (c : ℕ) → c < length cells → alternatives cells (slice_index classes c) ≡ alternatives cells c
  pub members : (c x : ℕ) → c < length cells → x < length cells → has (alternatives cells c) x ≡ true → slice_index classes x ≡ slice_index classes c
  -- of two sizable cells and of a sizable one and another
  pub tells : (c x : ℕ) → c < length cells → x < length cells → is_sizable (cell_at cells c) ≡ true → (slice_index classes x == slice_index classes c) ≡ alike (cell_at cells c) (cell_at cells x)

-- The stretch of a cell of a list that was put at a place among the choices.
pub record IsPut (group : List ℕ) (base c : ℕ) (s : Stretch) : Type 0 where
  pub from : s.from ≡ base
  pub to : s.to ≡ base + length group
  pub first_in : s.first < length group
  pub itself : slice_index group s.first ≡ c
