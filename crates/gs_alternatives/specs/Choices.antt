-- The alternatives of all cells of a library, in one list.

use Rattle.std.specs.Prelude.{ℕ, ◌≡◌, ◌<◌, ◌≤◌, ◌==◌, List, length, slice_index_or, slice_range}
use Rattle.std.specs.List.{position_or_len}
use Rattle.gs_design.specs.Alternatives.{alternatives}
use Rattle.gs_design.specs.declared.cell.Cell.{Cell}
use Rattle.gs_alternatives.specs.declared.choices.Stretch.{Stretch}

abbrev pub no_stretch : Stretch
no_stretch = record { from = 0; to = 0; first = 0 }

abbrev pub stretch_at : List Stretch → ℕ → Stretch
stretch_at stretches c = slice_index_or stretches c no_stretch

-- a stretch of the choices is the alternatives of cell c, and `first` is the place of the cell itself among them
pub record IsStretchOf (cells : List Cell) (choices : List ℕ) (c : ℕ) (s : Stretch) : Type 0 where
  pub order : s.from ≤ s.to
  pub within : s.to ≤ length choices
  pub alternatives_are : slice_range choices s.from s.to ≡ alternatives cells c
  pub first_in : s.first < length (alternatives cells c)
  pub first_is : s.first ≡ position_or_len (λ x. x == c) (alternatives cells c)

-- a stretch for each cell; there are fewer than 2 ^ 27 choices
pub record AreChoices (cells : List Cell) (choices : List ℕ) (stretches : List Stretch) : Type 0 where
  pub many : length stretches ≡ length cells
  pub few : length choices < 134217728
  pub each : (c : ℕ) → c < length cells → IsStretchOf cells choices c (stretch_at stretches c)

-- the choice at place i is in the stretch of a cell
pub record IsTaken (cells : List Cell) (stretches : List Stretch) (i : ℕ) : Type 0 where
  pub cell : ℕ
  pub inside : cell < length cells
  pub from : (stretch_at stretches cell).from ≤ i
  pub to : i < (stretch_at stretches cell).to

-- cells with the same alternatives have one stretch, and no choice stands for nothing
pub record AreShared (cells : List Cell) (choices : List ℕ) (stretches : List Stretch) : Type 0 where
  pub shared : (c x : ℕ) → c < length cells → x < length cells → alternatives cells x ≡ alternatives cells c → (stretch_at stretches x).from ≡ (stretch_at stretches c).from
  pub taken : (i : ℕ) → i < length choices → IsTaken cells stretches i
