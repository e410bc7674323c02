-- Runs of moves, and where they end.

use Rattle.std.specs.Prelude.{ℕ, ◌≡◌, ◌<◌, true, List, fold, length, slice_index_or, take}
use Rattle.gs_design.specs.declared.design.Design.{Design}
use Rattle.gs_move.specs.Fair.{IsFair}
use Rattle.gs_move.specs.Moves.{after, is_move}
use Rattle.gs_move.specs.declared.moves.Move.{Move}

-- what stands for a move past the end of a list
abbrev pub no_move : Move
no_move = record { inst = 0; place = 0 }

abbrev pub move_at : List Move → ℕ → Move
move_at ms k = slice_index_or ms k no_move

-- the sizes after all moves of a list
abbrev pub sizes_after : List ℕ → List Move → List ℕ
sizes_after s ms = fold after s ms

-- a run: each move of the list is a move at the sizes after those before it, and Fair there
pub record IsRun (d : Design) (s : List ℕ) (ms : List Move) : Type 0 where
  pub moves : (k : ℕ) → k < length ms → is_move d (sizes_after s (take k ms)) (move_at ms k) ≡ true
  pub fair : (k : ℕ) → k < length ms → IsFair d (sizes_after s (take k ms)) (move_at ms k)
