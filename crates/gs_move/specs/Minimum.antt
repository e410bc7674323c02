-- Sizes that no single move makes better.

use Rattle.std.specs.Prelude.{ℕ, ◌≡◌, true, false, List}
use Rattle.gs_design.specs.declared.design.Design.{Design}
use Rattle.gs_move.specs.Fair.{IsFair}
use Rattle.gs_move.specs.Judge.{Answers, is_fair_by}
use Rattle.gs_move.specs.Moves.{is_move}
use Rattle.gs_move.specs.declared.moves.Move.{Move}

-- no move is Fair
abbrev pub IsMinimum : Design → List ℕ → Type 0
IsMinimum d s = (m : Move) → is_move d s m ≡ true → ¬ IsFair d s m

-- no move is Fair by a judge
abbrev pub IsMinimumBy : Answers → Design → List ℕ → Type 0
IsMinimumBy J d s = (m : Move) → is_move d s m ≡ true → is_fair_by J d s m ≡ false
