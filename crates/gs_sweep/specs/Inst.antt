-- The Fair moves of one instance.

use Rattle.std.specs.Prelude.{ℕ, List, filter}
use Rattle.gs_design.specs.declared.design.Design.{Design}
use Rattle.gs_move.specs.Judge.{Answers, is_fair_by}
use Rattle.gs_move.specs.Moves.{moves_of_inst}
use Rattle.gs_move.specs.declared.moves.Move.{Move}

-- the moves of one instance that are Fair by a judge, by place
abbrev pub fair_of_inst : Answers → Design → List ℕ → ℕ → List Move
fair_of_inst J d s g = filter (is_fair_by J d s) (moves_of_inst d s g)
