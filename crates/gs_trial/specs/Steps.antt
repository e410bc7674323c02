-- How many nets a trial evaluates.

use Rattle.std.specs.Prelude.{ℕ, List, length, Option, None, Some}
use Rattle.gs_design.specs.declared.design.Design.{Design}
use Rattle.gs_incr.specs.Seen.{seen_of}
use Rattle.gs_move.specs.Fair.{new_leak, present_leak}
use Rattle.gs_move.specs.Judge.{Answers}
use Rattle.gs_move.specs.declared.moves.Move.{Move}
use Rattle.gs_move.specs.declared.outcome.Why.{Why}

-- none where the judge refuses at a glance, else those of the move's cone
abbrev pub steps_after_glance : Design → List ℕ → Move → Option Why → ℕ
steps_after_glance d s m (Some why) = 0
steps_after_glance d s m None = length (seen_of d s m)

abbrev pub steps_of : Answers → Design → List ℕ → Move → ℕ
steps_of J d s m = steps_after_glance d s m (J.glance (present_leak d s m) (new_leak d m))
