-- Judges of moves: what they answer, their law, and the moves that one finds Fair.

use Rattle.std.specs.Prelude.{ℕ, ◌≡◌, Bool, true, false, List, filter, Option, Some, ℤ, ◌<ℤ◌}
use Rattle.gs_design.specs.declared.design.Design.{Design}
use Rattle.gs_move.specs.Change.{Facts, change_of}
use Rattle.gs_move.specs.Moves.{moves_at}
use Rattle.gs_move.specs.declared.moves.Move.{Move}
use Rattle.gs_move.specs.declared.outcome.Outcome.{Outcome}
use Rattle.gs_move.specs.declared.outcome.Outcome.TheVariants.{Fair, NotFair}
use Rattle.gs_move.specs.declared.outcome.Why.{Why}

-- What a judge answers, each a function of the arguments alone: at a glance on the two leakages, on a change, and its measure of the
-- state before and after a change.
pub record Answers : Type 0 where
  pub glance : (leak_old leak_new : ℤ) → Option Why
  pub judge : Facts → Outcome
  pub before : Facts → ℤ
  pub after : Facts → ℤ

-- The law of judges. A move that is Fair lowers the measure; and a move that is refused at a glance is refused for the same reason
-- whatever the change is, so that no glance makes a move Fair.
pub record IsLawful (J : Answers) : Type 0 where
  pub lowers : (c : Facts) → J.judge c ≡ Fair → J.after c <ℤ J.before c
  pub refuses : (c : Facts) (why : Why) → J.glance c.leak_old c.leak_new ≡ Some why → J.judge c ≡ NotFair why

abbrev pub is_fair : Outcome → Bool
is_fair Fair = true
is_fair (NotFair why) = false

-- a move is Fair by a judge where the judge answers so for its change
abbrev pub is_fair_by : Answers → Design → List ℕ → Move → Bool
is_fair_by J d s m = is_fair (J.judge (change_of d s m))

-- all moves at sizes that are Fair by a judge, by instance and then place
abbrev pub fair_moves : Answers → Design → List ℕ → List Move
fair_moves J d s = filter (is_fair_by J d s) (moves_at d s)
