-- The judge of leakage recovery.

use Rattle.std.specs.Prelude.{Option, None, Some, int_lt, if◌then◌else◌}
use Rattle.gs_design.specs.declared.limit.Limit.{Limit}
use Rattle.gs_move.specs.Judge.{Answers}
use Rattle.gs_move.specs.declared.outcome.Outcome.{Outcome}
use Rattle.gs_move.specs.declared.outcome.Outcome.TheVariants.{Fair, NotFair}
use Rattle.gs_move.specs.declared.outcome.Why.TheVariants.{NoGain, Breaks}

-- Fair where no limit is broken
abbrev pub unless_broken : Option Limit → Outcome
unless_broken None = Fair
unless_broken (Some l) = NotFair (Breaks l)

-- Of a new cell that doesn't leak less: no gain, at a glance too. Else a limit that is broken, else Fair. The measure is the leakage.
abbrev pub recovery : Answers
recovery = record {
  glance = λ leak_old leak_new. if int_lt leak_new leak_old then None else Some NoGain;
  judge = λ c. if int_lt c.leak_new c.leak_old then unless_broken c.broken else NotFair NoGain;
  before = λ c. c.leak_old;
  after = λ c. c.leak_new;
}
