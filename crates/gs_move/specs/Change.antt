-- What a move changes, as a judge sees it.

use Rattle.std.specs.Prelude.{ℕ, Bool, not, ◌&&◌, List, filter, find, length, sum_by, Option, ℤ}
use Rattle.std.specs.List.{range_with_len}
use Rattle.gs_design.specs.Limits.{is_met, limits, limits_at, over_of}
use Rattle.gs_design.specs.Timing.{timing_of}
use Rattle.gs_design.specs.declared.design.Design.{Design}
use Rattle.gs_design.specs.declared.limit.Limit.{Limit}
use Rattle.gs_design.specs.declared.time.NetTime.{NetTime}
use Rattle.gs_move.specs.Cone.{in_cone_of}
use Rattle.gs_move.specs.Fair.{new_leak, present_leak}
use Rattle.gs_move.specs.Moves.{after}
use Rattle.gs_move.specs.declared.change.Change.{Change}
use Rattle.gs_move.specs.declared.moves.Move.{Move}

-- the numbers of a change, without what its type keeps of them
pub record Facts : Type 0 where
  pub leak_old : ℤ
  pub leak_new : ℤ
  pub broken : Option Limit
  pub over_old : ℕ
  pub over_new : ℕ

abbrev pub facts_of : Change → Facts
facts_of c = record { leak_old = c.leak_old; leak_new = c.leak_new; broken = c.broken; over_old = c.over_old; over_new = c.over_new }

-- a limit that is met in one timing, and not in the other
abbrev pub is_lost : Design → (t u : List NetTime) → Limit → Bool
is_lost d t u l = is_met d t l && not (is_met d u l)

-- what a timing holds above the bounds of the limits of one net, and of the nets that pass a test
abbrev pub over_at : Design → List NetTime → ℕ → ℕ
over_at d t n = sum_by (over_of d t) (limits_at d n)

abbrev pub over_on : (on : ℕ → Bool) → Design → List NetTime → ℕ
over_on on d t = sum_by (over_at d t) (filter on (range_with_len 0 (length d.nets)))

-- Of a move from one timing to another: the leakages of the present and of the new cell; the first limit, in the order of the limits,
-- that is met before and not after; and for either timing the sum, over the limits of the nets of the cone, of what is above the bound.
abbrev pub change_between : Design → List ℕ → Move → (t u : List NetTime) → Facts
change_between d s m t u = record {
  leak_old = present_leak d s m;
  leak_new = new_leak d m;
  broken = find (is_lost d t u) (limits d);
  over_old = over_on (in_cone_of d m t u) d t;
  over_new = over_on (in_cone_of d m t u) d u;
}

-- the change of a move at sizes, between the timings before and after
abbrev pub change_of : Design → List ℕ → Move → Facts
change_of d s m = change_between d s m (timing_of d s) (timing_of d (after s m))
