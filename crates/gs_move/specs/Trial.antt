-- What trying a move gives.

use Rattle.std.specs.Prelude.{ℕ, List, [], map, filter, length, Option, None, Some}
use Rattle.std.specs.List.{range_with_len}
use Rattle.gs_design.specs.Times.{time_at}
use Rattle.gs_design.specs.Timing.{timing_of}
use Rattle.gs_design.specs.declared.design.Design.{Design}
use Rattle.gs_design.specs.declared.time.NetAt.{NetAt}
use Rattle.gs_design.specs.declared.time.NetTime.{NetTime}
use Rattle.gs_move.specs.Change.{change_of}
use Rattle.gs_move.specs.Fair.{new_leak, present_leak}
use Rattle.gs_move.specs.Judge.{Answers}
use Rattle.gs_move.specs.Moves.{after}
use Rattle.gs_move.specs.Records.{differ}
use Rattle.gs_move.specs.declared.delta.Delta.{Delta}
use Rattle.gs_move.specs.declared.moves.Move.{Move}
use Rattle.gs_move.specs.declared.outcome.Outcome.{Outcome}
use Rattle.gs_move.specs.declared.outcome.Outcome.TheVariants.{NotFair}
use Rattle.gs_move.specs.declared.outcome.Why.{Why}
use Rattle.gs_move.specs.declared.trial.Trial.{Trial}

-- the first so many nets whose records in two timings differ, by number, each with the later record
abbrev pub changed_records : (t u : List NetTime) → (count : ℕ) → List NetAt
changed_records t u count = map (λ n. record { net = n; time = time_at u n }) (filter (differ t u) (range_with_len 0 count))

-- the nets whose records a move changes, by number, each with the later record
abbrev pub changed_nets : Design → List ℕ → Move → List NetAt
changed_nets d s m = changed_records (timing_of d s) (timing_of d (after s m)) (length d.nets)

abbrev pub delta_of : Move → List NetAt → Delta
delta_of m nets = record { inst = m.inst; place = m.place; nets = nets }

-- a trial of a move, whose reads aren't listed
abbrev pub trial_with : Move → (front worker : ℕ) → List NetAt → Outcome → Trial
trial_with m front worker nets outcome = record { mv = m; front = front; worker = worker; reads = []; delta = delta_of m nets; outcome = outcome }

-- Where the judge refuses at a glance, the delta names no net and the outcome is that refusal. Else the delta names the nets whose
-- records the move changes, and the outcome is the judge's on the change.
abbrev pub trial_after_glance : Answers → Design → List ℕ → Move → (front worker : ℕ) → Option Why → Trial
trial_after_glance J d s m front worker (Some why) = trial_with m front worker [] (NotFair why)
trial_after_glance J d s m front worker None = trial_with m front worker (changed_nets d s m) (J.judge (change_of d s m))

-- the trial of a move at sizes, by a judge; `front` and `worker` are what it was made under
abbrev pub trial_of : Answers → Design → List ℕ → Move → (front worker : ℕ) → Trial
trial_of J d s m front worker = trial_after_glance J d s m front worker (J.glance (present_leak d s m) (new_leak d m))
