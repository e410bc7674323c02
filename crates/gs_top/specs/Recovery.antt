-- What the log of leakage recovery says.
use Rattle.std.specs.Prelude.{◌≡◌, ◌<◌, ◌≤◌, ◌↔◌, ℕ, ◌+◌, ◌*◌, List, All, length, Option, None, Some}
use Rattle.gs_design.specs.Sizes.{move_count}
use Rattle.gs_design.specs.declared.design.Design.{Design}
use Rattle.gs_move.specs.Alone.{alone}
use Rattle.gs_move.specs.Earned.{IsEarned}
use Rattle.gs_move.specs.Entries.{commits_of, worker_of}
use Rattle.gs_move.specs.Legal.{IsLegal}
use Rattle.gs_move.specs.Minimum.{IsMinimum}
use Rattle.gs_move.specs.Recovery.{recovery}
use Rattle.gs_move.specs.Run.{IsRun}
use Rattle.gs_move.specs.State.{sizes_now}
use Rattle.gs_move.specs.declared.ended.Ended.{Ended}
use Rattle.gs_move.specs.declared.ended.Ended.TheVariants.{Settled, Spent}
use Rattle.gs_move.specs.declared.entry.Entry.{Entry}
use Rattle.gs_report.specs.Log.{IsLogOf, log_text}
use Rattle.gs_report.specs.declared.run.Log.{Log}

-- a log of these entries
abbrev pub log_with : List Entry → Ended → (budget : ℕ) → Log
log_with es ended budget = record { entries = es; ended = ended; budget = budget }

-- as many entries as leakage recovery ever makes of a design
abbrev pub most_entries : Design → ℕ
most_entries d = move_count d * (move_count d + 2)

-- how many entries a log may have: the number that is given, or one more than recovery ever makes
abbrev pub budget_of : Option ℕ → Design → ℕ
budget_of None d = most_entries d + 1
budget_of (Some budget) d = budget

-- A log of leakage recovery of a design from sizes at the start, with this budget and so many workers. The commits of its entries are a run
-- of moves judged one after another by whole timings: each lowers the leakage and breaks no limit that was met at its point.
pub record IsRecovery (d : Design) (start : List ℕ) (budget workers : ℕ) (l : Log) : Type 0 where
  pub budget_is : l.budget ≡ budget
  -- each entry is right where it stands, so that the commits are a run
  pub legal : IsLegal recovery d start budget l.entries
  pub run : IsRun d start (commits_of l.entries)
  -- no reject is of a move that never was Fair
  pub earned : IsEarned recovery d start l.entries 0
  pub by_workers : All (λ e. worker_of e ≤ workers) l.entries
  -- it ended settled exactly where no single move lowers the leakage without breaking a met limit, and else with its budget spent
  pub settled : (l.ended ≡ Settled) ↔ IsMinimum d (sizes_now start l.entries)
  pub spent : l.ended ≡ Spent → length l.entries ≡ budget
  -- a budget above what recovery ever makes isn't spent
  pub enough : most_entries d < budget → l.ended ≡ Settled
  -- no other log of the design has its text
  pub told : (k : Log) → IsLogOf d k → log_text d k ≡ log_text d l → k ≡ l
  -- without workers there is one such log
  pub one : workers ≡ 0 → alone recovery d start budget ≡ (l.entries, l.ended)
