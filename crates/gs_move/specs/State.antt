-- The states that the commits of a run lead through.

use Rattle.std.specs.Prelude.{ℕ, List, take}
use Rattle.gs_design.specs.Timing.{timing_of}
use Rattle.gs_design.specs.declared.design.Design.{Design}
use Rattle.gs_design.specs.declared.time.NetTime.{NetTime}
use Rattle.gs_move.specs.Entries.{commits_of}
use Rattle.gs_move.specs.Run.{sizes_after}
use Rattle.gs_move.specs.declared.entry.Entry.{Entry}

-- sizes with their timing
pub record State : Type 0 where
  pub sizes : List ℕ
  pub timing : List NetTime

-- the sizes after the first so many commits of a list of entries, and after all of them
abbrev pub sizes_at : (start : List ℕ) → List Entry → ℕ → List ℕ
sizes_at start es k = sizes_after start (take k (commits_of es))

abbrev pub sizes_now : (start : List ℕ) → List Entry → List ℕ
sizes_now start es = sizes_after start (commits_of es)

-- the state after the first so many commits
abbrev pub state_at : Design → (start : List ℕ) → List Entry → ℕ → State
state_at d start es k = record { sizes = sizes_at start es k; timing = timing_of d (sizes_at start es k) }
