-- How far the search has come.
use Rattle.std.specs.Prelude.{◌+◌, ℕ, Bool, true, false, List, slice_index_or}
use Rattle.gs_levels.specs.declared.progress.Progress.{Progress}
use Rattle.gs_levels.specs.declared.progress.Progress.TheVariants.{Fresh, Open, Done}

abbrev pub progress_at : List Progress → ℕ → Progress
progress_at progress n = slice_index_or progress n Fresh

abbrev pub is_fresh : Progress → Bool
is_fresh Fresh = true
is_fresh (Open left) = false
is_fresh Done = false

abbrev pub is_open : Progress → Bool
is_open Fresh = false
is_open (Open left) = true
is_open Done = false

-- 1 for a node that is done, and 0 for another
abbrev pub done_one : Progress → ℕ
done_one Fresh = 0
done_one (Open left) = 0
done_one Done = 1

-- how many steps a node has ahead of it at most, of a graph with this many edges
abbrev pub steps_ahead : ℕ → Progress → ℕ
steps_ahead edges Fresh = edges + 2
steps_ahead edges (Open left) = left + 1
steps_ahead edges Done = 0
