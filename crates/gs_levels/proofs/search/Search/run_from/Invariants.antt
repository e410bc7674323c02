use Rattle.std.proofs.Common.{◌≡◌, false, length}
use Rattle.gs_levels.specs.Progress.{progress_at, is_fresh}
use Rattle.gs_levels.specs.Search.{IsSearch, StaysBegun, work}
use Rattle.gs_levels.proofs.search.Search.run_from.Given as goal

-- the search keeps its facts, and the root stays begun
abbrev pub invariant-loop-self : goal.invariant-loop-self
invariant-loop-self l = record {
  kept : IsSearch l.nodes l.edges l.self.progress.items l.self.level.items l.self.stack.items;
  begun : StaysBegun l.fn.self.progress.items l.self.progress.items;
  root : is_fresh (progress_at l.self.progress.items l.root) ≡ false;
}

abbrev pub decreases-loop-self : goal.decreases-loop-self
decreases-loop-self l = work (length l.edges) l.self.progress.items
