use Rattle.std.proofs.Common.{◌≡◌, length}
use Rattle.gs_levels.specs.Search.{IsSearch, AreBegun}
use Rattle.gs_levels.proofs.search.Search.run.Given as goal

-- the nodes so far are begun, and none is open
abbrev pub invariant-loop-root : goal.invariant-loop-root
invariant-loop-root l = record {
  kept : IsSearch l.nodes l.edges l.self.progress.items l.self.level.items l.self.stack.items;
  none : length l.self.stack.items ≡ 0;
  begun : AreBegun l.root l.self.progress.items;
}
