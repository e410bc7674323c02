use Rattle.std.proofs.Common.{◌≡◌, ◌++◌, drop}
use Rattle.std.specs.List.{flat_map}
use Rattle.gs_sweep.proofs.sweeps.joined.Given as goal

abbrev pub invariant-loop-list : goal.invariant-loop-list
invariant-loop-list l = l.all.items ++ flat_map (λ w. w.items) (drop l.list-index l.lists) ≡ flat_map (λ w. w.items) l.lists
