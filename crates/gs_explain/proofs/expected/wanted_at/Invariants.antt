use Rattle.std.proofs.Common.{◌-◌, length}
use Rattle.gs_explain.specs.Wanted.{CouldStand}
use Rattle.gs_explain.proofs.WantedLaws.{GoesOn}
use Rattle.gs_explain.proofs.expected.wanted_at.Given as goal

abbrev pub invariant-loop-k : goal.invariant-loop-k
invariant-loop-k l = GoesOn (CouldStand l.form l.before l.i) l.sorts l.k l.those.items

abbrev pub decreases-loop-k : goal.decreases-loop-k
decreases-loop-k l = length l.sorts - l.k
