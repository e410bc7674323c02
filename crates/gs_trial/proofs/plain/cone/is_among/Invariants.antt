use Rattle.std.proofs.Common.{◌≡◌, ◌==◌, drop}
use Rattle.std.specs.List.{list_any}
use Rattle.gs_trial.proofs.plain.cone.is_among.Given as goal

abbrev pub invariant-loop-other : goal.invariant-loop-other
invariant-loop-other l = list_any (λ k. k == l.net) (drop l.other-index l.nets) ≡ list_any (λ k. k == l.net) l.nets
