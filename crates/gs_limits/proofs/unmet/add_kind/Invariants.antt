use Rattle.std.proofs.Common.{◌≡◌, ◌≤◌, ◌++◌, filter_map}
use Rattle.gs_limits.specs.Kinds.{kind_count, of_kind, violation_if}
use Rattle.gs_limits.proofs.unmet.add_kind.Given as goal

abbrev pub invariant-loop-number : goal.invariant-loop-number
invariant-loop-number l =
    (l.found.items ≡ l.initial.found.items ++ filter_map (violation_if l.design l.timing) (of_kind l.kind l.number))
    × (l.number ≤ kind_count l.design l.kind)
