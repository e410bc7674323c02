use Rattle.std.proofs.Common.{◌≡◌, ◌*◌, ◌≤◌, sum_by}
use Rattle.gs_limits.specs.Kinds.{kind_count, of_kind, over_if}
use Rattle.gs_limits.proofs.totals.excess_of_kind.Given as goal

abbrev pub invariant-loop-number : goal.invariant-loop-number
invariant-loop-number l =
    (l.sum ≡ sum_by (over_if l.design l.timing) (of_kind l.kind l.number))
    × (l.sum ≤ l.number * 18446744073709551615) × (l.number ≤ kind_count l.design l.kind)
