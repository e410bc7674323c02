use Rattle.std.proofs.Common.{◌≡◌, ◌≤◌, ◌*◌, ◌-◌, length, sum_by, take}
use Rattle.gs_top.proofs.recovery.count_moves.Given as goal

abbrev pub invariant-loop-number : goal.invariant-loop-number
invariant-loop-number l =
    (l.number ≤ length l.design.insts) × (l.count ≡ sum_by (λ i. length i.alts - 1) (take l.number l.design.insts)) × (l.count ≤ 1023 * l.number)
