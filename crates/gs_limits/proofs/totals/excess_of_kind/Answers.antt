use Rattle.std.proofs.Common.{◌≡◌, ◌+◌, ◌≤◌, sum_by, sym, ◌∙◌, ap, arith}
use Rattle.gs_limits.specs.Kinds.{limit_of, of_kind, over_if}
use Rattle.gs_limits.proofs.KindLaws.{sum_more}
use Rattle.gs_limits.proofs.totals.excess_of_kind.Goals as goal

pub loop-number-preserved : goal.loop-number-preserved
loop-number-preserved c =
    let over = over_if c.args.design.now c.args.timing.now in
    let value : c.over_at.result ≡ over_if c.args.design.now c.args.timing.now (limit_of c.args.kind c.loop-number.number) = c.over_at.ensures ∙ ap over c.limit_at-limit.ensures in (
      ap (λ n. n + c.over_at.result) c.loop-number.invariant.0
          ∙ ap (λ n. sum_by over (of_kind c.args.kind c.loop-number.number) + n) value
          ∙ sym (sum_more over c.args.kind c.loop-number.number),
      omega (arith, c.loop-number.invariant.1),
      omega (arith, c.loop-number-test.true, c.count_of-number-end.ensures),
    )
