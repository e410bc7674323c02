use Rattle.std.proofs.Common.{◌≡◌, ◌++◌, ◌∷◌, [], filter_map, None, Some, append_assoc, sym, ◌∙◌, ap, arith}
use Rattle.gs_limits.specs.Kinds.{limit_of, of_kind, violation_if}
use Rattle.gs_limits.proofs.KindLaws.{found_none, found_some}
use Rattle.gs_limits.proofs.unmet.add_kind.Goals as goal

pub loop-number-preserved-in-None : goal.loop-number-preserved-in-None
loop-number-preserved-in-None c =
    let one = violation_if c.args.design.now c.args.timing.now in
    let value : violation_if c.args.design.now c.args.timing.now (limit_of c.args.kind c.loop-number.number) ≡ None =
    ap one (sym c.limit_at-limit.ensures) ∙ sym c.violation.ensures ∙ c.in-None.is in (
      c.loop-number.invariant.0 ∙ ap (λ vs. c.args.found.now.items ++ vs) (sym (found_none one c.args.kind c.loop-number.number value)),
      omega (arith, c.loop-number-test.true, c.count_of-number-end.ensures),
    )

pub loop-number-preserved : goal.loop-number-preserved
loop-number-preserved c =
    let one = violation_if c.args.design.now c.args.timing.now in
    let value : violation_if c.args.design.now c.args.timing.now (limit_of c.args.kind c.loop-number.number) ≡ Some c.in-Some.broken =
    ap one (sym c.limit_at-limit.ensures) ∙ sym c.violation.ensures ∙ c.in-Some.is in
    let pushed = c.in_ok-push.ensures.items in (
      pushed ∙ ap (λ vs. vs ++ c.in-Some.broken ∷ []) c.loop-number.invariant.0
          ∙ append_assoc c.args.found.now.items (filter_map one (of_kind c.args.kind c.loop-number.number)) (c.in-Some.broken ∷ [])
          ∙ ap (λ vs. c.args.found.now.items ++ vs) (sym (found_some one c.args.kind c.loop-number.number c.in-Some.broken value)),
      omega (arith, c.loop-number-test.true, c.count_of-number-end.ensures),
    )
