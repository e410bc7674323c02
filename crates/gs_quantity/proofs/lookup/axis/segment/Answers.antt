use Rattle.std.proofs.Common.{◌+◌, ◌-◌, ◌≡◌, ◌<ℤ◌, ◌∙◌, sym, length, arith}
use Rattle.gs_quantity.specs.Lookup.{at}
use Rattle.gs_quantity.proofs.Axis.{stops, from_under}
use Rattle.gs_quantity.proofs.lookup.axis.segment.Goals as goal

pub returns-after-loop-place-clause-value : goal.returns-after-loop-place-clause-value
returns-after-loop-place-clause-value c =
    let xs = c.args.points.now in
    let last : c.saturating_sub-last.result ≡ length xs - 2 = omega (arith, c.saturating_sub-last.ensures, c.len.ensures) in
    sym (stops xs c.requires c.args.query (length xs - 2) c.loop-place.place (omega (arith, c.requires.some)) (omega (arith, last, c.loop-place.invariant.within))
    c.loop-place.invariant.reached (λ less. absurd (omega (arith, last, less, c.loop-place-test.false))))

pub returns-then-is_above-clause-value : goal.returns-then-is_above-clause-value
returns-then-is_above-clause-value c =
    let xs = c.args.points.now in
    let last : c.saturating_sub-last.result ≡ length xs - 2 = omega (arith, c.saturating_sub-last.ensures, c.len.ensures) in
    let above : c.args.query <ℤ at xs (c.loop-place.place + 1) =
    from_under c.args.query (at xs (c.loop-place.place + 1)) (rw c.point.ensures at (sym c.is_above.ensures ∙ c.if-is_above.true)) in
    sym (stops xs c.requires c.args.query (length xs - 2) c.loop-place.place (omega (arith, c.requires.some)) (omega (arith, last, c.loop-place.invariant.within))
    c.loop-place.invariant.reached (λ less. above))
