use Rattle.std.proofs.Common.{◌≡◌, ◌<◌, true, length, ◌∙◌, arith}
use Rattle.std.specs.Str.{bytes_eq}
use Rattle.gs_spef.specs.declared.wires.Wire.{Wire}
use Rattle.gs_survey.proofs.Places.{is_first, numbered}
use Rattle.gs_survey.specs.Numbers.{net_name, net_number}
use Rattle.gs_survey.proofs.limits.find_in_order.Goals as goal

pub loop-wire-preserved : goal.loop-wire-preserved
loop-wire-preserved c =
    let nets = c.args.nets.now in
    let wire = c.wire-item.result in
    let number = c.number_from-number.result in
    let lt : number < length nets = omega arith in
    let named : bytes_eq wire.net (net_name nets number) ≡ true = rw c.as_bytes.ensures at (c.number_from-number.ensures.named lt) in
    c.in_ok-push.ensures.items
    ∙ numbered (λ (w : Wire). net_number nets w.net) c.args.wires.now c.loop-wire.wire-index wire (omega arith) c.wire-item.is c.loop-wire.numbers.items c.loop-wire.invariant
    number (is_first nets number wire.net c.requires lt named)
