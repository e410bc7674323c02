use Rattle.std.proofs.Common.{◌∙◌, ◌++◌, ◌∷◌, [], ℕ, map, sym, ap, arith}
use Rattle.std.proofs.lemmas.List.{append_assoc}
use Rattle.std.proofs.lemmas.List.FromFn.{map-range_with_len_more}
use Rattle.std.specs.List.{range_with_len}
use Rattle.gs_design.specs.declared.sink.Sink.{Sink}
use Rattle.gs_link.proofs.sinks.push_pins.Goals as goal

pub loop-pin-preserved : goal.loop-pin-preserved
loop-pin-preserved c =
    let f : ℕ → Sink = λ p. record { inst = c.args.inst; pin = p } in
    c.in_ok-push.ensures.items
    ∙ ap (λ xs. xs ++ f c.loop-pin.pin ∷ []) c.loop-pin.invariant
    ∙ append_assoc c.args.sinks.now.items (map f (range_with_len 0 c.loop-pin.pin)) (f c.loop-pin.pin ∷ [])
    ∙ ap (λ ys. c.args.sinks.now.items ++ ys) (sym (map-range_with_len_more f 0 c.loop-pin.pin c.loop-pin.pin (omega arith)))
