use Rattle.std.proofs.Common.{◌∙◌, arith}
use Rattle.std.proofs.lemmas.List.{length-map}
use Rattle.gs_design.specs.Ends.{input_pins, pin_net}
use Rattle.gs_link.proofs.SinkLaws.{keys_are, keys_below, pins_below, sinks_are}
use Rattle.gs_link.proofs.sinks.find_sinks.Goals as goal

pub by_key-requires-clause-same : goal.by_key-requires-clause-same
by_key-requires-clause-same c =
    rw (c.as_slice-2.ensures.value, c.as_slice.ensures.value, c.in_ok-keys.ensures, c.in_ok-sinks.ensures, keys_are c.args.insts.now) (length-map (input_pins c.args.insts.now) (pin_net c.args.insts.now))

pub by_key-requires-clause-below : goal.by_key-requires-clause-below
by_key-requires-clause-below c =
    rw (c.as_slice-2.ensures.value, c.in_ok-keys.ensures) (keys_below c.args.insts.now c.args.nets c.requires.inside)

pub by_key-requires-clause-few : goal.by_key-requires-clause-few
by_key-requires-clause-few c =
    rw (c.as_slice.ensures.value, c.in_ok-sinks.ensures) (omega (arith, pins_below c.args.insts.now c.requires.few, c.requires.many))

pub returns : goal.returns
returns c =
    c.in_ok-grouped.ensures
    ∙ rw (c.as_slice-2.ensures.value, c.as_slice.ensures.value, c.in_ok-sinks.ensures) (sinks_are c.args.insts.now c.args.nets c.in_ok-keys.keys.items c.in_ok-keys.ensures)
