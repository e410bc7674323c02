use Rattle.std.proofs.Common.{◌∙◌, ap, map}
use Rattle.std.specs.Option.{option_map}
use Rattle.gs_sdc.specs.Command.{gives_by, amount_in, the_value}
use Rattle.gs_sdc.specs.Reads.{names_at, part_of}
use Rattle.gs_sdc.specs.declared.command.Quantity.TheVariants.{PortLoad}
use Rattle.gs_sdc.proofs.reading.port_load.Goals as goal

pub returns-clause-value : goal.returns-clause-value
returns-clause-value c = λ bytes.
    let ps = map (part_of bytes) c.args.parts.now in
    let tens = c.args.units.load_tens in
    let amount = c.amount_in-amount.ensures.value ∙ ap (λ w. amount_in w tens) (c.the_value.ensures bytes) in
    c.gives_by.ensures.value bytes
    ∙ ap (λ m. gives_by PortLoad m (option_map (names_at bytes) c.the_ports.result)) amount
    ∙ ap (gives_by PortLoad (amount_in (the_value ps) tens)) (c.the_ports.ensures.value bytes)
