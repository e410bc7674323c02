use Rattle.std.proofs.Common.{◌∙◌, ap, map}
use Rattle.std.specs.Option.{option_map}
use Rattle.gs_sdc.specs.Command.{gives_by, number_in, the_value}
use Rattle.gs_sdc.specs.Reads.{names_at, part_of}
use Rattle.gs_sdc.specs.declared.command.Quantity.TheVariants.{OutputDelay}
use Rattle.gs_sdc.proofs.reading.output_delay.Goals as goal

pub returns-clause-value : goal.returns-clause-value
returns-clause-value c = λ bytes.
    let ps = map (part_of bytes) c.args.parts.now in
    let tens = c.args.units.time_tens in
    let amount = c.number_in-amount.ensures.value ∙ ap (λ w. number_in w tens) (c.the_value.ensures bytes) in
    c.gives_by.ensures.value bytes
    ∙ ap (λ m. gives_by OutputDelay m (option_map (names_at bytes) c.the_ports.result)) amount
    ∙ ap (gives_by OutputDelay (number_in (the_value ps) tens)) (c.the_ports.ensures.value bytes)
