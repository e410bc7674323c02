use Rattle.std.proofs.Common.{◌∙◌, ap, map}
use Rattle.std.specs.Option.{option_map}
use Rattle.gs_sdc.specs.Command.{above_zero, clocks_by, number_in, the_word}
use Rattle.gs_sdc.specs.Reads.{names_at, part_of}
use Rattle.gs_sdc.specs.declared.parts.Choice.TheVariants.{Period}
use Rattle.gs_sdc.proofs.reading.clock.Goals as goal

pub returns-clause-value : goal.returns-clause-value
returns-clause-value c = λ bytes.
    let ps = map (part_of bytes) c.args.parts.now in
    let tens = c.args.units.time_tens in
    let period = c.above_zero.ensures.value ∙ ap above_zero (c.number_in-number.ensures.value ∙ ap (λ w. number_in w tens) (c.the_word.ensures bytes)) in
    c.clocks_by.ensures.value bytes
    ∙ ap (λ p. clocks_by p (option_map (names_at bytes) c.the_ports.result)) period
    ∙ ap (clocks_by (above_zero (number_in (the_word Period ps) tens))) (c.the_ports.ensures.value bytes)
