use Rattle.std.proofs.Common.{◌≡◌, ◌∙◌, refl, map}
use Rattle.std.specs.Option.{option_map}
use Rattle.gs_sdc.specs.Command.{the_word, transition_in}
use Rattle.gs_sdc.specs.Reads.{part_of}
use Rattle.gs_sdc.specs.declared.parts.Choice.TheVariants.{Rise, Fall}
use Rattle.gs_sdc.proofs.PartReads.{drives_same}
use Rattle.gs_sdc.proofs.reading.driving_cell.Goals as goal

pub returns-clause-value : goal.returns-clause-value
returns-clause-value c = λ bytes.
    c.drives_by.ensures.value bytes
    ∙ drives_same (map (part_of bytes) c.args.parts.now) c.args.units.time_tens _ _ _ _ _ _ _ (c.the_word-cell.ensures bytes) (c.the_word-pin.ensures bytes)
    (c.the_word-rise_word.ensures bytes) c.transition_in-rise.ensures.value (c.the_word-fall_word.ensures bytes) c.transition_in-fall.ensures.value (c.the_ports.ensures.value bytes)
