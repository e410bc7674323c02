use Rattle.std.proofs.Common.{◌∙◌, ap, map, sym}
use Rattle.gs_sdc.specs.Command.{meaning, passes_by}
use Rattle.gs_sdc.specs.Reads.{part_of}
use Rattle.gs_sdc.specs.declared.command.Command.{Command}
use Rattle.gs_sdc.proofs.reading.meaning.Goals as goal

pub returns-in-Version-clause-value : goal.returns-in-Version-clause-value
returns-in-Version-clause-value c = λ bytes.
    c.passes_by.ensures.value bytes ∙ ap passes_by (c.the_value.ensures bytes) ∙ ap (λ (k : Command). meaning c.args.units k (map (part_of bytes) c.args.parts.now)) (sym c.in-Version.is)

pub returns-in-Design-clause-value : goal.returns-in-Design-clause-value
returns-in-Design-clause-value c = λ bytes.
    c.passes_by-in-Design.ensures.value bytes ∙ ap passes_by (c.the_value-in-Design.ensures bytes) ∙ ap (λ (k : Command). meaning c.args.units k (map (part_of bytes) c.args.parts.now)) (sym c.in-Design.is)

pub returns-in-Clock-clause-value : goal.returns-in-Clock-clause-value
returns-in-Clock-clause-value c = λ bytes.
    c.clock.ensures.value bytes ∙ ap (λ (k : Command). meaning c.args.units k (map (part_of bytes) c.args.parts.now)) (sym c.in-Clock.is)

pub returns-in-InputDelay-clause-value : goal.returns-in-InputDelay-clause-value
returns-in-InputDelay-clause-value c = λ bytes.
    c.input_delay.ensures.value bytes ∙ ap (λ (k : Command). meaning c.args.units k (map (part_of bytes) c.args.parts.now)) (sym c.in-InputDelay.is)

pub returns-in-OutputDelay-clause-value : goal.returns-in-OutputDelay-clause-value
returns-in-OutputDelay-clause-value c = λ bytes.
    c.output_delay.ensures.value bytes ∙ ap (λ (k : Command). meaning c.args.units k (map (part_of bytes) c.args.parts.now)) (sym c.in-OutputDelay.is)

pub returns-in-DrivingCell-clause-value : goal.returns-in-DrivingCell-clause-value
returns-in-DrivingCell-clause-value c = λ bytes.
    c.driving_cell.ensures.value bytes ∙ ap (λ (k : Command). meaning c.args.units k (map (part_of bytes) c.args.parts.now)) (sym c.in-DrivingCell.is)

pub returns-in-Load-clause-value : goal.returns-in-Load-clause-value
returns-in-Load-clause-value c = λ bytes.
    c.port_load.ensures.value bytes ∙ ap (λ (k : Command). meaning c.args.units k (map (part_of bytes) c.args.parts.now)) (sym c.in-Load.is)

pub returns-in-Version-clause-inside : goal.returns-in-Version-clause-inside
returns-in-Version-clause-inside c = λ bytes h. c.passes_by.ensures.inside bytes

pub returns-in-Design-clause-inside : goal.returns-in-Design-clause-inside
returns-in-Design-clause-inside c = λ bytes h. c.passes_by-in-Design.ensures.inside bytes
