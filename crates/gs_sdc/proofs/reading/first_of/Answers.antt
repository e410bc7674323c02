use Rattle.std.proofs.Common.{◌∙◌, sym, ap}
use Rattle.gs_sdc.specs.Command.{same_slot}
use Rattle.gs_sdc.proofs.PartReads.{first_here, first_none, first_turn}
use Rattle.gs_sdc.proofs.reading.first_of.Goals as goal

pub loop-part-preserved : goal.loop-part-preserved
loop-part-preserved c = λ bytes.
    first_turn c.args.slot c.args.parts.now c.loop-part.part-index _ c.loop-part-test.true
    (ap (same_slot c.args.slot) (sym c.slot.ensures) ∙ sym c.is.ensures ∙ c.if-is.false) bytes
    ∙ c.loop-part.invariant bytes

pub returns-then-is-clause-value : goal.returns-then-is-clause-value
returns-then-is-clause-value c = λ bytes.
    first_here c.args.slot c.args.parts.now c.loop-part.part-index _ c.loop-part-test.true
    (ap (same_slot c.args.slot) (sym c.slot.ensures) ∙ sym c.is.ensures ∙ c.if-is.true) bytes
    ∙ c.loop-part.invariant bytes

pub returns-clause-value : goal.returns-clause-value
returns-clause-value c = λ bytes.
    first_none c.args.slot c.args.parts.now c.loop-part.part-index c.loop-part-test.false bytes ∙ c.loop-part.invariant bytes
