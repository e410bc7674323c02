use Rattle.std.proofs.Common.{◌∙◌, sym, true, false}
use Rattle.gs_locate.proofs.Searching.{opens_on}
use Rattle.gs_locate.proofs.group.opens_group.Goals as goal

pub returns-then-is_mark : goal.returns-then-is_mark
returns-then-is_mark c =
    c.is_mark-then-is_mark.ensures
    ∙ sym (opens_on c.args.bytes.now c.args.pieces.now c.loop-at.at true c.loop-at-test.true (sym c.is_mark.ensures ∙ c.if-is_mark.true))
    ∙ c.loop-at.invariant

pub loop-at-preserved : goal.loop-at-preserved
loop-at-preserved c =
    sym (opens_on c.args.bytes.now c.args.pieces.now c.loop-at.at false c.loop-at-test.true (sym c.is_mark.ensures ∙ c.if-is_mark.false)) ∙ c.loop-at.invariant
