use Rattle.std.proofs.Common.{◌∙◌, sym, true, false}
use Rattle.gs_locate.proofs.Searching.{arg_ends, arg_on}
use Rattle.gs_locate.proofs.group.has_arg.Goals as goal

pub returns-then-is_mark : goal.returns-then-is_mark
returns-then-is_mark c =
    sym (arg_ends c.args.name.now c.args.bytes.now c.args.pieces.now c.loop-at.at c.loop-at-test.true (sym c.is_mark.ensures ∙ c.if-is_mark.true)) ∙ c.loop-at.invariant

pub returns-then-is_name : goal.returns-then-is_name
returns-then-is_name c =
    sym (arg_on c.args.name.now c.args.bytes.now c.args.pieces.now c.loop-at.at false true c.loop-at-test.true (sym c.is_mark.ensures ∙ c.if-is_mark.false) (sym c.is_name.ensures ∙ c.if-is_name.true))
    ∙ c.loop-at.invariant

pub loop-at-preserved : goal.loop-at-preserved
loop-at-preserved c =
    sym (arg_on c.args.name.now c.args.bytes.now c.args.pieces.now c.loop-at.at false false c.loop-at-test.true (sym c.is_mark.ensures ∙ c.if-is_mark.false) (sym c.is_name.ensures ∙ c.if-is_name.false))
    ∙ c.loop-at.invariant
