use Rattle.std.proofs.Common.{sym, ◌∙◌, arith}
use Rattle.gs_lagrange.proofs.SourceLaws.{found_arc, found_none, passed_arc}
use Rattle.gs_lagrange.proofs.source.cell_source.Goals as goal

pub loop-arc-preserved : goal.loop-arc-preserved
loop-arc-preserved c =
    passed_arc c.args.timing.now c.args.inputs.now c.args.made.now.load c.args.made.now.rise c.args.made.now.arrival c.args.arcs.now c.loop-arc.arc-index c.arc-item.result
    c.loop-arc-test.true c.arc-item.is c.loop-arc.invariant (sym c.arc_source.ensures ∙ c.in-None.is)

pub returns-in-Some : goal.returns-in-Some
returns-in-Some c =
    found_arc c.args.timing.now c.args.inputs.now c.args.made.now.load c.args.made.now.rise c.args.made.now.arrival c.args.arcs.now c.loop-arc.arc-index c.arc-item.result
    c.loop-arc-test.true c.arc-item.is c.loop-arc.invariant c.in-Some.edge (sym c.arc_source.ensures ∙ c.in-Some.is)

pub returns : goal.returns
returns c =
    found_none c.args.timing.now c.args.inputs.now c.args.made.now.load c.args.made.now.rise c.args.made.now.arrival c.args.arcs.now c.loop-arc.arc-index
    (omega (arith, c.loop-arc-test.false)) c.loop-arc.invariant
