use Rattle.std.proofs.Common.{◌≡◌, ◌∙◌}
use Rattle.gs_timing.proofs.EvalLaws.{inst_record}
use Rattle.gs_timing.proofs.eval.eval_inst.Goals as goal

pub returns-clause-value : goal.returns-clause-value
returns-clause-value g c =
    c.record_of.ensures
    ∙ inst_record c.args.design.now (g.S.SizeView.places c.args.sizes.now) (g.T.TimeView.times c.args.times.now) c.args.net c.args.inst c.chosen-cell.result c.output-out.result.now
    c.hung_on-hung.result.load c.hung_on-hung.result.slew_bound c.inputs.result.now c.arcs.result.now c.instance_best-best.result.rise c.instance_best-best.result.fall
    c.requires.driver c.chosen-cell.ensures.value c.output-out.ensures c.hung_on-hung.ensures.load c.hung_on-hung.ensures.slew_bound c.inputs.ensures c.arcs.ensures
    c.instance_best-best.ensures.rise c.instance_best-best.ensures.fall
