use Rattle.std.proofs.Common.{◌≡◌, ◌∙◌, ◌<◌, Some, ap, length}
use Rattle.gs_design.specs.declared.sink.Driver.TheVariants.{Port}
use Rattle.gs_timing.proofs.EvalLaws.{port_record}
use Rattle.gs_timing.proofs.eval.eval_port.Goals as goal

pub returns-clause-value : goal.returns-clause-value
returns-clause-value g c = λ t.
    c.record_of.ensures
    ∙ port_record c.args.design.now (g.S.SizeView.places c.args.sizes.now) t c.args.net c.args.delay c.args.cell.now
    c.hung_on-hung.result.load c.hung_on-hung.result.slew_bound c.port_best-best.result.rise c.port_best-best.result.fall
    c.requires.driver c.hung_on-hung.ensures.load c.hung_on-hung.ensures.slew_bound
    (c.port_best-best.ensures.rise (g.S.SizeView.places c.args.sizes.now) t) (c.port_best-best.ensures.fall (g.S.SizeView.places c.args.sizes.now) t)

pub port_best-best-requires-clause-cell : goal.port_best-best-requires-clause-cell
port_best-best-requires-clause-cell g c = λ driven e.
    ((c.args.design.now.well.nets_kept c.args.net c.requires.net).driven c.args.delay driven (c.requires.driver ∙ ap (Port c.args.delay) e)).cell_in
