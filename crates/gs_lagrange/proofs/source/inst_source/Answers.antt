use Rattle.std.proofs.Common.{slice_index_or}
use Rattle.gs_design.specs.Insts.{inst_at}
use Rattle.gs_design.specs.Times.{time_at}
use Rattle.gs_timing.specs.Calm.{IsCalm}
use Rattle.gs_lagrange.proofs.PriceLaws.{calm_by}
use Rattle.gs_lagrange.proofs.SourceLaws.{reads}
use Rattle.gs_lagrange.proofs.source.inst_source.Goals as goal

pub cell_source-requires-clause-calm : goal.cell_source-requires-clause-calm
cell_source-requires-clause-calm c =
    let d = c.args.design.now in
    let s = c.args.sizes.now in
    let t = c.args.timing.now in
    let g = c.args.inst in
    let inputs = (inst_at c.args.design.now.insts c.args.inst).inputs in
    let calm = reads d s c.requires.timed.fit g c.requires.inst (λ m. IsCalm (time_at t m))
    (λ gate k e kt. calm_by (time_at t (slice_index_or inputs k e))
    (c.arrivals_are_small.ensures s t (slice_index_or inputs k e) c.requires.timed.fit c.requires.timed.timing (d.well.inputs_in g c.requires.inst k e kt))) in
    rw (c.arcs.ensures, c.cell-cell.ensures, c.place.ensures, c.inputs.ensures) calm
