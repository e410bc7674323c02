use Rattle.std.proofs.Common.{length, slice_index, ◌∙◌, ap}
use Rattle.std.proofs.lemmas.List.FromFn.{length-map-range_with_len}
use Rattle.gs_lagrange.specs.Multiplier.{lateness_of, raised}
use Rattle.gs_lagrange.proofs.StartLaws.{state_is}
use Rattle.gs_lagrange.proofs.pass.after_pass.Goals as goal

pub raised_all-requires-clause-late : goal.raised_all-requires-clause-late
raised_all-requires-clause-late g c =
    let x = c.args.state.now in
    λ n lt. c.arrivals_are_small.ensures x.sizes x.timing n c.requires.kept.timed.fit c.requires.kept.timed.timing lt

pub returns-clause-value : goal.returns-clause-value
returns-clause-value g c =
    let d = c.args.design.now in
    state_is d c.args.state.now c.in_ok-sizes.sizes c.in_ok-multipliers.multipliers c.state_with.result c.in_ok-sizes.ensures.value c.in_ok-multipliers.ensures.value c.state_with.ensures.value

pub state_with-requires-clause-many : goal.state_with-requires-clause-many
state_with-requires-clause-many g c =
    let x = c.args.state.now in
    ap length c.in_ok-multipliers.ensures.value
    ∙ length-map-range_with_len (λ e. raised (slice_index x.multipliers e) (lateness_of c.args.design.now x.timing e)) 0 (length c.args.design.now.ends)
