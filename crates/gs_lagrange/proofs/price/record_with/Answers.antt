use Rattle.gs_lagrange.proofs.PriceLaws.{calm_at, fit_moved}
use Rattle.gs_lagrange.proofs.price.record_with.Goals as goal

pub evaluated-requires-clause-calm : goal.evaluated-requires-clause-calm
evaluated-requires-clause-calm c =
    let w = c.args.weighed.now in
    calm_at w.design.now w.timing.now c.args.net (λ m lt. c.arrivals_are_small.ensures w.sizes.now w.timing.now m w.timed.fit w.timed.timing lt) c.requires.net

pub evaluated-requires-clause-sizes : goal.evaluated-requires-clause-sizes
evaluated-requires-clause-sizes c =
    let w = c.args.weighed.now in
    fit_moved w.design.now w.sizes.now c.args.inst c.args.place w.timed.fit c.requires.inst c.requires.place
