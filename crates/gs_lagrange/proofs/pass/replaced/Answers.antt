use Rattle.std.proofs.Common.{◌≡◌, sym, subst}
use Rattle.std.proofs.lemmas.Result.{IfOk-weaker}
use Rattle.gs_design.specs.Sizes.{FitSizes}
use Rattle.gs_lagrange.specs.Flow.{weight_in}
use Rattle.gs_lagrange.specs.Place.{places_for}
use Rattle.gs_lagrange.proofs.PlaceLaws.{places_fit}
use Rattle.gs_lagrange.proofs.pass.replaced.Goals as goal

pub returns-clause-value : goal.returns-clause-value
returns-clause-value g c = rw (← c.weighed.ensures.design, ← c.weighed.ensures.sizes, ← c.weighed.ensures.timing, ← c.weighed.ensures.flows) c.places_for.ensures

pub returns-clause-fit : goal.returns-clause-fit
returns-clause-fit g c =
    let w = c.weighed.result in
    IfOk-weaker c.places_for.result (λ s. s ≡ places_for w.design.now w.sizes.now w.timing.now (weight_in w.flows.now)) (λ s. FitSizes c.args.design.now s)
    (λ s is. subst (λ d. FitSizes d s) c.weighed.ensures.design (subst (FitSizes w.design.now) (sym is) (places_fit w.design.now w.sizes.now w.timing.now (weight_in w.flows.now) w.timed.fit)))
    c.places_for.ensures
