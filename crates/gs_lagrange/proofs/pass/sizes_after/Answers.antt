use Rattle.std.proofs.Common.{◌≡◌, ◌∙◌}
use Rattle.std.proofs.lemmas.Result.{IfOk-weaker}
use Rattle.gs_lagrange.specs.Flow.{weight_in}
use Rattle.gs_lagrange.specs.Place.{places_for}
use Rattle.gs_lagrange.specs.Weight.{weight_of}
use Rattle.gs_lagrange.proofs.PlaceLaws.{same_places}
use Rattle.gs_lagrange.proofs.pass.sizes_after.Goals as goal

pub returns-clause-value : goal.returns-clause-value
returns-clause-value g c =
    let d = c.args.design.now in
    let x = c.args.state.now in
    IfOk-weaker c.replaced.result (λ s. s ≡ places_for d x.sizes x.timing (weight_in c.weigh.new.flows)) (λ s. s ≡ places_for d x.sizes x.timing (weight_of d x.sizes x.timing x.multipliers))
    (λ s is. is ∙ same_places d x.sizes x.timing (weight_in c.weigh.new.flows) (weight_of d x.sizes x.timing x.multipliers) c.weigh.ensures.weights)
    c.replaced.ensures.value
