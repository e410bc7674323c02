use Rattle.std.proofs.Common.{◌++◌, filter_map, length, ◌∙◌, ap}
use Rattle.gs_limits.specs.Kinds.{of_kind, violation_if}
use Rattle.gs_limits.specs.declared.kind.Kind.TheVariants.{Setups, Slews, Loads}
use Rattle.gs_limits.proofs.KindLaws.{found}
use Rattle.gs_limits.proofs.unmet.violations.Goals as goal

pub returns : goal.returns
returns c =
    let one = violation_if c.args.design.now c.args.timing.now in
    c.in_ok-add_kind-3.ensures
    ∙ ap (λ vs. vs ++ filter_map one (of_kind Loads (length c.args.design.now.nets)))
    (c.in_ok-add_kind-2.ensures
    ∙ ap (λ vs. vs ++ filter_map one (of_kind Slews (length c.args.design.now.nets)))
    (c.in_ok-add_kind.ensures
    ∙ ap (λ vs. vs ++ filter_map one (of_kind Setups (length c.args.design.now.ends))) c.new-found.ensures.items))
    ∙ found c.args.design.now c.args.timing.now
