use Rattle.std.proofs.Common.{sym, ◌∙◌, arith}
use Rattle.gs_lagrange.proofs.SourceLaws.{comes_lower}
use Rattle.gs_lagrange.proofs.weigh.carry.Goals as goal

pub add-requires-clause-net : goal.add-requires-clause-net
add-requires-clause-net c =
    let lower = comes_lower c.args.design.now c.args.sizes.now c.args.timing.now c.requires.timed.fit c.args.edge.now c.in-Some.source (sym c.came_from.ensures ∙ c.in-Some.is) in
    omega (arith, lower.1, c.requires.as_many)
