use Rattle.std.proofs.Common.{◌≡◌, sym, ◌∙◌, ap, arith}
use Rattle.gs_levels.specs.declared.progress.Progress.TheVariants.{Open}
use Rattle.gs_levels.specs.Progress.{progress_at}
use Rattle.gs_levels.proofs.SearchLaws.{finished}
use Rattle.gs_levels.proofs.search.Search.step.Goals as goal

-- the node on top has no edge ahead
pub returns-else-left-gt0-clause-kept : goal.returns-else-left-gt0-clause-kept
returns-else-left-gt0-clause-kept c =
    let none : c.in-Open.left ≡ 0 = omega arith in
    let spent : progress_at c.args.self.now.progress.items c.last-node.result ≡ Open 0 = sym c.progress_of.ensures ∙ c.in-Open.is ∙ ap Open none in
    rw (c.finish.ensures.progress, c.finish.ensures.level, c.finish.ensures.stack)
    (finished c.args.nodes c.args.edges.now c.args.self.now.progress.items c.args.self.now.level.items c.args.self.now.stack.items
    c.requires.search c.last-node.result c.requires.some c.last-node.ensures spent)
