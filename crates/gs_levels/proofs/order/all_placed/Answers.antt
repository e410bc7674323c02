use Rattle.std.proofs.Common.{◌++◌, ◌∷◌, [], arith, ap, ◌∙◌, sym}
use Rattle.std.proofs.lemmas.List.FromFn.{map-range_with_len_more}
use Rattle.gs_levels.specs.Order.{placed_at}
use Rattle.gs_levels.proofs.order.all_placed.Goals as goal

-- one more node
pub loop-node-preserved : goal.loop-node-preserved
loop-node-preserved c =
    c.in_ok-push.ensures.items ∙ ap (λ xs. xs ++ placed_at c.args.level.now c.loop-node.node ∷ []) c.loop-node.invariant
    ∙ sym (map-range_with_len_more (placed_at c.args.level.now) 0 c.loop-node.node c.loop-node.node (omega arith))
