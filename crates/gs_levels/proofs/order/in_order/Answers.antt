use Rattle.std.proofs.Common.{◌≡◌, map, take, ap, ◌∙◌, arith}
use Rattle.std.proofs.lemmas.List.{take_all}
use Rattle.gs_levels.specs.Order.{node_of}
use Rattle.gs_levels.proofs.OrderLaws.{sorted_order}
use Rattle.gs_levels.proofs.order.in_order.Goals as goal

-- the nodes of the sorted list
pub returns : goal.returns
returns c =
    let whole : take c.loop-place.place-index c.deref-place-items.result.now ≡ c.deref-place-items.result.now = take_all c.loop-place.place-index c.deref-place-items.result.now (omega arith) in
    let nodes : c.loop-place.order.items ≡ map node_of c.sort.new.self.items = c.loop-place.invariant ∙ ap (map node_of) (whole ∙ c.deref-place-items.ensures.value) in
    rw nodes (sorted_order c.args.level.now c.sort.new.self.items (rw c.in_ok-all.ensures at c.in_ok-sort.ensures.permutation) c.in_ok-sort.ensures.sorted)
