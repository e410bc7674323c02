use Rattle.std.proofs.Common.{◌≡◌, ◌<◌, ◌+◌, length, slice_index, arith, sym, ◌∙◌, ap}
use Rattle.std.proofs.lemmas.Grind.{get_or_default_zero}
use Rattle.std.proofs.lemmas.List.{length-set}
use Rattle.gs_levels.specs.Graph.{edge_at}
use Rattle.gs_levels.proofs.IncomingLaws.{all_more, before_more}
use Rattle.gs_levels.proofs.incoming.find_incoming.Goals as goal

-- one more edge
pub loop-place-preserved : goal.loop-place-preserved
loop-place-preserved c =
    let many : length c.loop-place.all.items ≡ c.args.nodes = c.loop-place.invariant.each_node in
    let into : (edge_at c.args.edges.now c.loop-place.place).to ≡ c.edge_of-node.result.to = ap (λ e. e.to) (sym c.edge_of-node.ensures) in
    let node_inside : c.edge_of-node.result.to < c.args.nodes = rw (← into) ((c.requires c.loop-place.place (omega arith)).1) in
    let inside : c.edge_of-node.result.to < length c.loop-place.all.items = omega arith in
    let read : c.index.result.now ≡ slice_index c.loop-place.all.items c.edge_of-node.result.to = c.index.ensures ∙ get_or_default_zero c.loop-place.all.items c.edge_of-node.result.to c.index.result.now inside in
    record {
      each_node = length-set c.loop-place.all.items c.edge_of-node.result.to (c.loop-place.place + 1) ∙ many;
      each_edge = omega (arith, c.in_ok-push.ensures.len, c.loop-place.invariant.each_edge);
      all_in = λ n ln. all_more c.args.edges.now c.loop-place.all.items c.loop-place.place c.edge_of-node.result.to into inside
          (λ m lm. c.loop-place.invariant.all_in m (omega arith)) n (omega arith);
      before_in = rw (c.in_ok-push.ensures.items, read)
          (before_more c.args.edges.now c.loop-place.before.items c.loop-place.place (slice_index c.loop-place.all.items c.edge_of-node.result.to)
          c.loop-place.invariant.each_edge (rw into (c.loop-place.invariant.all_in c.edge_of-node.result.to node_inside)) c.loop-place.invariant.before_in);
    }
