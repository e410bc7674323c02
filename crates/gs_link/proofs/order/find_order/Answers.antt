use Rattle.std.proofs.Common.{subst, sym}
use Rattle.gs_levels.specs.Graph.{IsWithin}
use Rattle.gs_link.proofs.SiteLaws.{within_of}
use Rattle.gs_link.proofs.order.find_order.Goals as goal

pub invariant_of-graph : goal.invariant_of-graph
invariant_of-graph c = record {
  inside = subst (IsWithin c.args.nets) (sym c.in_ok-edges.ensures) (within_of c.args.cells.now c.args.insts.now c.args.nets c.requires.inside);
}
