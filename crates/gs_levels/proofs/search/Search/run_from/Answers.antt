use Rattle.std.proofs.Common.{◌≡◌, slice_index, arith}
use Rattle.gs_levels.specs.declared.progress.Progress.TheVariants.{Fresh}
use Rattle.gs_levels.specs.Progress.{progress_at}
use Rattle.gs_levels.proofs.SearchLaws.{begun, begun_stays, is_fresh-true, root_begun}
use Rattle.gs_levels.proofs.search.Search.run_from.Goals as goal

-- the root stands alone on the stack
pub loop-self-init : goal.loop-self-init
loop-self-init c =
    let fresh : progress_at c.args.self.now.progress.items c.args.root ≡ Fresh = is_fresh-true (progress_at c.args.self.now.progress.items c.args.root) c.requires.fresh in
    record {
      kept = rw (c.in_ok-begin.ensures.progress, c.begin.ensures.level, c.in_ok-begin.ensures.stack)
          (begun c.args.nodes c.args.edges.now c.args.self.now.progress.items c.args.self.now.level.items c.args.self.now.stack.items c.requires.search
          c.args.root (slice_index c.args.incoming.now.all.items c.args.root) c.requires.root fresh
          (c.requires.incoming.all_in c.args.root c.requires.root) (λ k at_end. absurd (omega arith)));
      begun = rw c.in_ok-begin.ensures.progress
          (begun_stays c.args.nodes c.args.edges.now c.args.self.now.progress.items c.args.self.now.level.items c.args.self.now.stack.items c.requires.search
          c.args.root (slice_index c.args.incoming.now.all.items c.args.root) c.requires.root fresh
          (c.requires.incoming.all_in c.args.root c.requires.root) (λ k at_end. absurd (omega arith)));
      root = rw c.in_ok-begin.ensures.progress (root_begun c.args.self.now.progress.items c.args.root (slice_index c.args.incoming.now.all.items c.args.root) (omega (arith, c.requires.search.each_progress)));
    }
