use Rattle.std.proofs.Common.{◌≡◌, drop, length}
use Rattle.gs_move.specs.Alone.{after_round}
use Rattle.gs_pool.proofs.round.run_round.Given as goal

abbrev pub invariant-loop-mv : goal.invariant-loop-mv
invariant-loop-mv g l =
    let J = g.J.Judge.answers l.fn.book.judge in
    let b = l.fn.book in
    record {
      run : after_round J b.design b.start b.budget l.book.entries (drop l.mv-index l.moves) ≡ after_round J b.design b.start b.budget b.entries l.moves;
      nets : l.scratch.nets ≡ length b.design.nets;
      same : l.book ≡ record b { entries = l.book.entries; spare = l.book.spare };
    }
