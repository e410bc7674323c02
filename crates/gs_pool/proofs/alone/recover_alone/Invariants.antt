use Rattle.std.proofs.Common.{◌≡◌, ℕ, ◌-◌, length}
use Rattle.gs_move.specs.Alone.{alone_from}
use Rattle.gs_move.specs.Earned.{IsEarned}
use Rattle.gs_pool.proofs.GrowLaws.{IsGrown}
use Rattle.gs_pool.proofs.alone.recover_alone.Given as goal

abbrev pub invariant-loop-book : goal.invariant-loop-book
invariant-loop-book g l =
    let b = l.fn.book in
    let J = g.J.Judge.answers b.judge in
    record {
      same : l.book ≡ record b { entries = l.book.entries; spare = l.book.spare };
      run : alone_from J b.design b.start b.budget l.book.entries ≡ alone_from J b.design b.start b.budget b.entries;
      grown : IsGrown b.entries l.book.entries;
      earned : (n : ℕ) → IsEarned J b.design b.start b.entries n → IsEarned J b.design b.start l.book.entries n;
    }

abbrev pub decreases-loop-book : goal.decreases-loop-book
decreases-loop-book g l = l.book.budget - length l.book.entries
