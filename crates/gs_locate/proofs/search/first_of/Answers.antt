use Rattle.std.proofs.Common.{refl, arith}
use Rattle.gs_locate.specs.Found.{passes}
use Rattle.gs_locate.specs.Statement.{start_of}
use Rattle.gs_locate.proofs.Searching.{fails_at, none_past, starts}
use Rattle.gs_locate.proofs.search.first_of.Goals as goal

pub loop-at-init : goal.loop-at-init
loop-at-init g c = record { start = refl; within = omega arith; inside = omega arith; before = λ k lt. absurd (omega (arith, lt)) }

pub loop-at-preserved : goal.loop-at-preserved
loop-at-preserved g c =
    let style = c.args.style in
    let bytes = c.args.bytes.now in
    let ps = c.args.pieces.now in
    let at = c.loop-at.at in
    let test = passes (g.S.Sought.test c.args.sought.now) style bytes ps in
    record {
      start = starts style bytes ps at c.loop-at.start c.start_past-start.result c.loop-at.invariant.start c.start_past-start.ensures.value;
      within = c.start_past-start.ensures.within;
      inside = omega (arith, c.loop-at-test.true);
      before = none_past test at c.loop-at.invariant.before
          (fails_at (λ s. g.S.Sought.test c.args.sought.now bytes ps s at) c.loop-at.start (start_of style bytes ps at) c.is_at.result c.loop-at.invariant.start c.is_at.ensures c.if-is_at.false);
    }
