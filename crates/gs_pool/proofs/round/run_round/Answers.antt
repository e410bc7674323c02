use Rattle.std.proofs.Common.{length, sym, ◌∙◌, ap}
use Rattle.gs_move.specs.Alone.{after_move}
use Rattle.gs_pool.proofs.SettleLaws.{entries_are, round_on, same_budget, step_on, still_same}
use Rattle.gs_pool.proofs.round.run_round.Goals as goal

pub settle_move-requires-clause-nets : goal.settle_move-requires-clause-nets
settle_move-requires-clause-nets g c κs within = c.loop-mv.invariant.nets ∙ ap (λ b. length b.design.nets) (sym c.loop-mv.invariant.same)

pub loop-mv-preserved : goal.loop-mv-preserved
loop-mv-preserved g c =
    let answers = g.J.Judge.answers in
    let b = c.args.book.now in
    let es = c.loop-mv.book.entries in
    let m = c.mv-item.result in
    let made = step_on answers b c.loop-mv.book c.settle_move.new.book (λ J d s budget xs. after_move J d s budget xs m) c.loop-mv.invariant.same c.in_ok-settle_move.ensures.book in
    record {
      run = round_on (answers b.judge) b.design b.start b.budget es c.settle_move.new.book.entries c.args.moves.now c.loop-mv.mv-index m c.mv-item.is c.loop-mv-test.true
          (λ e. c.if-entries-budget.false (ap length c.entries.ensures.value ∙ e ∙ sym (c.budget.ensures ∙ same_budget answers b c.loop-mv.book c.loop-mv.invariant.same)))
          (entries_are answers b c.settle_move.new.book (after_move (answers b.judge) b.design b.start b.budget es m) made)
          ∙ c.loop-mv.invariant.run;
      nets = c.settle_move.ensures.nets ∙ c.loop-mv.invariant.nets;
      same = still_same answers b c.settle_move.new.book (after_move (answers b.judge) b.design b.start b.budget es m) made;
    }
