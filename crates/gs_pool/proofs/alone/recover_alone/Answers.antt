use Rattle.std.proofs.Common.{◌≡◌, ◌<◌, length, refl, ◌∙◌, ap, subst, arith}
use Rattle.gs_move.specs.Alone.{after_round, sweep_of}
use Rattle.gs_move.specs.Legal.{IsLegal}
use Rattle.gs_pool.proofs.SettleLaws.{entries_are, same_budget, step_on, still_same}
use Rattle.gs_pool.proofs.TurnLaws.{Earns, GoesOn, earned_on, grown_round, minimum_at, run_on, same_design, same_legal, same_sweep, spent_is_other}
use Rattle.gs_pool.proofs.alone.recover_alone.Goals as goal

pub returns-then-len-eq0-clause-settled : goal.returns-then-len-eq0-clause-settled
returns-then-len-eq0-clause-settled g c =
    let none : length c.in_ok-moves.moves.items ≡ 0 = omega (arith, c.len.ensures, c.if-len-eq0.true) in (
      λ e. (minimum_at g.J.Judge.answers c.args.book c.loop-book.book c.loop-book.invariant.same c.design.result.now c.design.ensures c.minimum_is_none_fair.ensures.none c.in_ok-moves.moves.items c.in_ok-moves.ensures.fair).0 none,
      λ m. refl,
    )

pub returns-then-entries-budget-clause-settled : goal.returns-then-entries-budget-clause-settled
returns-then-entries-budget-clause-settled g c = (
  λ e. absurd (spent_is_other e),
  λ m. absurd (
      let none : length c.in_ok-moves.moves.items ≡ 0 =
      (minimum_at g.J.Judge.answers c.args.book c.loop-book.book c.loop-book.invariant.same c.design.result.now c.design.ensures c.minimum_is_none_fair.ensures.none c.in_ok-moves.moves.items c.in_ok-moves.ensures.fair).1 m in
      omega (arith, none, c.len.ensures, c.if-len-eq0.false)),
)

pub loop-book-preserved : goal.loop-book-preserved
loop-book-preserved g c =
    let answers = g.J.Judge.answers in
    let b = c.args.book in
    let old = c.loop-book.book in
    let new = c.run_round.new.book in
    let same = c.loop-book.invariant.same in
    let J = answers b.judge in
    let made = step_on answers b old new (λ J d s budget xs. after_round J d s budget xs c.as_slice.result.now) same c.in_ok-run_round.ensures in
    let swept : c.in_ok-moves.moves.items ≡ sweep_of J b.design b.start old.entries = same_sweep answers b old same c.in_ok-moves.moves.items c.in_ok-moves.ensures.fair in
    let is : new.entries ≡ after_round J b.design b.start b.budget old.entries (sweep_of J b.design b.start old.entries) =
    entries_are answers b new (after_round J b.design b.start b.budget old.entries c.as_slice.result.now) made
    ∙ ap (λ ms. after_round J b.design b.start b.budget old.entries ms) (c.as_slice.ensures.value ∙ swept) in
    let legal : IsLegal J b.design b.start b.budget old.entries =
    same_legal answers b old same (subst (λ es. IsLegal (answers old.judge) old.design old.start old.budget es) refl c.entries.ensures.legal) in
    let few : length old.entries < b.budget =
    (let at_most = legal.few in let apart = c.if-entries-budget.false in let listed = ap length c.entries.ensures.value in let limit = c.budget.ensures in let kept = same_budget answers b old same in omega (arith, at_most, apart, listed, limit, kept)) in
    let some : 0 < length (sweep_of J b.design b.start old.entries) =
    (let apart = c.if-len-eq0.false in let count = c.len.ensures in let all = ap length swept in omega (arith, apart, count, all)) in
    let design = same_design answers b old same c.design-in-loop-book.result.now c.design-in-loop-book.ensures in
    record {
      same = still_same answers b new (after_round J b.design b.start b.budget old.entries c.as_slice.result.now) made;
      run = run_on J b.design b.start b.budget old.entries new.entries legal some few is (subst GoesOn design c.recovery_goes_on.ensures.goes_on) ∙ c.loop-book.invariant.run;
      grown = grown_round J b.design b.start b.budget old.entries new.entries legal some few is b.entries c.loop-book.invariant.grown;
      earned = λ n h. earned_on J b.design b.start b.budget old.entries new.entries legal some few is (subst Earns design c.recovery_goes_on.ensures.earned) n (c.loop-book.invariant.earned n h);
    }
