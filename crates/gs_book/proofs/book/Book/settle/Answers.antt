use Rattle.std.proofs.Common.{◌≡◌, ◌≤◌, ◌∙◌, ℕ, List, length, sym, refl, arith}
use Rattle.std.specs.Arc.{arc_value}
use Rattle.gs_move.specs.Entries.{commits_of}
use Rattle.gs_book.proofs.NotedLaws.{spot_in}
use Rattle.gs_book.proofs.SettleLaws.{committed_answer, delta_now, known_answer, move_now, none_later, rejected_answer, spent_answer, stale_answer}
use Rattle.gs_book.proofs.book.Book.settle.Goals as goal

pub returns-then-settled-self-clause-answer : goal.returns-then-settled-self-clause-answer
returns-then-settled-self-clause-answer g c =
    let trial = rw (← c.self.view_is) at c.requires.trial in
    let entries : c.len-settled.result ≡ length c.self.inside.entries.items = omega (arith, c.len-settled.ensures) in
    rw (← c.self.view_is) (spent_answer _ _ _ _ _ _ _ _ _ _ c.self.invariant c.args.trial trial _ _ entries refl c.if-settled-self.true)

pub returns-then-trial-commits-clause-answer : goal.returns-then-trial-commits-clause-answer
returns-then-trial-commits-clause-answer g c =
    let trial = rw (← c.self.view_is) at c.requires.trial in
    let entries : c.len-settled.result ≡ length c.self.inside.entries.items = omega (arith, c.len-settled.ensures) in
    let journals : c.len-commits.result ≡ length c.self.inside.journal.items = omega (arith, c.len-commits.ensures) in
    let inst = rw (c.as_slice.ensures.value) at c.last_moved.ensures in
    rw (← c.self.view_is) (stale_answer _ _ _ _ _ _ _ _ _ _ c.self.invariant c.args.trial trial _ _ entries journals c.if-settled-self.false c.if-trial-commits.true c.last_moved.result inst)

pub at-k-requires-clause-place : goal.at-k-requires-clause-place
at-k-requires-clause-place g c =
    let trial = rw (← c.self.view_is) at c.requires.trial in
    let places = rw (c.deref.ensures) at c.moves_fit.ensures.places in
    spot_in (arc_value c.self.inside.design) c.self.inside.rejected c.self.invariant.noted.places c.args.trial.mv (places _ c.args.trial.mv trial.moves)

pub returns-then-self-k-clause-answer : goal.returns-then-self-k-clause-answer
returns-then-self-k-clause-answer g c =
    let trial = rw (← c.self.view_is) at c.requires.trial in
    let entries : c.len-settled.result ≡ length c.self.inside.entries.items = omega (arith, c.len-settled.ensures) in
    let journals : c.len-commits.result ≡ length c.self.inside.journal.items = omega (arith, c.len-commits.ensures) in
    let places = rw (c.deref.ensures) at c.moves_fit.ensures.places in
    rw (← c.self.view_is) (known_answer _ _ _ _ _ _ _ _ _ _ c.self.invariant c.args.trial trial _ _ entries journals c.if-settled-self.false c.if-trial-commits.false (places _ c.args.trial.mv trial.moves) _ c.at-k.ensures c.if-self-k.true)

pub reject-requires-clause-mv : goal.reject-requires-clause-mv
reject-requires-clause-mv g c κs within =
    let trial = rw (← c.self.view_is) at c.requires.trial in
    let entries : c.len-settled.result ≡ length c.self.inside.entries.items = omega (arith, c.len-settled.ensures) in
    let journals : c.len-commits.result ≡ length c.self.inside.journal.items = omega (arith, c.len-commits.ensures) in
    rw (← c.self.view_is) (move_now _ _ _ _ _ _ _ _ _ _ c.self.invariant c.args.trial trial _ _ entries journals c.if-settled-self.false c.if-trial-commits.false)

pub reject-requires-clause-now : goal.reject-requires-clause-now
reject-requires-clause-now g c κs within =
    let trial = rw (← c.self.view_is) at c.requires.trial in
    let entries : c.len-settled.result ≡ length c.self.inside.entries.items = omega (arith, c.len-settled.ensures) in
    let journals : c.len-commits.result ≡ length c.self.inside.journal.items = omega (arith, c.len-commits.ensures) in
    let places = rw (c.deref.ensures) at c.moves_fit.ensures.places in
    let outcome = rw (c.deref-2.ensures) at c.trials_are_judged.ensures.outcome in
    let judged = λ (s : List ℕ). outcome (g.J.Judge.answers c.self.inside.judge) s c.args.trial.mv c.args.trial.front c.args.trial.worker c.judges_are_lawful.ensures in
    rw (← c.self.view_is) (rejected_answer _ _ _ _ _ _ _ _ _ _ c.self.invariant c.args.trial trial _ _ entries journals c.if-settled-self.false c.if-trial-commits.false (places _ c.args.trial.mv trial.moves) _ c.at-k.ensures c.if-self-k.false judged _ c.in-NotFair.is (length (commits_of c.self.inside.entries.items)) (omega arith))

pub commit-requires-clause-mv : goal.commit-requires-clause-mv
commit-requires-clause-mv g c κs within =
    let trial = rw (← c.self.view_is) at c.requires.trial in
    let entries : c.len-settled.result ≡ length c.self.inside.entries.items = omega (arith, c.len-settled.ensures) in
    let journals : c.len-commits.result ≡ length c.self.inside.journal.items = omega (arith, c.len-commits.ensures) in
    rw (← c.self.view_is) (move_now _ _ _ _ _ _ _ _ _ _ c.self.invariant c.args.trial trial _ _ entries journals c.if-settled-self.false c.if-trial-commits.false)

pub commit-requires-clause-now : goal.commit-requires-clause-now
commit-requires-clause-now g c κs within =
    let trial = rw (← c.self.view_is) at c.requires.trial in
    let entries : c.len-settled.result ≡ length c.self.inside.entries.items = omega (arith, c.len-settled.ensures) in
    let journals : c.len-commits.result ≡ length c.self.inside.journal.items = omega (arith, c.len-commits.ensures) in
    let places = rw (c.deref.ensures) at c.moves_fit.ensures.places in
    let outcome = rw (c.deref-2.ensures) at c.trials_are_judged.ensures.outcome in
    let judged = λ (s : List ℕ). outcome (g.J.Judge.answers c.self.inside.judge) s c.args.trial.mv c.args.trial.front c.args.trial.worker c.judges_are_lawful.ensures in
    rw (← c.self.view_is) (committed_answer _ _ _ _ _ _ _ _ _ _ c.self.invariant c.args.trial trial _ _ entries journals c.if-settled-self.false c.if-trial-commits.false (places _ c.args.trial.mv trial.moves) _ c.at-k.ensures c.if-self-k.false judged c.in-Fair.is (length (commits_of c.self.inside.entries.items)) (omega arith))

pub commit-requires-clause-delta : goal.commit-requires-clause-delta
commit-requires-clause-delta g c κs within =
    let trial = rw (← c.self.view_is) at c.requires.trial in
    let entries : c.len-settled.result ≡ length c.self.inside.entries.items = omega (arith, c.len-settled.ensures) in
    let journals : c.len-commits.result ≡ length c.self.inside.journal.items = omega (arith, c.len-commits.ensures) in
    let outcome = rw (c.deref-2.ensures) at c.trials_are_judged.ensures.outcome in
    let delta = rw (c.deref-2.ensures) at c.trials_are_judged.ensures.delta in
    let judged = λ (s : List ℕ). outcome (g.J.Judge.answers c.self.inside.judge) s c.args.trial.mv c.args.trial.front c.args.trial.worker c.judges_are_lawful.ensures in
    let whole = λ (s : List ℕ). delta (g.J.Judge.answers c.self.inside.judge) s c.args.trial.mv c.args.trial.front c.args.trial.worker c.judges_are_lawful.ensures in
    rw (← c.self.view_is) (delta_now _ _ _ _ _ _ _ _ _ _ c.self.invariant c.args.trial trial _ _ entries journals c.if-settled-self.false c.if-trial-commits.false judged whole c.in-Fair.is)

pub returns-in-NotFair-clause-answer : goal.returns-in-NotFair-clause-answer
returns-in-NotFair-clause-answer g c =
    let trial = rw (← c.self.view_is) at c.requires.trial in
    let entries : c.len-settled.result ≡ length c.self.inside.entries.items = omega (arith, c.len-settled.ensures) in
    let journals : c.len-commits.result ≡ length c.self.inside.journal.items = omega (arith, c.len-commits.ensures) in
    let places = rw (c.deref.ensures) at c.moves_fit.ensures.places in
    let outcome = rw (c.deref-2.ensures) at c.trials_are_judged.ensures.outcome in
    let judged = λ (s : List ℕ). outcome (g.J.Judge.answers c.self.inside.judge) s c.args.trial.mv c.args.trial.front c.args.trial.worker c.judges_are_lawful.ensures in
    let later : length (commits_of c.self.inside.entries.items) ≤ c.args.trial.front = none_later _ _ _ _ _ _ _ _ _ _ c.self.invariant c.args.trial trial _ _ entries journals c.if-settled-self.false c.if-trial-commits.false in
    c.reject.ensures.answer ∙ rw (← c.self.view_is) (sym (rejected_answer _ _ _ _ _ _ _ _ _ _ c.self.invariant c.args.trial trial _ _ entries journals c.if-settled-self.false c.if-trial-commits.false (places _ c.args.trial.mv trial.moves) _ c.at-k.ensures c.if-self-k.false judged _ c.in-NotFair.is c.args.trial.front later))

pub returns-in-Fair-clause-answer : goal.returns-in-Fair-clause-answer
returns-in-Fair-clause-answer g c =
    let trial = rw (← c.self.view_is) at c.requires.trial in
    let entries : c.len-settled.result ≡ length c.self.inside.entries.items = omega (arith, c.len-settled.ensures) in
    let journals : c.len-commits.result ≡ length c.self.inside.journal.items = omega (arith, c.len-commits.ensures) in
    let places = rw (c.deref.ensures) at c.moves_fit.ensures.places in
    let outcome = rw (c.deref-2.ensures) at c.trials_are_judged.ensures.outcome in
    let judged = λ (s : List ℕ). outcome (g.J.Judge.answers c.self.inside.judge) s c.args.trial.mv c.args.trial.front c.args.trial.worker c.judges_are_lawful.ensures in
    let later : length (commits_of c.self.inside.entries.items) ≤ c.args.trial.front = none_later _ _ _ _ _ _ _ _ _ _ c.self.invariant c.args.trial trial _ _ entries journals c.if-settled-self.false c.if-trial-commits.false in
    c.commit.ensures.answer ∙ rw (← c.self.view_is) (sym (committed_answer _ _ _ _ _ _ _ _ _ _ c.self.invariant c.args.trial trial _ _ entries journals c.if-settled-self.false c.if-trial-commits.false (places _ c.args.trial.mv trial.moves) _ c.at-k.ensures c.if-self-k.false judged c.in-Fair.is c.args.trial.front later))
