use Rattle.std.proofs.Common.{◌≡◌, ◌∙◌, ◌<◌, ◌^◌, sym, ap, subst, []}
use Rattle.gs_top.specs.Recovery.{IsRecovery, budget_of, log_with}
use Rattle.gs_top.proofs.Recovering.{Ends, Laws, from_start}
use Rattle.gs_top.proofs.recovery.recover.Goals as goal

pub returns-clause-log : goal.returns-clause-log
returns-clause-log g c =
    let opened = c.in_ok-book.ensures in
    let from = c.in_ok-book.book in
    let to = c.in_ok-book-2.book in
    let h = c.in_ok-book-2.ensures in
    let budget = budget_of c.args.budget c.args.design in
    let allowed : from.budget ≡ budget = opened.budget ∙ c.budget_of-entries.ensures in
    let ends : Ends from.design from.start from.budget from.entries to.entries c.in_ok-book-2.ended =
    record { is = h.alone; settled = h.settled; spent = h.spent; legal = h.legal; earned = h.earned; workers = h.worker }
    in
    let here : Ends c.args.design c.args.start budget [] to.entries c.in_ok-book-2.ended =
    subst (λ x. Ends c.args.design c.args.start budget x to.entries c.in_ok-book-2.ended) opened.entries
    (subst (λ x. Ends c.args.design c.args.start x from.entries to.entries c.in_ok-book-2.ended) allowed
    (subst (λ x. Ends c.args.design x from.budget from.entries to.entries c.in_ok-book-2.ended) opened.start
    (subst (λ x. Ends x from.start from.budget from.entries to.entries c.in_ok-book-2.ended) opened.design ends)))
    in
    let laws : Laws c.args.design =
    record { run = c.legal_is_run.ensures; few = c.legal_is_few.ensures.entries; minimum = c.minimum_is_none_fair.ensures.recovery; places = c.moves_fit.ensures.places; told = c.each_log_is_determined.ensures }
    in
    let small = subst (λ n. n < 2 ^ 64) c.budget_of-entries.ensures c.has_64_bits.ensures in
    let log = c.in_ok-log.ensures ∙ ap (log_with to.entries c.in_ok-book-2.ended) (ap (λ b. b.budget) h.same ∙ allowed) in
    subst (IsRecovery c.args.design c.args.start budget 0) (sym log) (from_start c.args.design c.args.start budget to.entries c.in_ok-book-2.ended c.requires laws small here)
