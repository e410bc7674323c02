use Rattle.std.proofs.Common.{◌≡◌, ◌+◌, ◌∙◌, ℕ, suc, List, length, ap, subst, arith}
use Rattle.std.specs.Arc.{arc_value}
use Rattle.gs_design.specs.Sizes.{FitSizes}
use Rattle.gs_design.specs.Timing.{timing_of}
use Rattle.gs_move.specs.Entries.{commits_of}
use Rattle.gs_move.specs.Legal.{IsLegal}
use Rattle.gs_move.specs.Settle.{entries_after}
use Rattle.gs_move.specs.State.{sizes_now}
use Rattle.gs_move.specs.declared.entry.Entry.{Entry}
use Rattle.gs_move.specs.declared.settled.Settled.TheVariants.{Committed}
use Rattle.gs_book.proofs.JournalLaws.{journal_length}
use Rattle.gs_book.proofs.KeptLaws.{installable, kept_installed}
use Rattle.gs_book.proofs.book.Book.commit.Goals as goal

pub install-requires-clause-nets : goal.install-requires-clause-nets
install-requires-clause-nets g c =
    let d = arc_value c.self.inside.design in
    let s : List ℕ = sizes_now c.self.inside.start c.self.inside.entries.items in
    let whole = rw (c.deref-3.ensures) at c.delta_is_exact.ensures.whole in
    let fits = rw (c.deref-3.ensures) at c.delta_is_exact.ensures.fits in
    let delta = rw (← c.self.view_is) at c.requires.delta in
    installable d s c.args.mv c.args.delta c.self.inside.timing delta (c.self.invariant.timing_is ∙ ap (timing_of d) c.self.invariant.sizes_are) (whole s) (fits s c.args.mv)

pub invariant_of-self : goal.invariant_of-self
invariant_of-self g c =
    let J = g.J.Judge.answers c.self.inside.judge in
    let d = arc_value c.self.inside.design in
    let start = c.self.inside.start in
    let budget = c.self.inside.budget in
    let es : List Entry = c.self.inside.entries.items in
    let s : List ℕ = sizes_now start es in
    let places = rw (c.deref.ensures) at c.moves_fit.ensures.places in
    let sizes = rw (c.deref.ensures) at c.moves_fit.ensures.sizes in
    let settled = rw (c.deref-2.ensures) at c.settling_is_legal.ensures.legal in
    let exact = rw (c.deref-3.ensures) at c.delta_is_exact.ensures.exact in
    let move = rw (← c.self.view_is) at c.requires.mv in
    let now = rw (← c.self.view_is) at c.requires.now in
    let delta = rw (← c.self.view_is) at c.requires.delta in
    let number : c.len.result + 1 ≡ suc (length es) = omega (arith, c.len.ensures) in
    let legal = subst (λ a. IsLegal J d start budget (entries_after es c.args.mv c.args.worker a)) now (settled J start budget es c.args.mv c.args.worker (length (commits_of es)) c.self.invariant.legal move) in
    let fit : FitSizes d s = subst (FitSizes d) c.self.invariant.sizes_are c.self.invariant.sizes_fit in
    rw (c.push_reserved.ensures.items, c.commit_of.ensures, c.push_reserved-2.ensures.items, c.install.ensures.sizes, number)
    (kept_installed J d start budget es _ _ _ _ _ c.self.invariant c.args.mv (places s c.args.mv move) c.args.worker c.args.delta _ delta c.install.ensures.timing (exact s c.args.mv _) (sizes s c.args.mv fit move) legal)

pub returns-clause-answer : goal.returns-clause-answer
returns-clause-answer g c =
    let count : c.len-2.result ≡ length c.self.inside.journal.items = omega (arith, c.len-2.ensures) in
    rw (← c.self.view_is)
    (ap (λ n. Committed (n + 1)) (count ∙ ap length c.self.invariant.journal_is ∙ journal_length (arc_value c.self.inside.design) c.self.inside.start c.self.inside.entries.items))
