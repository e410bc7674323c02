use Rattle.std.proofs.Common.{◌≡◌, ◌+◌, suc, List, length, subst, arith}
use Rattle.std.specs.Arc.{arc_value}
use Rattle.gs_move.specs.Entries.{commits_of}
use Rattle.gs_move.specs.Legal.{IsLegal}
use Rattle.gs_move.specs.Settle.{entries_after}
use Rattle.gs_move.specs.declared.entry.Entry.{Entry}
use Rattle.gs_book.proofs.KeptLaws.{kept_reject}
use Rattle.gs_book.proofs.NotedLaws.{spot_in}
use Rattle.gs_book.proofs.book.Book.reject.Goals as goal

pub put-requires-clause-place : goal.put-requires-clause-place
put-requires-clause-place g c =
    let start = c.self.inside.start in
    let places = rw (c.deref.ensures) at c.moves_fit.ensures.places in
    let move = rw (← c.self.view_is) at c.requires.mv in
    spot_in (arc_value c.self.inside.design) c.self.inside.rejected c.self.invariant.noted.places c.args.mv (places _ c.args.mv move)

pub invariant_of-self : goal.invariant_of-self
invariant_of-self g c =
    let J = g.J.Judge.answers c.self.inside.judge in
    let d = arc_value c.self.inside.design in
    let start = c.self.inside.start in
    let budget = c.self.inside.budget in
    let es : List Entry = c.self.inside.entries.items in
    let places = rw (c.deref.ensures) at c.moves_fit.ensures.places in
    let settled = rw (c.deref-2.ensures) at c.settling_is_legal.ensures.legal in
    let move = rw (← c.self.view_is) at c.requires.mv in
    let now = rw (← c.self.view_is) at c.requires.now in
    let number : c.len.result + 1 ≡ suc (length es) = omega (arith, c.len.ensures) in
    let legal = subst (λ a. IsLegal J d start budget (entries_after es c.args.mv c.args.worker a)) now (settled J start budget es c.args.mv c.args.worker (length (commits_of es)) c.self.invariant.legal move) in
    rw (c.put.ensures, c.push_reserved.ensures.items, number)
    (kept_reject J d start budget es _ _ _ _ _ c.self.invariant c.args.mv (places _ c.args.mv move) c.args.worker legal)
