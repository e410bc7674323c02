-- The release keeps the rule, by the lemma on it: the seat has the turn, and the book in hand goes on from what it took.
use Rattle.std.proofs.Common.{rules, ◌≡◌, ℕ, Option, Some, List, [], ◌∷◌, sym, subst, ap, ◌∙◌}
use mathlib.Core.Option.{none}
use Rattle.atomic_table.specs.Table.{Allows, Me, step, rest}
use Rattle.gs_turn.specs.declared.view.SeatView.{SeatView}
use Rattle.gs_turn.specs.Rule.{Kept, released}
use Rattle.gs_turn.proofs.Keeps.{releases}
use Rattle.gs_turn.proofs.Seating.{some_number}
use Rattle.gs_turn.proofs.hall.Hall.give.Goals as goal

pub swap-requires : goal.swap-requires
swap-requires g c = let tag = g.B.Told.tag in let list = g.B.Told.list in let seat = c.requires.seat in let turn = c.requires.goes_on.1 in let hall = c.args.self.now in let shared = hall.table.shared in
    let view = c.args.seat.now.seat.me.0 in let id = c.exchange-was.new.seat.id in
    let V : Type 0 = SeatView g.row.B-Tag.Denot g.row.B-Row.Denot in
    let held : c.exchange-was.new.seat.me ≡ (view, (0, Some c.args.book) ∷ []) = c.exchange-was.ensures.3 ∙ ap (λ (hand : List (ℕ × Option g.row.B.Denot)). (view, (0, Some c.args.book) ∷ rest hand)) turn.hand in (
      c.exchange-was.ensures.0 ∙ seat.table,
      search rules,
      subst (λ (y : ℕ × Me (Option g.row.B.Denot) V). Allows (Kept tag list (tag shared.key.0.value) shared.key.1) y.0 id y.1 0 (λ _. 0) (released tag list (step y.0 0 0 0 none) y.1))
          (λ i. (sym hall.sized.1 i, sym held i))
          (releases tag list (tag shared.key.0.value) shared.key.1 id view c.args.book c.requires.goes_on.0 seat.tag (seat.count ∙ hall.counted) (some_number view.own _ seat.own) turn.turn c.requires.tag c.requires.goes_on.2),
    )
