-- The claim keeps the rule, by the lemma on it. Where it found 0, the slot came out with a book.
use Rattle.std.proofs.Common.{rules, ◌≡◌, ◌==◌, ℕ, Option, Some, List, ◌∷◌, sym, subst, ap, ◌∙◌}
use mathlib.Core.Option.{none}
use prog.Atomic.{either}
use Rattle.atomic_table.specs.Table.{Allows, step, rest}
use Rattle.gs_turn.specs.declared.view.SeatView.{SeatView}
use Rattle.gs_turn.specs.Rule.{Kept, claimed}
use Rattle.gs_turn.proofs.Keeps.{claims}
use Rattle.gs_turn.proofs.Seating.{some_number}
use Rattle.gs_turn.proofs.hall.Hall.try_take.Goals as goal

pub compare_exchange-found-requires : goal.compare_exchange-found-requires
compare_exchange-found-requires g c = let tag = g.B.Told.tag in let list = g.B.Told.list in let seat = c.requires.seat in let hall = c.args.self.now in let shared = hall.table.shared in
    let inner = c.args.seat.now.seat in let view = inner.me.0 in
    let V : Type 0 = SeatView g.row.B-Tag.Denot g.row.B-Row.Denot in (
      seat.table,
      search rules,
      subst (λ (y : ℕ × List (ℕ × Option g.row.B.Denot)). Allows (Kept tag list (tag shared.key.0.value) shared.key.1) y.0 inner.id (view, y.1) 0 (λ k. either (k == 0) 1 k) (claimed tag list (step y.0 0 0 1 none) (view, y.1)))
          (λ i. (sym hall.sized.1 i, sym c.requires.free.hand i))
          (claims tag list (tag shared.key.0.value) shared.key.1 inner.id view seat.tag (seat.count ∙ hall.counted) (some_number view.own _ seat.own)),
    )

pub returns-then-found-ne0-clause-none : goal.returns-then-found-ne0-clause-none
returns-then-found-ne0-clause-none g c = let e = c.compare_exchange-found.ensures in let stays = e.2.1 c.if-found-ne0.true in λ i. record { seat = record c.compare_exchange-found.new.seat { table_id = e.0 i; id = e.1 i; me = stays i } }

pub exchange-book-requires : goal.exchange-book-requires
exchange-book-requires g c = let e = c.compare_exchange-found.ensures in let won = e.2.0 c.if-found-ne0.false in let hand : c.compare_exchange-found.new.seat.me.1 ≡ (0, Some won.0) ∷ c.args.seat.now.seat.me.1 = ap (λ m. m.1) won.1 in
    (e.0 ∙ c.requires.seat.table, (Some won.0, hand ∙ ap (λ (h : List (ℕ × Option g.row.B.Denot)). (0, Some won.0) ∷ h) (sym (ap rest hand))))
