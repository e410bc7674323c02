-- The seats are joined one by one, the last first.
use Rattle.std.proofs.Common.{rules, ◌≡◌, ◌+◌, length, vec_len, ap, ◌∙◌, subst, arith}
use mathlib.Core.List.{IsPrefix}
use Rattle.gs_turn.specs.declared.hall.Seat.{Seat}
use Rattle.gs_turn.specs.declared.view.SeatView.{SeatView}
use Rattle.gs_turn.specs.Rule.{GoesOn, both_of}
use Rattle.gs_turn.specs.Seats.{IsSeatOf, IsFree, seat_seen}
use Rattle.gs_turn.proofs.Lists.{length_both}
use Rattle.gs_turn.proofs.Keeps.{joins}
use Rattle.gs_turn.proofs.Seating.{popped, unpopped, both_seen, has_some, knows, holds}
use Rattle.gs_turn.proofs.hall.Hall.gather.Goals as goal

pub loop-seat-init : goal.loop-seat-init
loop-seat-init g c = let S : Type 0 = Seat g.row.B.Denot g.row.B-Tag.Denot g.row.B-Row.Denot in let seat = c.in-Some.field-0 in let out = c.pop.ensures in
    let all = popped (λ (s : S). IsSeatOf g.B.Told.tag c.args.self.now s × IsFree s) c.args.seats.items c.pop.new.self.items c.pop.result seat out.items c.in-Some.is c.requires.seats in
    let mine = all.1 in let one : length seat.seat.me.0.own ≡ 1 = ap length mine.0.own in
    let less : vec_len c.pop.new.self + 1 ≡ vec_len c.args.seats = c.in-Some.ensures.cases in
    (mine.0.table, mine.1.turn, mine.1.hand, omega arith, omega arith, all.0, λ list on rest. unpopped (λ (s : S). IsPrefix (seat_seen s) list) c.args.seats.items c.pop.new.self.items c.pop.result seat out.items c.in-Some.is rest on.0)

pub join_seat-requires : goal.join_seat-requires
join_seat-requires g c = let S : Type 0 = Seat g.row.B.Denot g.row.B-Tag.Denot g.row.B-Row.Denot in let tag = g.B.Told.tag in let list = g.B.Told.list in let hall = c.args.self.now in let key = hall.table.shared.key in let inv = c.loop-seat.invariant in let all = c.loop-seat.all in let seat = c.in-Some-pop.field-0.seat in
    let mine = (popped (λ (s : S). IsSeatOf tag hall s × IsFree s) c.loop-seat.seats.items c.pop-in-loop-seat.new.self.items c.pop-in-loop-seat.result c.in-Some-pop.field-0 c.pop-in-loop-seat.ensures.items c.in-Some-pop.is inv.5).1 in
    (inv.0, mine.0.table, mine.1.hand, search rules, joins tag list (tag key.0.value) key.1 all.id all.me.0 seat.id seat.me.0 (has_some all.me.0.own inv.4) inv.1 mine.1.turn)

pub loop-seat-preserved : goal.loop-seat-preserved
loop-seat-preserved g c = let S : Type 0 = Seat g.row.B.Denot g.row.B-Tag.Denot g.row.B-Row.Denot in let V : Type 0 = SeatView g.row.B-Tag.Denot g.row.B-Row.Denot in let tag = g.B.Told.tag in let hall = c.args.self.now in let inv = c.loop-seat.invariant in
    let v = c.loop-seat.all.me.0 in let other = c.in-Some-pop.field-0 in let w = other.seat.me.0 in let new = c.join_seat.new.seat in let e = c.join_seat.ensures in
    let out = popped (λ (s : S). IsSeatOf tag hall s × IsFree s) c.loop-seat.seats.items c.pop-in-loop-seat.new.self.items c.pop-in-loop-seat.result other c.pop-in-loop-seat.ensures.items c.in-Some-pop.is inv.5 in
    let mine = out.1 in let view : new.me.0 ≡ both_of v w = knows new.me (both_of v w) c.loop-seat.all.me.1 e.2 in let one : length w.own ≡ 1 = ap length mine.0.own in
    let more : length new.me.0.own ≡ length v.own + length w.own = ap (λ (u : V). length u.own) view ∙ length_both v.own w.own in
    let less : vec_len c.pop-in-loop-seat.new.self + 1 ≡ vec_len c.loop-seat.seats = c.in-Some-pop.ensures.cases in (
      e.0 ∙ inv.0,
      ap (λ (u : V). u.turn) view ∙ inv.1,
      holds new.me (both_of v w) c.loop-seat.all.me.1 e.2 ∙ inv.2,
      omega arith,
      omega arith,
      out.0,
      λ list on rest. let both = both_seen v w list (subst (λ (u : V). GoesOn u list) view on) in
          inv.6 list both.0 (unpopped (λ (s : S). IsPrefix (seat_seen s) list) c.loop-seat.seats.items c.pop-in-loop-seat.new.self.items c.pop-in-loop-seat.result other c.pop-in-loop-seat.ensures.items c.in-Some-pop.is rest both.1),
    )
