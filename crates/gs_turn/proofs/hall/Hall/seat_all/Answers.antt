-- Each split gives the first number of the first seat to a seat of its own.
use Rattle.std.proofs.Common.{rules, ◌≡◌, ◌≤◌, ◌<◌, ◌+◌, ℕ, List, [], ◌∷◌, ◌++◌, map, length, get_or, sym, refl, ap, ◌∙◌, arith}
use Rattle.std.specs.List.{range_with_len}
use Rattle.std.proofs.lemmas.List.Elements.{All-nil, All-push, All-same}
use Rattle.std.proofs.lemmas.List.FromFn.{length-range_with_len}
use mathlib.Core.List.{map-append}
use Rattle.gs_turn.specs.declared.hall.Seat.{Seat}
use Rattle.gs_turn.specs.declared.view.SeatView.{SeatView}
use Rattle.gs_turn.specs.Rule.{opened, with_first, without_first, rest_of}
use Rattle.gs_turn.specs.Seats.{IsSeatOf, IsFree, hall_opening, seat_seen, seat_number}
use Rattle.gs_turn.proofs.Keeps.{splits}
use Rattle.gs_turn.proofs.Seating.{knows, holds, the_first, length_rest, its_own, only_one, numbers_on, only_one}
use Rattle.gs_turn.proofs.hall.Hall.seat_all.Goals as goal

pub loop-init : goal.loop-init
loop-init g c = let S : Type 0 = Seat g.row.B.Denot g.row.B-Tag.Denot g.row.B-Row.Denot in let V : Type 0 = SeatView g.row.B-Tag.Denot g.row.B-Row.Denot in let tag = g.B.Told.tag in let list = g.B.Told.list in let hall = c.args.self.now in let book = hall_opening hall in
    let first : V = opened tag list book hall.made in let view = knows c.args.first.me first [] c.requires.first in let room = c.requires.room in
    let own = ap (λ (v : V). v.own) view in let count : length c.args.first.me.0.own ≡ hall.made = ap length own ∙ length-range_with_len 0 hall.made in (
      c.requires.table,
      holds c.args.first.me first [] c.requires.first,
      ap (λ (v : V). v.tag) view,
      ap (λ (v : V). v.count) view,
      ap (λ (v : V). v.seen) view,
      ap (λ (v : V). v.turn) view,
      ap (λ (made : List S). map seat_number made ++ c.args.first.me.0.own) room.0 ∙ own,
      omega (arith, count, room.1),
      omega (arith, room.1),
      refl,
      All-same (λ (s : S). IsSeatOf tag hall s × IsFree s) c.args.seats.items [] room.0 (All-nil (λ (s : S). IsSeatOf tag hall s × IsFree s)),
      All-same (λ (s : S). seat_seen s ≡ list book) c.args.seats.items [] room.0 (All-nil (λ (s : S). seat_seen s ≡ list book)),
    )

pub split_seat-seat-requires : goal.split_seat-seat-requires
split_seat-seat-requires g c = let hall = c.args.self.now in let key = hall.table.shared.key in let inv = c.loop.invariant in let first = c.loop.first in
    (inv.0, search rules, splits g.B.Told.tag g.B.Told.list (g.B.Told.tag key.0.value) key.1 first.id first.me.0 inv.2 (inv.3 ∙ hall.counted) inv.5)

pub loop-preserved : goal.loop-preserved
loop-preserved g c = let S : Type 0 = Seat g.row.B.Denot g.row.B-Tag.Denot g.row.B-Row.Denot in let V : Type 0 = SeatView g.row.B-Tag.Denot g.row.B-Row.Denot in let tag = g.B.Told.tag in let list = g.B.Told.list in let hall = c.args.self.now in let book = hall_opening hall in
    let inv = c.loop.invariant in let v = c.loop.first.me.0 in let e = c.split_seat-seat.ensures in let new = c.split_seat-seat.new.seat in let out = c.split_seat-seat.result in let pushed = c.push_reserved.ensures in
    let below : c.loop.counter < hall.made = c.loop-test.true in let some_there : 1 ≤ length v.own = omega (arith, inv.7, inv.8) in
    let kept = knows new.me (without_first v) c.loop.first.me.1 e.2 in let given = knows out.me (with_first v) [] e.4 in let own : out.me.0.own ≡ get_or v.own 0 0 ∷ [] = ap (λ (u : V). u.own) given ∙ the_first v.own some_there in
    let seat : S = record { seat = out } in
    let is_seat : IsSeatOf tag hall seat × IsFree seat = (record { table = e.3 ∙ inv.0; tag = ap (λ (u : V). u.tag) given ∙ inv.2; count = ap (λ (u : V). u.count) given ∙ inv.3; own = its_own out.me.0.own (get_or v.own 0 0) own }, record { turn = ap (λ (u : V). u.turn) given; hand = holds out.me (with_first v) [] e.4 }) in
    let left : new.me.0.own ≡ rest_of v.own = ap (λ (u : V). u.own) kept in
    let fewer : length new.me.0.own + 1 ≡ length v.own = ap (λ (l : List ℕ). length l + 1) left ∙ length_rest v.own some_there in (
      e.0 ∙ inv.0,
      holds new.me (without_first v) c.loop.first.me.1 e.2 ∙ inv.1,
      ap (λ (u : V). u.tag) kept ∙ inv.2,
      ap (λ (u : V). u.count) kept ∙ inv.3,
      ap (λ (u : V). u.seen) kept ∙ inv.4,
      ap (λ (u : V). u.turn) kept ∙ inv.5,
      ap (λ (l : List S). map seat_number l ++ new.me.0.own) pushed.items ∙ (ap (λ (l : List ℕ). map seat_number (c.loop.seats.items ++ seat ∷ []) ++ l) left ∙ numbers_on seat_number c.loop.seats.items seat v.own (range_with_len 0 hall.made) some_there (ap (λ (l : List ℕ). get_or l 0 0) own) inv.6),
      omega (arith, inv.7, fewer, pushed.len),
      omega (arith, inv.8, pushed.len),
      pushed.capacity ∙ inv.9,
      All-same (λ (s : S). IsSeatOf tag hall s × IsFree s) c.push_reserved.new.self.items (c.loop.seats.items ++ seat ∷ []) pushed.items (All-push (λ (s : S). IsSeatOf tag hall s × IsFree s) c.loop.seats.items seat inv.10 is_seat),
      All-same (λ (s : S). seat_seen s ≡ list book) c.push_reserved.new.self.items (c.loop.seats.items ++ seat ∷ []) pushed.items (All-push (λ (s : S). seat_seen s ≡ list book) c.loop.seats.items seat inv.11 (ap (λ (u : V). u.seen) given ∙ inv.4)),
    )

pub returns-clause-seats : goal.returns-clause-seats
returns-clause-seats g c = let S : Type 0 = Seat g.row.B.Denot g.row.B-Tag.Denot g.row.B-Row.Denot in let tag = g.B.Told.tag in let hall = c.args.self.now in
    let inv = c.loop.invariant in let v = c.loop.first.me.0 in let pushed = c.push_reserved-2.ensures in
    let past : c.args.self.now.made ≤ c.loop.counter = c.loop-test.false in let one : length v.own ≡ 1 = omega (arith, inv.7, inv.8, c.loop.auto.counter-end c.args.self.now.some) in
    let seat : S = record { seat = c.loop.first } in
    All-same (λ (s : S). IsSeatOf tag hall s × IsFree s) c.push_reserved-2.new.self.items (c.loop.seats.items ++ seat ∷ []) pushed.items (All-push (λ (s : S). IsSeatOf tag hall s × IsFree s) c.loop.seats.items seat inv.10
    (record { table = inv.0; tag = inv.2; count = inv.3; own = only_one v.own one }, record { turn = inv.5; hand = inv.1 }))

pub returns-clause-seen : goal.returns-clause-seen
returns-clause-seen g c = let S : Type 0 = Seat g.row.B.Denot g.row.B-Tag.Denot g.row.B-Row.Denot in let list = g.B.Told.list in let book = hall_opening c.args.self.now in
    let inv = c.loop.invariant in let pushed = c.push_reserved-2.ensures in let seat : S = record { seat = c.loop.first } in
    All-same (λ (s : S). seat_seen s ≡ list book) c.push_reserved-2.new.self.items (c.loop.seats.items ++ seat ∷ []) pushed.items (All-push (λ (s : S). seat_seen s ≡ list book) c.loop.seats.items seat inv.11 inv.4)

pub returns-clause-numbers : goal.returns-clause-numbers
returns-clause-numbers g c = let S : Type 0 = Seat g.row.B.Denot g.row.B-Tag.Denot g.row.B-Row.Denot in
    let inv = c.loop.invariant in let v = c.loop.first.me.0 in let pushed = c.push_reserved-2.ensures in
    let past : c.args.self.now.made ≤ c.loop.counter = c.loop-test.false in let one : length v.own ≡ 1 = omega (arith, inv.7, inv.8, c.loop.auto.counter-end c.args.self.now.some) in
    let seat : S = record { seat = c.loop.first } in
    ap (λ (l : List S). map seat_number l) pushed.items ∙ (map-append seat_number c.loop.seats.items (seat ∷ []) ∙ (ap (λ (l : List ℕ). map seat_number c.loop.seats.items ++ l) (sym (only_one v.own one)) ∙ inv.6))
