use Rattle.std.proofs.Common.{◌≡◌, ◌+◌, [], ◌++◌, Some, None, All, map, length, vec_len, vec_capacity}
use Rattle.std.specs.List.{range_with_len}
use Rattle.gs_turn.specs.Seats.{IsSeatOf, IsFree, hall_opening, hall_tag, seat_seen, seat_number}
use Rattle.gs_turn.proofs.hall.Hall.seat_all.Given as goal

-- the first seat keeps what it knows but for the numbers, which the seats made so far and the first one have together
abbrev pub invariant-loop : goal.invariant-loop
invariant-loop g l = let view = l.first.me.0 in let hall = l.fn.self in (l.first.table_id ≡ hall.table.shared.table_id) × (l.first.me.1 ≡ [])
    × (view.tag ≡ Some (hall_tag g.B.Told.tag hall)) × (view.count ≡ hall.made) × (view.seen ≡ g.B.Told.list (hall_opening hall)) × (view.turn ≡ None)
    × (map seat_number l.seats.items ++ view.own ≡ range_with_len 0 hall.made) × (length view.own + vec_len l.seats ≡ hall.made) × (vec_len l.seats + 1 ≡ l.counter)
    × (vec_capacity l.seats ≡ vec_capacity l.fn.seats)
    × All (λ s. IsSeatOf g.B.Told.tag hall s × IsFree s) l.seats.items × All (λ s. seat_seen s ≡ g.B.Told.list (hall_opening hall)) l.seats.items
