use Rattle.std.proofs.Common.{◌≡◌, ◌≤◌, ◌+◌, List, [], None, All, length, vec_len}
use mathlib.Core.List.{IsPrefix}
use Rattle.gs_turn.specs.Rule.{GoesOn}
use Rattle.gs_turn.specs.Seats.{IsSeatOf, IsFree, seat_seen}
use Rattle.gs_turn.proofs.hall.Hall.gather.Given as goal

-- the one seat has a number for each seat that was joined; and a list that goes on from all that it has seen goes on from what each joined seat had seen
abbrev pub invariant-loop-seat : goal.invariant-loop-seat
invariant-loop-seat g l = (l.all.table_id ≡ l.fn.self.table.shared.table_id) × (l.all.me.0.turn ≡ None) × (l.all.me.1 ≡ [])
    × (length l.all.me.0.own + vec_len l.seats ≡ vec_len l.fn.seats) × (1 ≤ length l.all.me.0.own)
    × All (λ s. IsSeatOf g.B.Told.tag l.fn.self s × IsFree s) l.seats.items
    × ((list : List g.row.B-Row.Denot) → GoesOn l.all.me.0 list → All (λ s. IsPrefix (seat_seen s) list) l.seats.items → All (λ s. IsPrefix (seat_seen s) list) l.fn.seats.items)

abbrev pub decreases-loop-seat : goal.decreases-loop-seat
decreases-loop-seat g l = goal.left-loop-seat g l
