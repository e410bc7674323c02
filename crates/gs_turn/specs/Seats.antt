-- What contracts say of a hall, of its seats and of the turn.
use Rattle.std.specs.Prelude.{◌≡◌, ℕ, Some, None, List, [], ◌∷◌, slice_index}
use Rattle.gs_turn.specs.declared.hall.Hall.{Hall}
use Rattle.gs_turn.specs.declared.hall.Seat.{Seat}
use Rattle.gs_turn.specs.declared.hall.Turn.{Turn}

module _ {B T R : Type 0} where
  -- how many seats were made
  abbrev pub hall_made : Hall B T R → ℕ
  hall_made h = h.made

  -- the book that the hall was opened with
  abbrev pub hall_opening : Hall B T R → B
  hall_opening h = h.table.shared.key.0.value

  -- the tag of the hall is that of the book that it was opened with
  abbrev pub hall_tag : (B → T) → Hall B T R → T
  hall_tag tag_of h = tag_of (hall_opening h)

  -- the list that the seat has seen: as the hall was opened, or as it gave the book back last
  abbrev pub seat_seen : Seat B T R → List R
  seat_seen s = s.seat.me.0.seen

  abbrev pub seat_number : Seat B T R → ℕ
  seat_number s = slice_index s.seat.me.0.own 0

  -- the seat, as its turn began, whose turn this is
  abbrev pub turn_of : Turn B T R → Seat B T R
  turn_of t = t.seat.value

  -- the seat is one of this hall's, with a number of its own
  pub record IsSeatOf (tag_of : B → T) (h : Hall B T R) (s : Seat B T R) : Type 0 where
    pub table : s.seat.table_id ≡ h.table.shared.table_id
    pub tag : s.seat.me.0.tag ≡ Some (hall_tag tag_of h)
    pub count : s.seat.me.0.count ≡ hall_made h
    pub own : s.seat.me.0.own ≡ seat_number s ∷ []

  -- the seat has no turn out
  pub record IsFree (s : Seat B T R) : Type 0 where
    pub turn : s.seat.me.0.turn ≡ None
    pub hand : s.seat.me.1 ≡ []

  -- the seat has the turn, and this is the list of the book that it took
  pub record HasTurn (s : Seat B T R) (taken : List R) : Type 0 where
    pub turn : s.seat.me.0.turn ≡ Some taken
    pub hand : s.seat.me.1 ≡ (0, None) ∷ []
