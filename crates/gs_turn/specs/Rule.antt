-- The rule that the lock keeps between any two of its steps, and what each step tells.
-- The lock has one word, `busy`, and one slot for the book. The words are over any type of books: `tag_of` and `list_of` are what a book says of itself.
use Rattle.std.specs.Prelude.{◌≡◌, ◌≢◌, ℕ, ◌+◌, Option, Some, None, List, [], ◌∷◌, ◌++◌, All, length, slice_index}
use Rattle.std.specs.List.{range_with_len}
use mathlib.Core.Option.{some, none}
use mathlib.Core.List.{IsPrefix}
use lib.ListN.{get_elem?}
use Rattle.atomic_table.specs.Table.{State, Me, Step, rest}
use Rattle.gs_turn.specs.declared.view.SeatView.{SeatView}

-- the sum of the weights of a list's elements
abbrev pub total : {A : Type 0} → (A → ℕ) → List A → ℕ
total weight [] = 0
total weight (x ∷ xs) = weight x + total weight xs

module _ {T R : Type 0} where
  -- a list goes on from all that the seat has seen: its own list, and those of the seats that were joined into it
  abbrev pub GoesOn : SeatView T R → List R → Type 0
  GoesOn v list = IsPrefix v.seen list × All (λ old. IsPrefix old list) v.olds

  -- A seat that isn't spent has the tag of the lock and its count of seats. A spent one, with no number, has no turn
  abbrev pub Sits : T → ℕ → SeatView T R → Type 0
  Sits tag made v = (v.own ≢ [] → (v.tag ≡ Some tag) × (v.count ≡ made)) × (v.own ≡ [] → v.turn ≡ None)

  -- However the numbers are weighed, the lists `own` together weigh what the numbers below `made` do:
  -- so each number below `made` stands in one list `own`, once, and no other number does
  abbrev pub EachNumberOnce : ℕ → List (SeatView T R) → Type 0
  EachNumberOnce made views = (weight : ℕ → ℕ) → total (λ v. total weight v.own) views ≡ total weight (range_with_len 0 made)

  abbrev pub with_turn : SeatView T R → List R → SeatView T R
  with_turn v list = record v { turn = Some list }

  abbrev pub after_turn : SeatView T R → List R → SeatView T R
  after_turn v list = record v { seen = list; turn = None }

module _ {B T R : Type 0} (tag_of : B → T) (list_of : B → List R) where
  -- The slot is home: it has a book with this tag, whose list goes on from all that any seat has seen, and no seat has the turn
  abbrev pub IsHome : T → State (Option B) (SeatView T R) → Type 0
  IsHome tag s = (book : B) × (get_elem? s.homes 0 ≡ some (some (Some book))) × (tag_of book ≡ tag)
      × ((j : ℕ) (v : SeatView T R) → get_elem? s.views j ≡ some v → (v.turn ≡ None) × GoesOn v (list_of book))

  -- The slot is out: just one seat has the turn, with the list that the book had as it went out, which goes on from all that any seat has seen
  abbrev pub IsOut : State (Option B) (SeatView T R) → Type 0
  IsOut s = (holder : ℕ) × (taken : List R) × (get_elem? s.homes 0 ≡ some none)
      × ((v : SeatView T R) × (get_elem? s.views holder ≡ some v) × (v.turn ≡ Some taken))
      × ((j : ℕ) (v : SeatView T R) → get_elem? s.views j ≡ some v → (j ≢ holder → v.turn ≡ None) × GoesOn v taken)

  -- The rule. `busy` is 0 while the slot is home and 1 while it is out
  pub record Kept (tag : T) (made : ℕ) (s : State (Option B) (SeatView T R)) : Type 0 where
    pub one : length s.words ≡ 1
    pub free : slice_index s.words 0 ≡ 0 → IsHome tag s
    pub taken : slice_index s.words 0 ≢ 0 → (slice_index s.words 0 ≡ 1) × IsOut s
    pub sits : (j : ℕ) (v : SeatView T R) → get_elem? s.views j ≡ some v → Sits tag made v
    pub once : EachNumberOnce made s.views

  -- the first seat, as the lock is opened: it has all numbers, and has seen the book's list
  abbrev pub opened : B → ℕ → SeatView T R
  opened book made = record { tag = Some (tag_of book); count = made; own = range_with_len 0 made; seen = list_of book; olds = []; turn = None }

  abbrev list_in : Option B → List R
  list_in None = []
  list_in (Some book) = list_of book

  -- the list of the book in hand
  abbrev pub list_held : List (ℕ × Option B) → List R
  list_held [] = []
  list_held (x ∷ xs) = list_in x.1

  -- Claim: where `busy` was 0, the seat has the turn and the slot with its book. Else nothing changed
  abbrev pub claimed : Step (Option B) → Me (Option B) (SeatView T R) → ℕ → Me (Option B) (SeatView T R) → Type 0
  claimed st m found after =
      (found ≡ 0 → (book : B) × (after ≡ (with_turn m.0 (list_of book), (0, Some book) ∷ m.1)) × (Some (tag_of book) ≡ m.0.tag) × GoesOn m.0 (list_of book))
      × (found ≢ 0 → after ≡ m)

  -- Release: the slot is home with the book in hand, whose list the seat has seen
  abbrev pub released : Step (Option B) → Me (Option B) (SeatView T R) → ℕ → Me (Option B) (SeatView T R) → Type 0
  released st m found after = after ≡ (after_turn m.0 (list_held m.1), rest m.1)

abbrev pub first_of : List ℕ → List ℕ
first_of [] = []
first_of (k ∷ ks) = k ∷ []

abbrev pub rest_of : List ℕ → List ℕ
rest_of [] = []
rest_of (k ∷ ks) = ks

module _ {T R : Type 0} where
  -- Split: the new seat has the first number, and the same tag, count of seats and list seen
  abbrev pub with_first : SeatView T R → SeatView T R
  with_first v = record { tag = v.tag; count = v.count; own = first_of v.own; seen = v.seen; olds = []; turn = None }

  abbrev pub without_first : SeatView T R → SeatView T R
  without_first v = record v { own = rest_of v.own }

  -- Join: the numbers of both, and what the other has seen
  abbrev pub both_of : SeatView T R → SeatView T R → SeatView T R
  both_of v w = record v { own = v.own ++ w.own; olds = v.olds ++ w.seen ∷ w.olds }

  -- a seat that was joined into another
  abbrev pub spent : SeatView T R
  spent = record { tag = None; count = 0; own = []; seen = []; olds = []; turn = None }
