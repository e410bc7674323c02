-- Lists of seats and of numbers, as a hall is opened and closed.
use Rattle.std.proofs.Common.{◌≡◌, ◌≢◌, ℕ, ◌≤◌, ◌+◌, Option, Some, IfSome, List, [], ◌∷◌, ◌++◌, All, map, length, get_or, sym, refl, ap, ◌∙◌, subst, arith}
use Rattle.std.specs.Option.{option_to_list}
use Rattle.std.proofs.lemmas.List.Elements.{All-nil, All-cons, All-head, All-tail, All-push, All-pop, All-same}
use mathlib.Core.List.{IsPrefix, append_assoc, map-append}
use Rattle.gs_turn.specs.declared.view.SeatView.{SeatView}
use Rattle.gs_turn.specs.Rule.{GoesOn, both_of, first_of, rest_of}

module _ {X : Type 0} (P : X → Type 0) where
  -- what holds of all holds of the one that was popped and of the rest, and the other way round
  pub popped : (xs ys : List X) (r : Option X) (x : X) → xs ≡ ys ++ option_to_list r → r ≡ Some x → All P xs → All P ys × P x
  popped xs ys r x e is all = let t = All-pop P xs ys r e all in let here : IfSome (Some x) P = subst (λ (o : Option X). IfSome o P) is t.1 in (t.0, here)

  pub unpopped : (xs ys : List X) (r : Option X) (x : X) → xs ≡ ys ++ option_to_list r → r ≡ Some x → All P ys → P x → All P xs
  unpopped xs ys r x e is all here = All-same P xs (ys ++ x ∷ []) (e ∙ ap (λ (o : Option X). ys ++ option_to_list o) is) (All-push P ys x all here)

  all_left : (xs ys : List X) → All P (xs ++ ys) → All P xs
  all_left [] ys all = All-nil P
  all_left (x ∷ xs) ys all = All-cons P x xs (All-head P x (xs ++ ys) all) (all_left xs ys (All-tail P x (xs ++ ys) all))

  all_right : (xs ys : List X) → All P (xs ++ ys) → All P ys
  all_right [] ys all = all
  all_right (x ∷ xs) ys all = all_right xs ys (All-tail P x (xs ++ ys) all)

-- the two parts of what a seat knows and holds
pub knows : {V H : Type 0} (m : V × H) (v : V) (h : H) → m ≡ (v, h) → m.0 ≡ v
knows m v h e = ap (λ p. p.0) e

pub holds : {V H : Type 0} (m : V × H) (v : V) (h : H) → m ≡ (v, h) → m.1 ≡ h
holds m v h e = ap (λ p. p.1) e

-- what goes on from all that a joined seat has seen goes on from what the two had seen
pub both_seen : {T R : Type 0} (v w : SeatView T R) (list : List R) → GoesOn (both_of v w) list → GoesOn v list × IsPrefix w.seen list
both_seen {R = R} v w list on = let P : List R → Type 0 = λ old. IsPrefix old list in ((on.0, all_left P v.olds (w.seen ∷ w.olds) on.1), All-head P w.seen w.olds (all_right P v.olds (w.seen ∷ w.olds) on.1))

pub some_number : (own : List ℕ) (k : ℕ) → own ≡ k ∷ [] → own ≢ []
some_number own k e empty = let bad : k ∷ [] ≡ [] = sym e ∙ empty in cc

pub has_some : (own : List ℕ) → 1 ≤ length own → own ≢ []
has_some own some_there empty = let none_there : length own ≡ 0 = ap length empty in omega arith

pub cut_first : (own : List ℕ) → 1 ≤ length own → own ≡ get_or own 0 0 ∷ rest_of own
cut_first [] some_there = absurd (omega arith)
cut_first (k ∷ ks) some_there = refl

pub the_first : (own : List ℕ) → 1 ≤ length own → first_of own ≡ get_or own 0 0 ∷ []
the_first [] some_there = absurd (omega arith)
the_first (k ∷ ks) some_there = refl

pub length_rest : (own : List ℕ) → 1 ≤ length own → length (rest_of own) + 1 ≡ length own
length_rest [] some_there = absurd (omega arith)
length_rest (k ∷ ks) some_there = omega arith

pub only_one : (own : List ℕ) → length own ≡ 1 → own ≡ get_or own 0 0 ∷ []
only_one [] one = absurd (omega arith)
only_one (k ∷ []) one = refl
only_one (k ∷ (l ∷ ls)) one = absurd (omega arith)

-- a list of one number is that number
pub its_own : (own : List ℕ) (k : ℕ) → own ≡ k ∷ [] → own ≡ get_or own 0 0 ∷ []
its_own own k e = e ∙ ap (λ (n : ℕ). n ∷ []) (sym (ap (λ (l : List ℕ). get_or l 0 0) e))

-- the first number moves on to the numbers of the seats that were made
pub numbers_on : {X : Type 0} (f : X → ℕ) (made : List X) (new : X) (own : List ℕ) (whole : List ℕ) → 1 ≤ length own → f new ≡ get_or own 0 0 → map f made ++ own ≡ whole → map f (made ++ new ∷ []) ++ rest_of own ≡ whole
numbers_on f made new own whole some_there is e = ap (λ (l : List ℕ). l ++ rest_of own) (map-append f made (new ∷ [])) ∙ (append_assoc (map f made) (f new ∷ []) (rest_of own) ∙ (ap (λ (k : ℕ). map f made ++ k ∷ rest_of own) is ∙ (ap (λ (l : List ℕ). map f made ++ l) (sym (cut_first own some_there)) ∙ e)))
