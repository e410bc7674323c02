-- Ports, which are among the nets in front.

use Rattle.std.proofs.Common.{◌≡◌, ℕ, zero, suc, ◌+◌, ◌<◌, ◌≤◌, Bool, true, false, not, cond, min, List, [], ◌∷◌, ◌++◌, length, take, refl, sym, ap, subst, ◌∙◌, inl, inr, arith, All}
use Rattle.std.proofs.lemmas.Bool.{cases_lt, false≢true, ne_eqb}
use Rattle.std.proofs.lemmas.List.{get_or-append-add, get_or_append_left, length-append}
use Rattle.std.specs.List.{position_or_len}
use Rattle.std.specs.Str.{bytes_eq}
use Rattle.gs_list.specs.Keys.{count_of}
use Rattle.gs_survey.specs.Lookup.{IsFront}
use Rattle.gs_survey.specs.Numbers.{is_one_of, net_number}

front_position : {X : Type 0} (p : X → Bool) (n : ℕ) (xs : List X) → position_or_len p (take n xs) ≡ min n (position_or_len p xs)
front_position p zero xs = omega arith
front_position p (suc n) [] = omega arith
front_position p (suc n) (x ∷ xs) = by_test (p x) (front_position p n xs)
  where
    by_test : (b : Bool) → position_or_len p (take n xs) ≡ min n (position_or_len p xs)
        → cond (not b) (1 + position_or_len p (take n xs)) 0 ≡ min (suc n) (cond (not b) (1 + position_or_len p xs) 0)
    by_test true e = omega arith
    by_test false e = omega arith

none_past : (ports : List ℕ) (count n : ℕ) → All (λ m. m < count) ports → count ≤ n → count_of ports n ≡ 0
none_past [] count n below le = refl
none_past (m ∷ ports) count n below le =
    let lt : m < count = below 0 0 (omega arith) in
    let ne : m ≡ n → ⊥ = λ e. absurd (omega (arith, e)) in
    let later : count_of ports n ≡ 0 = none_past ports count n (λ k d l. below (suc k) d (omega arith)) le in
    rw (ne_eqb m n ne) (omega (arith, later))

module _ (nets front : List (List ℕ)) (ports : List ℕ) (is_front : IsFront front nets) (below : All (λ n. n < length front) ports) (q : List ℕ) where
  here : position_or_len (bytes_eq q) front ≡ min (length front) (net_number nets q)
  here = ap (position_or_len (bytes_eq q)) is_front ∙ front_position (bytes_eq q) (length front) nets

  not_past : (n : ℕ) → length front ≤ n → is_one_of ports n ≡ false
  not_past n le = rw (none_past ports (length front) n below le) refl

  pub same_port : is_one_of ports (position_or_len (bytes_eq q) front) ≡ is_one_of ports (net_number nets q)
  same_port = elim (cases_lt (net_number nets q) (length front)) [ inl lt ↦ in_front lt | inr ge ↦ past ge ]
    where
      in_front : net_number nets q < length front → is_one_of ports (position_or_len (bytes_eq q) front) ≡ is_one_of ports (net_number nets q)
      in_front lt = let e : position_or_len (bytes_eq q) front ≡ net_number nets q = omega (arith, here) in ap (is_one_of ports) e

      past : length front ≤ net_number nets q → is_one_of ports (position_or_len (bytes_eq q) front) ≡ is_one_of ports (net_number nets q)
      past ge = not_past (position_or_len (bytes_eq q) front) (omega (arith, here)) ∙ sym (not_past (net_number nets q) ge)

  pub port_is : is_one_of ports (position_or_len (bytes_eq q) front) ≡ true → position_or_len (bytes_eq q) front ≡ net_number nets q
  port_is e = elim (cases_lt (net_number nets q) (length front)) [ inl lt ↦ omega (arith, here) | inr ge ↦ absurd (past ge) ]
    where
      past : length front ≤ net_number nets q → ⊥
      past ge = false≢true (sym (not_past (position_or_len (bytes_eq q) front) (omega (arith, here))) ∙ e)

-- what holds of two lists together
module _ {X : Type 0} (P : X → Type 0) (xs ys : List X) (all : All P (xs ++ ys)) where
  pub all_left : All P xs
  all_left k d lt = subst P (get_or_append_left xs ys d k lt) (all k d (omega (arith, length-append xs ys)))

  pub all_right : All P ys
  all_right k d lt = subst P (get_or-append-add xs ys k d) (all (length xs + k) d (omega (arith, length-append xs ys)))
