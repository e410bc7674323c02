-- Where names come first in a list.

use Rattle.std.proofs.Common.{◌≡◌, ◌≢◌, ℕ, ◌+◌, ◌<◌, ◌≤◌, Bool, true, false, not, cond, ltb, List, [], ◌∷◌, ◌++◌, Option, None, Some, length, get_or, drop, map, take, refl, sym, ap, ◌∙◌, inl, inr, arith}
use Rattle.std.proofs.lemmas.Bool.{cases_lt, lt-ltb}
use Rattle.std.proofs.lemmas.Bool.Decides.{Decides-like, same_from_decides}
use Rattle.std.proofs.lemmas.List.{drop_more, map-append, take_more}
use Rattle.std.proofs.lemmas.List.Sums.{position_or_len_is, prefix_len-le-length}
use Rattle.std.proofs.lemmas.Map.Made.{AllPairs-from_IsDistinct}
use Rattle.std.proofs.lemmas.Slice.Eq.{bytes_eq-Decides}
use Rattle.std.specs.List.{IsDistinct, position, position_from, position_or_len}
use Rattle.std.specs.Map.{update}
use Rattle.std.specs.Str.{bytes_eq}

pub position-le : {X : Type 0} (p : X → Bool) (xs : List X) → position_or_len p xs ≤ length xs
position-le p xs = prefix_len-le-length (λ x. not (p x)) xs

pub position_is : {X : Type 0} (p : X → Bool) (xs : List X) (k : ℕ) → Some k ≡ position p xs → k ≡ position_or_len p xs
position_is p xs k e = some_is (ltb (position_or_len p xs) (length xs)) k (position_or_len p xs) e
  where
    some_is : (t : Bool) (k at : ℕ) → Some k ≡ cond t (Some at) None → k ≡ at
    some_is true k at e = cc
    some_is false k at e = absurd cc

pub position_none : {X : Type 0} (p : X → Bool) (xs : List X) → None ≡ position p xs → length xs ≡ position_or_len p xs
position_none p xs e = let le : position_or_len p xs ≤ length xs = position-le p xs in none_is (position_or_len p xs) (length xs) le e
  where
    none_is : (at n : ℕ) → at ≤ n → None ≡ cond (ltb at n) (Some at) None → n ≡ at
    none_is at n le e = elim (cases_lt at n) [ inl lt ↦ absurd (some_not (rw (lt-ltb at n lt) at e)) | inr ge ↦ omega arith ]
      where
        some_not : {k : ℕ} → None ≡ Some k → ⊥
        some_not e = cc

turned : (x y : List ℕ) → bytes_eq x y ≡ bytes_eq y x
turned x y = same_from_decides (bytes_eq x y) (bytes_eq y x) (bytes_eq-Decides x y) (Decides-like (bytes_eq y x) (λ e. sym e) (λ e. sym e) (bytes_eq-Decides y x))

-- a map from the names of the items past a place, with that of the item there
pub found_before : {X : Type 0} (name : X → List ℕ) (xs : List X) (i j : ℕ) (d : X) → i ≡ j + 1 → j < length xs → (bs : List ℕ) → bs ≡ name (get_or xs j d)
    → (look : List ℕ → Option ℕ) → ((q : List ℕ) → look q ≡ position_from (λ x. bytes_eq q (name x)) i (drop i xs))
    → (q : List ℕ) → update bytes_eq look bs (Some j) q ≡ position_from (λ x. bytes_eq q (name x)) j (drop j xs)
found_before name xs i j d next lt bs named look found q =
    let step : position_from (λ x. bytes_eq q (name x)) j (drop j xs) ≡ cond (bytes_eq q (name (get_or xs j d))) (Some j) (position_from (λ x. bytes_eq q (name x)) (j + 1) (drop (j + 1) xs))
    = ap (position_from (λ x. bytes_eq q (name x)) j) (drop_more xs j d lt) in
    let later : look q ≡ position_from (λ x. bytes_eq q (name x)) (j + 1) (drop (j + 1) xs) = found q ∙ ap (λ k. position_from (λ x. bytes_eq q (name x)) k (drop k xs)) next in
    let test : bytes_eq bs q ≡ bytes_eq q (name (get_or xs j d)) = turned bs q ∙ ap (bytes_eq q) named in
    ap (λ b. cond b (Some j) (look q)) test ∙ ap (cond (bytes_eq q (name (get_or xs j d))) (Some j)) later ∙ sym step

-- one more number is found
pub numbered : {X : Type 0} (f : X → ℕ) (xs : List X) (i : ℕ) (x : X) → i < length xs → x ≡ get_or xs i x → (numbers : List ℕ) → numbers ≡ map f (take i xs)
    → (n : ℕ) → n ≡ f x → numbers ++ n ∷ [] ≡ map f (take (i + 1) xs)
numbered f xs i x lt is numbers so_far n e =
    let more : take (i + 1) xs ≡ take i xs ++ x ∷ [] = take_more xs i x lt ∙ ap (λ y. take i xs ++ y ∷ []) (sym is) in
    rw (so_far, e) (sym (ap (map f) more ∙ map-append f (take i xs) (x ∷ [])))

-- where names differ, a place with the name is the first
pub is_first : (xs : List (List ℕ)) (k : ℕ) (q : List ℕ) → IsDistinct bytes_eq xs → k < length xs → bytes_eq q (get_or xs k []) ≡ true → k ≡ position_or_len (bytes_eq q) xs
is_first xs k q differ lt is = sym (position_or_len_is (bytes_eq q) xs k [] (omega arith) before (λ _. is))
  where
    apart : (j : ℕ) → j < k → get_or xs j [] ≢ get_or xs k []
    apart j less = AllPairs-from_IsDistinct bytes_eq-Decides xs differ j k [] less lt

    by_test : (j : ℕ) → j < k → (b : Bool) → bytes_eq q (get_or xs j []) ≡ b → b ≡ false
    by_test j less false e = refl
    by_test j less true e = absurd (apart j less (sym ((bytes_eq-Decides q (get_or xs j [])).0 e) ∙ (bytes_eq-Decides q (get_or xs k [])).0 is))

    before : (j : ℕ) → j < k → bytes_eq q (get_or xs j []) ≡ false
    before j less = by_test j less (bytes_eq q (get_or xs j [])) refl
