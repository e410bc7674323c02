-- The bits of a tree's table are the tree's values.

use Rattle.std.proofs.Common.{◌≡◌, ◌∙◌, sym, ap, refl, ℕ, zero, suc, ◌+◌, ◌%◌, ◌^◌, ◌<◌, ◌≤◌, min, max, Bool, true, false, not, ◌&&◌, ◌||◌, eqb, nat_lt, List, [], length, Option, Some, None, arith}
use Rattle.std.specs.Prelude.{bit_and, bit_or, bit_xor}
use Rattle.std.specs.Str.{bytes_eq}
use Rattle.std.specs.Int.{bit_at}
use Rattle.std.proofs.lemmas.Bool.Decides.{nat_tests}
use Rattle.std.proofs.lemmas.Nat.Bits.{bit_at_and, bit_at_or, bit_at_xor, bit_at_ones, bit_at_ones_above, bit_at-zero, bit_at-lt, same_from_bits}
use Rattle.std.proofs.lemmas.List.Quantifiers.{position-Some}
use Rattle.gs_expr.specs.Machine.{column, ones, used, flip}
use Rattle.gs_expr.specs.Token.{Leaf, low, high, pin}
use Rattle.gs_expr.specs.Tree.{Or, just_and, plus_of, And, just_xor, star_of, beside, Xor, just_not, caret_of, Not, just_post, bang_of, Post, leaf, group, tick_of}
use Rattle.gs_expr.specs.Truth.{place_of, bit_of_name, leaf_at, differ, or_value, and_value, xor_value, not_value, post_value, value_at, bit}
use Rattle.gs_expr.proofs.Agree.{leaf_table, name_table, or_table, and_table, xor_table, not_table, post_table}

-- ---- one operator

and_bit : (a b : Bool) → min (bit a) (bit b) ≡ bit (a && b)
and_bit true true = refl
and_bit true false = refl
and_bit false true = refl
and_bit false false = refl

or_bit : (a b : Bool) → max (bit a) (bit b) ≡ bit (a || b)
or_bit true true = refl
or_bit true false = refl
or_bit false true = refl
or_bit false false = refl

xor_bit : (a b : Bool) → (bit a + bit b) % 2 ≡ bit (differ a b)
xor_bit true true = refl
xor_bit true false = refl
xor_bit false true = refl
xor_bit false false = refl

not_bit : (a : Bool) → (bit a + 1) % 2 ≡ bit (not a)
not_bit true = refl
not_bit false = refl

-- ---- the columns

-- the test holds at each number below n
abbrev below : (ℕ → Bool) → ℕ → Bool
below p zero = true
below p (suc n) = p n && below p n

and_left : (a b : Bool) → a && b ≡ true → a ≡ true
and_left true b h = refl
and_left false b h = cc

and_right : (a b : Bool) → a && b ≡ true → b ≡ true
and_right true b h = h
and_right false b h = cc

below_by : (p : ℕ → Bool) (n i : ℕ) (here : Bool) → eqb i n ≡ here → p n ≡ true → (i < n → p i ≡ true) → i < suc n → p i ≡ true
below_by p n i true e h later lt = let same : i ≡ n = grind (arith, nat_tests, e) in ap p same ∙ h
below_by p n i false e h later lt = later (grind (arith, nat_tests, e))

below_at : (p : ℕ → Bool) (n i : ℕ) → below p n ≡ true → i < n → p i ≡ true
below_at p zero i h lt = absurd (omega (arith, lt))
below_at p (suc n) i h lt =
    below_by p n i (eqb i n) refl (and_left (p n) (below p n) h) (λ less. below_at p n i (and_right (p n) (below p n) h) less) lt

abbrev same_bit : ℕ → ℕ → Bool
same_bit j i = eqb (bit_at (column j) i) (bit_at i j)

from_same : (j i : ℕ) → same_bit j i ≡ true → bit_at (column j) i ≡ bit_at i j
from_same j i h = from_eqb (bit_at (column j) i) (bit_at i j) h
  where
    from_eqb : (a b : ℕ) → eqb a b ≡ true → a ≡ b
    from_eqb a b e = grind (arith, nat_tests, e)

-- bit i of a name's column is its bit of i
column_bit : (j i : ℕ) → j < 6 → i < 64 → bit_at (column j) i ≡ bit_at i j
column_bit zero i in_range lt = from_same 0 i (below_at (same_bit 0) 64 i refl lt)
column_bit (suc zero) i in_range lt = from_same 1 i (below_at (same_bit 1) 64 i refl lt)
column_bit (suc (suc zero)) i in_range lt = from_same 2 i (below_at (same_bit 2) 64 i refl lt)
column_bit (suc (suc (suc zero))) i in_range lt = from_same 3 i (below_at (same_bit 3) 64 i refl lt)
column_bit (suc (suc (suc (suc zero)))) i in_range lt = from_same 4 i (below_at (same_bit 4) 64 i refl lt)
column_bit (suc (suc (suc (suc (suc zero))))) i in_range lt = from_same 5 i (below_at (same_bit 5) 64 i refl lt)
column_bit (suc (suc (suc (suc (suc (suc j)))))) i in_range lt = absurd (omega (arith, in_range))

bit_is : (b : ℕ) → b < 2 → b ≡ bit (eqb b 1)
bit_is zero lt = refl
bit_is (suc zero) lt = refl
bit_is (suc (suc b)) lt = absurd (omega (arith, lt))

name_bit : (i : ℕ) (o : Option ℕ) → ((j : ℕ) → o ≡ Some j → j < 6) → i < 64 → bit_at (name_table o) i ≡ bit (bit_of_name i o)
name_bit i (Some j) in_range lt = column_bit j i (in_range j refl) lt ∙ bit_is (bit_at i j) (bit_at-lt i j)
name_bit i None in_range lt = bit_at-zero i

module _ (names : List (List ℕ)) (few : length names ≤ 6) (i : ℕ) (lt : i < 64) where
  named : (text : List ℕ) (j : ℕ) → place_of names text ≡ Some j → j < 6
  named text j e = let q = position-Some (bytes_eq text) names j [] e in omega (arith, q.0)

  leaf_bit : (l : Leaf) → bit_at (leaf_table names l) i ≡ bit (leaf_at names i l)
  leaf_bit low = bit_at-zero i
  leaf_bit high = bit_at_ones 64 i lt
  leaf_bit (pin text) = name_bit i (place_of names text) (named text) lt

  abbrev env : Leaf → Bool
  env = leaf_at names i

  and_both : (u v : ℕ) (a b : Bool) → bit_at u i ≡ bit a → bit_at v i ≡ bit b → bit_at (bit_and u v) i ≡ bit (a && b)
  and_both u v a b e f = bit_at_and u v i ∙ ap (λ x. min x (bit_at v i)) e ∙ ap (min (bit a)) f ∙ and_bit a b

  or_both : (u v : ℕ) (a b : Bool) → bit_at u i ≡ bit a → bit_at v i ≡ bit b → bit_at (bit_or u v) i ≡ bit (a || b)
  or_both u v a b e f = bit_at_or u v i ∙ ap (λ x. max x (bit_at v i)) e ∙ ap (max (bit a)) f ∙ or_bit a b

  xor_both : (u v : ℕ) (a b : Bool) → bit_at u i ≡ bit a → bit_at v i ≡ bit b → bit_at (bit_xor u v) i ≡ bit (differ a b)
  xor_both u v a b e f = bit_at_xor u v i ∙ ap (λ x. (x + bit_at v i) % 2) e ∙ ap (λ x. (bit a + x) % 2) f ∙ xor_bit a b

  flipped : (u : ℕ) (a : Bool) → bit_at u i ≡ bit a → bit_at (flip u) i ≡ bit (not a)
  flipped u a e = bit_at_xor u ones i ∙ ap (λ x. (x + bit_at ones i) % 2) e ∙ ap (λ x. (bit a + x) % 2) (bit_at_ones 64 i lt) ∙ not_bit a

  mutual
    or_bits : (o : Or) → bit_at (or_table names o) i ≡ bit (or_value env o)
    or_bits (just_and a) = and_bits a
    or_bits (plus_of o a) = or_both (or_table names o) (and_table names a) (or_value env o) (and_value env a) (or_bits o) (and_bits a)

    and_bits : (a : And) → bit_at (and_table names a) i ≡ bit (and_value env a)
    and_bits (just_xor x) = xor_bits x
    and_bits (star_of a x) = and_both (and_table names a) (xor_table names x) (and_value env a) (xor_value env x) (and_bits a) (xor_bits x)
    and_bits (beside a x) = and_both (and_table names a) (xor_table names x) (and_value env a) (xor_value env x) (and_bits a) (xor_bits x)

    xor_bits : (x : Xor) → bit_at (xor_table names x) i ≡ bit (xor_value env x)
    xor_bits (just_not n) = not_bits n
    xor_bits (caret_of x n) = xor_both (xor_table names x) (not_table names n) (xor_value env x) (not_value env n) (xor_bits x) (not_bits n)

    not_bits : (n : Not) → bit_at (not_table names n) i ≡ bit (not_value env n)
    not_bits (just_post p) = post_bits p
    not_bits (bang_of n) = flipped (not_table names n) (not_value env n) (not_bits n)

    post_bits : (p : Post) → bit_at (post_table names p) i ≡ bit (post_value env p)
    post_bits (leaf l) = leaf_bit l
    post_bits (group o) = or_bits o
    post_bits (tick_of p) = flipped (post_table names p) (post_value env p) (post_bits p)

-- ---- the bits in use

few_rows : (n : ℕ) → n ≤ 6 → 2 ^ n ≤ 64
few_rows zero le = omega arith
few_rows (suc zero) le = omega arith
few_rows (suc (suc zero)) le = omega arith
few_rows (suc (suc (suc zero))) le = omega arith
few_rows (suc (suc (suc (suc zero)))) le = omega arith
few_rows (suc (suc (suc (suc (suc zero))))) le = omega arith
few_rows (suc (suc (suc (suc (suc (suc zero)))))) le = omega arith
few_rows (suc (suc (suc (suc (suc (suc (suc n))))))) le = absurd (omega (arith, le))

kept : (b : Bool) → min (bit b) 1 ≡ bit b
kept true = refl
kept false = refl

abbrev pub table_of : List (List ℕ) → Or → ℕ
table_of names o = bit_and (or_table names o) (used (length names))

pub row_bit : (names : List (List ℕ)) (o : Or) → length names ≤ 6 → (i : ℕ) → i < 2 ^ length names → bit_at (table_of names o) i ≡ bit (value_at names i o)
row_bit names o few i lt =
    let rows : 2 ^ length names ≤ 64 = few_rows (length names) few in
    let here : bit_at (or_table names o) i ≡ bit (value_at names i o) = or_bits names few i (omega arith) o in
    bit_at_and (or_table names o) (used (length names)) i
    ∙ ap (λ x. min x (bit_at (used (length names)) i)) here
    ∙ ap (min (bit (value_at names i o))) (bit_at_ones (2 ^ length names) i lt)
    ∙ kept (value_at names i o)

pub rest_bit : (names : List (List ℕ)) (o : Or) (i : ℕ) → 2 ^ length names ≤ i → bit_at (table_of names o) i ≡ 0
rest_bit names o i le =
    bit_at_and (or_table names o) (used (length names)) i
    ∙ ap (min (bit_at (or_table names o) i)) (bit_at_ones_above (2 ^ length names) i le)
    ∙ none (bit_at (or_table names o) i)
  where
    none : (n : ℕ) → min n 0 ≡ 0
    none n = omega arith

-- a table is its rows
pub one_table : (names : List (List ℕ)) (o : Or) (u v : ℕ)
    → ((i : ℕ) → i < 2 ^ length names → bit_at u i ≡ bit (value_at names i o)) → ((i : ℕ) → 2 ^ length names ≤ i → bit_at u i ≡ 0)
    → ((i : ℕ) → i < 2 ^ length names → bit_at v i ≡ bit (value_at names i o)) → ((i : ℕ) → 2 ^ length names ≤ i → bit_at v i ≡ 0)
    → u ≡ v
one_table names o u v rows rest rows' rest' = same_from_bits u v (λ i. one i (nat_lt i (2 ^ length names)) refl)
  where
    one : (i : ℕ) (b : Bool) → nat_lt i (2 ^ length names) ≡ b → bit_at u i ≡ bit_at v i
    one i true e = let lt : i < 2 ^ length names = grind (arith, nat_tests, e) in rows i lt ∙ sym (rows' i lt)
    one i false e = let le : 2 ^ length names ≤ i = grind (arith, nat_tests, e) in rest i le ∙ sym (rest' i le)
