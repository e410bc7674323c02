-- The truth table of an expression over a list of names.

use Rattle.std.specs.Prelude.{ℕ, ◌≡◌, ◌^◌, ◌<◌, ◌≤◌, Bool, true, false, ◌||◌, ◌&&◌, not, cond, ◌==◌, List, length, slice_get, Option, Some, None, IsSome}
use Rattle.std.specs.Int.{bit_at}
use Rattle.std.specs.List.{position}
use Rattle.std.specs.Str.{bytes_eq}
use Rattle.gs_expr.specs.Cutting.{lexemes, tokens}
use Rattle.gs_expr.specs.Token.{Leaf, low, high, pin, Token, operand}
use Rattle.gs_expr.specs.Tree.{Or, just_and, plus_of, And, just_xor, star_of, beside, Xor, just_not, caret_of, Not, just_post, bang_of, Post, leaf, group, tick_of, or_tokens, depth}

-- the number of a name; of equal names the first counts
abbrev pub place_of : List (List ℕ) → List ℕ → Option ℕ
place_of names text = position (bytes_eq text) names

abbrev pub IsNamed : List (List ℕ) → List ℕ → Type 0
IsNamed names text = IsSome (place_of names text)

-- row i of a table gives name j the value of bit j of i
abbrev pub bit_of_name : ℕ → Option ℕ → Bool
bit_of_name i (Some j) = bit_at i j == 1
bit_of_name i None = false

abbrev pub leaf_at : List (List ℕ) → ℕ → Leaf → Bool
leaf_at names i low = false
leaf_at names i high = true
leaf_at names i (pin text) = bit_of_name i (place_of names text)

abbrev pub differ : Bool → Bool → Bool
differ true b = not b
differ false b = b

-- the value of an expression where its leaves have these values
abbrev mutual
  pub or_value : (Leaf → Bool) → Or → Bool
  or_value env (just_and a) = and_value env a
  or_value env (plus_of o a) = or_value env o || and_value env a

  pub and_value : (Leaf → Bool) → And → Bool
  and_value env (just_xor x) = xor_value env x
  and_value env (star_of a x) = and_value env a && xor_value env x
  and_value env (beside a x) = and_value env a && xor_value env x

  pub xor_value : (Leaf → Bool) → Xor → Bool
  xor_value env (just_not n) = not_value env n
  xor_value env (caret_of x n) = differ (xor_value env x) (not_value env n)

  pub not_value : (Leaf → Bool) → Not → Bool
  not_value env (just_post p) = post_value env p
  not_value env (bang_of n) = not (not_value env n)

  pub post_value : (Leaf → Bool) → Post → Bool
  post_value env (leaf l) = env l
  post_value env (group o) = or_value env o
  post_value env (tick_of p) = not (post_value env p)

-- the value of an expression in row i
abbrev pub value_at : List (List ℕ) → ℕ → Or → Bool
value_at names i o = or_value (leaf_at names i) o

abbrev pub bit : Bool → ℕ
bit b = cond b 1 0

-- this token stands at this byte of the text
pub record StandsAt (bytes : List ℕ) (at : ℕ) (t : Token) : Type 0 where
  pub number : ℕ
  pub is : slice_get (lexemes bytes) number ≡ Some (record { token = t; at = at })

-- the text is an expression over the names, and this is its table
pub record IsTruth (bytes : List ℕ) (names : List (List ℕ)) (table : ℕ) : Type 0 where
  -- at most six names
  pub few : length names ≤ 6
  -- the whole text is the spelling of this expression
  pub tree : Or
  pub spells : tokens bytes ≡ or_tokens tree
  -- at most 64 parentheses are open at once
  pub shallow : depth (tokens bytes) ≤ 64
  -- each name in it is among the names
  pub known : (at : ℕ) (text : List ℕ) → StandsAt bytes at (operand (pin text)) → IsNamed names text
  -- bit i is the expression's value where name j has bit j of i
  pub rows : (i : ℕ) → i < 2 ^ length names → bit_at table i ≡ bit (value_at names i tree)
  -- and the other bits are 0
  pub rest : (i : ℕ) → 2 ^ length names ≤ i → bit_at table i ≡ 0
