-- The form of an expression: whole trees, one kind for each level of binding, and the tokens that they are spelled with.
--
-- `or = and { ("+" | "|") and }`; `and = xor { ["*" | "&"] xor }`; `xor = not { "^" not }`; `not = "!" not | post`;
-- `post = atom { "'" }`; `atom = "0" | "1" | name | "(" or ")"`. A repetition is read from the left.

use Rattle.std.specs.Prelude.{ℕ, ◌≡◌, ◌+◌, ◌-◌, max, List, [], ◌∷◌, ◌++◌}
use Rattle.gs_grammar.specs.Fronts.{IsFrontOf}
use Rattle.gs_expr.specs.Token.{Leaf, Token, operand, bang, tick, star, caret, plus, opens, closes, other}

mutual
  pub data Or : Type 0 where
    just_and : And → Or
    plus_of : Or → And → Or

  pub data And : Type 0 where
    just_xor : Xor → And
    star_of : And → Xor → And
    -- two neighbours without an operator
    beside : And → Xor → And

  pub data Xor : Type 0 where
    just_not : Not → Xor
    caret_of : Xor → Not → Xor

  pub data Not : Type 0 where
    just_post : Post → Not
    bang_of : Not → Not

  pub data Post : Type 0 where
    leaf : Leaf → Post
    group : Or → Post
    tick_of : Post → Post

abbrev mutual
  pub or_tokens : Or → List Token
  or_tokens (just_and a) = and_tokens a
  or_tokens (plus_of o a) = or_tokens o ++ plus ∷ and_tokens a

  pub and_tokens : And → List Token
  and_tokens (just_xor x) = xor_tokens x
  and_tokens (star_of a x) = and_tokens a ++ star ∷ xor_tokens x
  and_tokens (beside a x) = and_tokens a ++ xor_tokens x

  pub xor_tokens : Xor → List Token
  xor_tokens (just_not n) = not_tokens n
  xor_tokens (caret_of x n) = xor_tokens x ++ caret ∷ not_tokens n

  pub not_tokens : Not → List Token
  not_tokens (just_post p) = post_tokens p
  not_tokens (bang_of n) = bang ∷ not_tokens n

  pub post_tokens : Post → List Token
  post_tokens (leaf l) = operand l ∷ []
  post_tokens (group o) = opens ∷ (or_tokens o ++ closes ∷ [])
  post_tokens (tick_of p) = post_tokens p ++ tick ∷ []

-- the tokens are a whole expression
abbrev pub IsForm : List Token → Type 0
IsForm ts = (o : Or) × (ts ≡ or_tokens o)

-- the tokens begin an expression
abbrev pub IsFront : List Token → Type 0
IsFront ts = IsFrontOf IsForm ts

-- how many parentheses are open after a token where n are open before it
abbrev pub open_after : ℕ → Token → ℕ
open_after n (operand l) = n
open_after n bang = n
open_after n tick = n
open_after n star = n
open_after n caret = n
open_after n plus = n
open_after n opens = n + 1
open_after n closes = n - 1
open_after n other = n

-- the greatest number of parentheses that are open at once, where n are open before the tokens
abbrev pub depth_from : ℕ → List Token → ℕ
depth_from n [] = n
depth_from n (t ∷ ts) = max n (depth_from (open_after n t) ts)

abbrev pub depth : List Token → ℕ
depth ts = depth_from 0 ts
