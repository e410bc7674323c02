-- Fronts of an expression by the cases of its form: of a sequence some whole parts and a front of the next, of a repetition some
-- whole members and a front of one more, of a choice a front of one of its members.

use Rattle.std.specs.Prelude.{◌≡◌, List, [], ◌∷◌, ◌++◌}
use Rattle.gs_expr.specs.Token.{Token, bang, star, caret, plus, opens}
use Rattle.gs_expr.specs.Tree.{Or, And, Xor, Post, or_tokens, and_tokens, xor_tokens, post_tokens}

mutual
  pub data OrFront : Type 0 where
    first_and : AndFront → OrFront
    -- whole ands, `+`, and a front of the next
    next_and : Or → AndFront → OrFront

  pub data AndFront : Type 0 where
    first_xor : XorFront → AndFront
    -- whole xors, `*`, and a front of the next
    next_xor : And → XorFront → AndFront
    -- whole xors, and a front of the next beside them
    neighbour : And → XorFront → AndFront

  pub data XorFront : Type 0 where
    first_not : NotFront → XorFront
    -- whole nots, `^`, and a front of the next
    next_not : Xor → NotFront → XorFront

  pub data NotFront : Type 0 where
    some_post : PostFront → NotFront
    after_bang : NotFront → NotFront

  pub data PostFront : Type 0 where
    nothing : PostFront
    -- an atom, and some `'`
    whole : Post → PostFront
    -- an opening parenthesis, and a front of what stands within it
    within : OrFront → PostFront

abbrev mutual
  pub or_front : OrFront → List Token
  or_front (first_and a) = and_front a
  or_front (next_and o a) = or_tokens o ++ plus ∷ and_front a

  pub and_front : AndFront → List Token
  and_front (first_xor x) = xor_front x
  and_front (next_xor a x) = and_tokens a ++ star ∷ xor_front x
  and_front (neighbour a x) = and_tokens a ++ xor_front x

  pub xor_front : XorFront → List Token
  xor_front (first_not n) = not_front n
  xor_front (next_not x n) = xor_tokens x ++ caret ∷ not_front n

  pub not_front : NotFront → List Token
  not_front (some_post p) = post_front p
  not_front (after_bang n) = bang ∷ not_front n

  pub post_front : PostFront → List Token
  post_front nothing = []
  post_front (whole p) = post_tokens p
  post_front (within o) = opens ∷ or_front o

-- the tokens are a front by cases
abbrev pub IsFrontByCases : List Token → Type 0
IsFrontByCases ts = (o : OrFront) × (ts ≡ or_front o)
