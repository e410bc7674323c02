-- Tokens of an expression.

use Rattle.std.specs.Prelude.{ℕ, List}
use Rattle.gs_expr.specs.declared.token.Class.{Class}
use Rattle.gs_expr.specs.declared.token.Class.TheVariants.{Zero, One, Name, Bang, Tick, Star, Caret, Plus, Opens, Closes, Other}

-- what an expression is made of: a constant, or the name of a pin
pub data Leaf : Type 0 where
  low : Leaf
  high : Leaf
  pin : List ℕ → Leaf

pub data Token : Type 0 where
  operand : Leaf → Token
  -- `!` before an operand and `'` after it
  bang : Token
  tick : Token
  -- `*` or `&`
  star : Token
  -- `^`
  caret : Token
  -- `+` or `|`
  plus : Token
  opens : Token
  closes : Token
  -- a byte that begins no token
  other : Token

-- the token of a class that these bytes spell
abbrev pub token : Class → List ℕ → Token
token Zero text = operand low
token One text = operand high
token Name text = operand (pin text)
token Bang text = bang
token Tick text = tick
token Star text = star
token Caret text = caret
token Plus text = plus
token Opens text = opens
token Closes text = closes
token Other text = other

-- a token, and the place of its first byte
pub record Lexeme : Type 0 where
  pub token : Token
  pub at : ℕ
