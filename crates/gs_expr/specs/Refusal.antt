-- Why a text has no truth table over a list of names. Places count the text's bytes from 0.

use Rattle.std.specs.Prelude.{ℕ, ◌≡◌, ◌≢◌, ◌⊎◌, ◌<◌, ◌≤◌, List, [], ◌∷◌, ◌++◌, length, take}
use Rattle.gs_expr.specs.Cutting.{tokens}
use Rattle.gs_expr.specs.Token.{Token, operand, pin, opens}
use Rattle.gs_expr.specs.Tree.{IsForm, IsFront, depth}
use Rattle.gs_expr.specs.Truth.{StandsAt, IsNamed, IsTruth}
use Rattle.gs_expr.specs.declared.error.ExprErr.{ExprErr}
use Rattle.gs_expr.specs.declared.error.ExprErr.TheVariants.{TooMany, TooDeep, Syntax, UnknownPin, Mem}

-- the tokens of the bytes before a place
abbrev pub before : List ℕ → ℕ → List Token
before bytes at = tokens (take at bytes)

-- the parenthesis at this place is the first to make depth 65, and no fault of syntax stands before it
pub record IsTooDeep (bytes : List ℕ) (at : ℕ) : Type 0 where
  pub paren : StandsAt bytes at opens
  pub front : IsFront (before bytes at ++ opens ∷ [])
  pub deep : depth (before bytes at ++ opens ∷ []) ≡ 65
  pub earlier : depth (before bytes at) ≤ 64

-- with the token at this place the text doesn't begin an expression
abbrev pub IsBadToken : List ℕ → ℕ → Type 0
IsBadToken bytes at = (t : Token) × StandsAt bytes at t × (IsFront (before bytes at ++ t ∷ []) → ⊥)

-- the text ends at this place, and isn't a whole expression
abbrev pub IsEarlyEnd : List ℕ → ℕ → Type 0
IsEarlyEnd bytes at = (at ≡ length bytes) × (IsForm (tokens bytes) → ⊥)

-- the bytes before this place begin an expression, and with the token there, or the end, they don't
pub record IsFault (bytes : List ℕ) (at : ℕ) : Type 0 where
  pub front : IsFront (before bytes at)
  pub fault : IsBadToken bytes at ⊎ IsEarlyEnd bytes at
  -- no parenthesis before it is too deep
  pub earlier : depth (before bytes at) ≤ 64

-- the text is an expression within the depth, and the name at this place is the first that isn't among the names
pub record IsUnknownPin (bytes : List ℕ) (names : List (List ℕ)) (at : ℕ) : Type 0 where
  pub form : IsForm (tokens bytes)
  pub shallow : depth (tokens bytes) ≤ 64
  pub text : List ℕ
  pub named : StandsAt bytes at (operand (pin text))
  pub unknown : IsNamed names text → ⊥
  pub earlier : (k : ℕ) (other : List ℕ) → k < at → StandsAt bytes k (operand (pin other)) → IsNamed names other

-- the cause of a refusal, in the order in which they are judged: the number of names, the form with the depth, the names
abbrev pub HasCause : List ℕ → List (List ℕ) → ExprErr → Type 0
HasCause bytes names TooMany = 6 < length names
HasCause bytes names (TooDeep at) = (length names ≤ 6) × IsTooDeep bytes at
HasCause bytes names (Syntax at) = (length names ≤ 6) × IsFault bytes at
HasCause bytes names (UnknownPin at) = (length names ≤ 6) × IsUnknownPin bytes names at
HasCause bytes names Mem = Unit {0}

-- the text has a table, or a cause of refusal other than want of memory
abbrev pub IsDecided : List ℕ → List (List ℕ) → Type 0
IsDecided bytes names =
    ((table : ℕ) × IsTruth bytes names table) ⊎ ((e : ExprErr) × (e ≢ ExprErr.Mem) × HasCause bytes names e)
