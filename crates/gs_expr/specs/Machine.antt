-- The table of an expression, symbol by symbol: the operand that was read, and what waits for it.

use Rattle.std.specs.Prelude.{ℕ, zero, suc, ◌≡◌, ◌⊎◌, ◌-◌, ◌^◌, Bool, true, false, not, nat_lt, bit_and, bit_or, bit_xor, List, [], ◌∷◌, length, reverse, Option, Some, None, Result, Ok, Err, IsOk, if◌then◌else◌}
use Rattle.gs_grammar.specs.Machine.{run}
use Rattle.gs_expr.specs.Cutting.{lexemes}
use Rattle.gs_expr.specs.Token.{Leaf, low, high, pin, Token, operand, bang, tick, star, caret, plus, opens, closes, other, Lexeme}
use Rattle.gs_expr.specs.Truth.{place_of}
use Rattle.gs_expr.specs.declared.error.ExprErr.{ExprErr}
use Rattle.gs_expr.specs.declared.error.StepErr.{StepErr}
use Rattle.gs_expr.specs.declared.error.StepErr.TheVariants.{Bad, Deep, Mem}
use Rattle.gs_expr.specs.declared.reader.Reader.{Reader}
use Rattle.gs_expr.specs.declared.symbol.Symbol.{Symbol}
use Rattle.gs_expr.specs.declared.symbol.Symbol.TheVariants.{Operand, Unknown, Bang, Tick, Star, Caret, Plus, Opens, Closes, Other}
use Rattle.gs_expr.specs.declared.table.Waits.{Waits}

-- the table of the name with this number: bit i is bit j of i
abbrev pub column : ℕ → ℕ
column zero = 0xAAAA_AAAA_AAAA_AAAA
column (suc zero) = 0xCCCC_CCCC_CCCC_CCCC
column (suc (suc zero)) = 0xF0F0_F0F0_F0F0_F0F0
column (suc (suc (suc zero))) = 0xFF00_FF00_FF00_FF00
column (suc (suc (suc (suc zero)))) = 0xFFFF_0000_FFFF_0000
column _ = 0xFFFF_FFFF_0000_0000

abbrev pub ones : ℕ
ones = 2 ^ 64 - 1

-- the bits of a table over so many names
abbrev pub used : ℕ → ℕ
used count = 2 ^ 2 ^ count - 1

abbrev pub name_symbol : Option ℕ → Symbol
name_symbol (Some j) = Operand (column j)
name_symbol None = Unknown

abbrev pub leaf_symbol : List (List ℕ) → Leaf → Symbol
leaf_symbol names low = Operand 0
leaf_symbol names high = Operand ones
leaf_symbol names (pin text) = name_symbol (place_of names text)

-- what a token is to the machine
abbrev pub symbol : List (List ℕ) → Token → Symbol
symbol names (operand l) = leaf_symbol names l
symbol names bang = Bang
symbol names tick = Tick
symbol names star = Star
symbol names caret = Caret
symbol names plus = Plus
symbol names opens = Opens
symbol names closes = Closes
symbol names other = Other

-- what waits for an operand, where nothing was read
abbrev pub fresh : Waits
fresh = record { sum = None; product = None; parity = None; flips = false }

abbrev pub flip : ℕ → ℕ
flip v = bit_xor v ones

abbrev pub flip_if : Bool → ℕ → ℕ
flip_if true v = flip v
flip_if false v = v

abbrev pub joined : (ℕ → ℕ → ℕ) → Option ℕ → ℕ → ℕ
joined op None v = v
joined op (Some u) v = op u v

-- the table of the parity, the product and the sum that an operand ends
abbrev pub parity_with : Waits → ℕ → ℕ
parity_with w v = joined bit_xor w.parity (flip_if w.flips v)

abbrev pub product_with : Waits → ℕ → ℕ
product_with w v = joined bit_and w.product (parity_with w v)

abbrev pub sum_with : Waits → ℕ → ℕ
sum_with w v = joined bit_or w.sum (product_with w v)

-- what waits after an operator
abbrev pub after_caret : Waits → ℕ → Waits
after_caret w v = record { sum = w.sum; product = w.product; parity = Some (parity_with w v); flips = false }

abbrev pub after_star : Waits → ℕ → Waits
after_star w v = record { sum = w.sum; product = Some (product_with w v); parity = None; flips = false }

abbrev pub after_plus : Waits → ℕ → Waits
after_plus w v = record { sum = Some (sum_with w v); product = None; parity = None; flips = false }

-- the operand that was read last, what waits for it or for the next, and what waits outside of each open parenthesis, the
-- innermost first
pub record Tables : Type 0 where
  pub operand : Option ℕ
  pub held : Waits
  pub outer : List Waits

abbrev pub at : Option ℕ → Waits → List Waits → Tables
at v w ws = record { operand = v; held = w; outer = ws }

abbrev pub first : Tables
first = at None fresh []

abbrev pub entered : Bool → Waits → List Waits → Result Tables StepErr
entered fits w ws = if fits then Ok (at None fresh (w ∷ ws)) else Err Deep

-- a symbol where an operand is wanted
abbrev pub begin : Waits → List Waits → Symbol → Result Tables StepErr
begin w ws (Operand v) = Ok (at (Some v) w ws)
begin w ws Unknown = Ok (at (Some 0) w ws)
begin w ws Bang = Ok (at None (record w { flips = not w.flips }) ws)
begin w ws Tick = Err Bad
begin w ws Star = Err Bad
begin w ws Caret = Err Bad
begin w ws Plus = Err Bad
begin w ws Opens = entered (nat_lt (length ws) 64) w ws
begin w ws Closes = Err Bad
begin w ws Other = Err Bad

-- a parenthesis closes round the operand v
abbrev pub left : ℕ → List Waits → Result Tables StepErr
left v [] = Err Bad
left v (w ∷ ws) = Ok (at (Some v) w ws)

-- a symbol after the operand v; without an operator a product goes on
abbrev pub follow : ℕ → Waits → List Waits → Symbol → Result Tables StepErr
follow v w ws (Operand u) = begin (after_star w v) ws (Operand u)
follow v w ws Unknown = begin (after_star w v) ws Unknown
follow v w ws Bang = begin (after_star w v) ws Bang
follow v w ws Tick = Ok (at (Some (flip v)) w ws)
follow v w ws Star = Ok (at None (after_star w v) ws)
follow v w ws Caret = Ok (at None (after_caret w v) ws)
follow v w ws Plus = Ok (at None (after_plus w v) ws)
follow v w ws Opens = begin (after_star w v) ws Opens
follow v w ws Closes = left (sum_with w v) ws
follow v w ws Other = Err Bad

abbrev pub go_at : Option ℕ → Waits → List Waits → Symbol → Result Tables StepErr
go_at None w ws s = begin w ws s
go_at (Some v) w ws s = follow v w ws s

abbrev pub go : Tables → Symbol → Result Tables StepErr
go t s = go_at t.operand t.held t.outer s

abbrev pub go_lexeme : List (List ℕ) → Tables → Lexeme → Result Tables StepErr
go_lexeme names t l = go t (symbol names l.token)

-- the table, where the symbols ended after an operand and no parenthesis is open
abbrev pub end_at : Option ℕ → Waits → List Waits → Option ℕ
end_at (Some v) w [] = Some (sum_with w v)
end_at (Some v) w (f ∷ ws) = None
end_at None w ws = None

-- the place of the first unknown name, where one was met before or not
abbrev pub met : Option ℕ → Symbol → ℕ → Option ℕ
met (Some k) s i = Some k
met None Unknown i = Some i
met None _ i = None

abbrev pub unknown_from : List (List ℕ) → Option ℕ → List Lexeme → Option ℕ
unknown_from names k [] = k
unknown_from names k (l ∷ ls) = unknown_from names (met k (symbol names l.token) l.at) ls

-- the place of the first lexeme, or the end of the text
abbrev pub place : ℕ → List Lexeme → ℕ
place end [] = end
place end (l ∷ ls) = l.at

-- the table is cut to the bits in use, where no name was unknown
abbrev pub answered : ℕ → Option ℕ → ℕ → Result ℕ ExprErr
answered count None v = Ok (bit_and v (used count))
answered count (Some k) v = Err (ExprErr.UnknownPin k)

abbrev pub ended : (count end : ℕ) → (unknown : Option ℕ) → Option ℕ → Result ℕ ExprErr
ended count end unknown (Some v) = answered count unknown v
ended count end unknown None = Err (ExprErr.Syntax end)

-- the refusal of the token at a place
abbrev pub refused : ℕ → StepErr → ExprErr
refused i Bad = ExprErr.Syntax i
refused i Deep = ExprErr.TooDeep i
refused i Mem = ExprErr.Mem

abbrev pub judged : (count end : ℕ) → (unknown : Option ℕ) → Result Tables (StepErr × List Lexeme) → Result ℕ ExprErr
judged count end unknown (Ok t) = ended count end unknown (end_at t.operand t.held t.outer)
judged count end unknown (Err (e, rest)) = Err (refused (place end rest) e)

-- the table of a text over at most six names, or its first refusal
abbrev pub reading : List ℕ → List (List ℕ) → Result ℕ ExprErr
reading bytes names =
    judged (length names) (length bytes) (unknown_from names None (lexemes bytes)) (run (go_lexeme names) first (lexemes bytes))

-- the table of a text over any names, or its first refusal: `IsTruth` and `HasCause` as a value, by the law of expressions
abbrev pub outcome : List ℕ → List (List ℕ) → Result ℕ ExprErr
outcome bytes names = if nat_lt 6 (length names) then Err ExprErr.TooMany else reading bytes names

-- the error is the outcome, or memory ran out
abbrev pub Fails : ExprErr → Result ℕ ExprErr → Type 0
Fails e r = (e ≡ ExprErr.Mem) ⊎ (r ≡ Err e)

-- a reader keeps what waits outside of the innermost parenthesis last
abbrev pub tables_of : Reader → Tables
tables_of r = at r.operand r.held (reverse r.outer.items)

-- the step refuses the symbol so, or memory ran out in a step that would be taken
abbrev pub StepFails : StepErr → Result Tables StepErr → Type 0
StepFails Bad r = r ≡ Err Bad
StepFails Deep r = r ≡ Err Deep
StepFails Mem r = IsOk r
