-- The tokens of a text: white is passed over, and each other byte that no token has taken begins one.

use Rattle.std.specs.Prelude.{ℕ, zero, suc, ◌+◌, ◌-◌, ◌<◌, ◌≤◌, Bool, ◌==◌, ◌||◌, ◌&&◌, nat_le, List, [], ◌∷◌, map, take, if◌then◌else◌}
use Rattle.std.specs.List.{prefix_len}
use Rattle.gs_text.specs.Bytes.{is_white, is_digit}
use Rattle.gs_expr.specs.Token.{Token, token, Lexeme}
use Rattle.gs_expr.specs.declared.token.Class.{Class}
use Rattle.gs_expr.specs.declared.token.Class.TheVariants.{Zero, One, Name, Bang, Tick, Star, Caret, Plus, Opens, Closes, Other}
use Rattle.gs_expr.specs.declared.token.Front.{Front}
use Rattle.gs_expr.specs.declared.token.Front.TheVariants.{Gap, Found}

-- a letter or an underscore
abbrev pub begins_name : ℕ → Bool
begins_name c = nat_le 97 c && nat_le c 122 || nat_le 65 c && nat_le c 90 || c == 95

-- these, digits and square brackets
abbrev pub is_name_byte : ℕ → Bool
is_name_byte c = begins_name c || is_digit c || c == 91 || c == 93

-- what a byte is that is neither white nor begins a name
abbrev pub mark : ℕ → Class
mark c =
    if c == 48 then Zero
    else if c == 49 then One
    else if c == 33 then Bang
    else if c == 39 then Tick
    else if c == 42 || c == 38 then Star
    else if c == 94 then Caret
    else if c == 43 || c == 124 then Plus
    else if c == 40 then Opens
    else if c == 41 then Closes
    else Other

-- what begins with the byte c before cs: white, or a token of so many bytes; a name is as long as it can be
abbrev pub begins : ℕ → List ℕ → Front
begins c cs =
    if is_white c then Gap
    else if begins_name c then Found Name (prefix_len is_name_byte cs + 1)
    else Found (mark c) 1

-- a token has a byte, and takes at most so many
abbrev pub FitsIn : ℕ → Front → Type 0
FitsIn n Gap = Unit {0}
FitsIn n (Found class len) = (0 < len) × (len ≤ n)

-- what begins at place at before these bytes, and then what go gives past so many further bytes
abbrev pub put : Front → List ℕ → (at : ℕ) → (ℕ → List Lexeme) → List Lexeme
put Gap bytes at go = go 0
put (Found class len) bytes at go = record { token = token class (take len bytes); at = at } ∷ go (len - 1)

-- the tokens past the first skip bytes, where at bytes came before
unfoldable pub cut : (at skip : ℕ) → List ℕ → List Lexeme
cut at skip [] = []
cut at (suc skip) (c ∷ cs) = cut (at + 1) skip cs
cut at zero (c ∷ cs) = put (begins c cs) (c ∷ cs) at (λ skip. cut (at + 1) skip cs)

-- the tokens of a text with their places
abbrev pub lexemes : List ℕ → List Lexeme
lexemes bytes = cut 0 0 bytes

abbrev pub tokens : List ℕ → List Token
tokens bytes = map (λ l. l.token) (lexemes bytes)
