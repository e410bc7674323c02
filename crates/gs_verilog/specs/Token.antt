-- Tokens of structural Verilog, after IEEE 1364-2005: what a piece of the text is, and the bytes that it stands for.

use Rattle.std.specs.Prelude.{◌≡◌, ℕ, Bool, true, false, not, List, [], ◌∷◌, codes, ◌==◌, ◌||◌, ◌&&◌, nat_le, Result}
use Rattle.std.specs.Str.{bytes_eq}
use Rattle.gs_drive.specs.Tokens.{tokens as tokens_in}
use Rattle.gs_text.specs.declared.kinds.Kind.{Kind}
use Rattle.gs_text.specs.declared.kinds.Kind.TheVariants.{Word, Escaped, Text, Mark}
use Rattle.gs_text.specs.declared.kinds.Style.TheVariants.{Verilog}
use Rattle.gs_text.specs.declared.kinds.TextErr.{TextErr}

-- the text of an escaped name is without its backslash
pub record Token : Type 0 where
  pub kind : Kind
  pub text : List ℕ

abbrev pub token : Kind → List ℕ → (line : ℕ) → Token
token kind text line = record { kind = kind; text = text }

-- the tokens of a text, or why there are none
abbrev pub tokens : List ℕ → Result (List Token) TextErr
tokens bytes = tokens_in token Verilog bytes

abbrev pub keyword : List ℕ → Token
keyword text = record { kind = Word; text = text }

abbrev pub mark : List ℕ → Token
mark text = record { kind = Mark; text = text }

abbrev pub is_keyword : List ℕ → Bool
is_keyword t =
    bytes_eq t (codes "module") || bytes_eq t (codes "endmodule") || bytes_eq t (codes "input")
    || bytes_eq t (codes "output") || bytes_eq t (codes "wire")

-- a letter or an underscore stands first
abbrev pub begins_name : List ℕ → Bool
begins_name [] = false
begins_name (c ∷ cs) = nat_le 97 c && nat_le c 122 || nat_le 65 c && nat_le c 90 || c == 95

abbrev pub is_name_of : Kind → List ℕ → Bool
is_name_of Word t = begins_name t && not (is_keyword t)
is_name_of Escaped t = true
is_name_of Text t = false
is_name_of Mark t = false

-- a name is an escaped name, or a word that begins with a letter or an underscore and is no keyword
abbrev pub IsName : Token → Type 0
IsName t = is_name_of t.kind t.text ≡ true
