-- Tokens of Liberty: what a piece of the text is, and the bytes that it stands for.

use Rattle.std.specs.Prelude.{ℕ, List, codes, Result, if◌then◌else◌}
use Rattle.std.specs.Str.{bytes_eq}
use Rattle.gs_drive.specs.Tokens.{tokens as tokens_in}
use Rattle.gs_text.specs.declared.kinds.Kind.{Kind}
use Rattle.gs_text.specs.declared.kinds.Kind.TheVariants.{Word, Escaped, Text, Mark}
use Rattle.gs_text.specs.declared.kinds.Style.TheVariants.{Lib}
use Rattle.gs_text.specs.declared.kinds.TextErr.{TextErr}
use Rattle.gs_libtree.specs.declared.token.Class.{Class}

-- a word, a string without its quotes, or a mark
pub data Token : Type 0 where
  word : List ℕ → Token
  quoted : List ℕ → Token
  -- parentheses
  opens : Token
  closes : Token
  -- braces
  enters : Token
  leaves : Token
  comma : Token
  semicolon : Token
  colon : Token
  other : Token

abbrev pub mark_class : List ℕ → Class
mark_class text =
    if bytes_eq text (codes "(") then Class.Opens
    else if bytes_eq text (codes ")") then Class.Closes
    else if bytes_eq text (codes "{") then Class.Enters
    else if bytes_eq text (codes "}") then Class.Leaves
    else if bytes_eq text (codes ",") then Class.Comma
    else if bytes_eq text (codes ";") then Class.Semicolon
    else if bytes_eq text (codes ":") then Class.Colon
    else Class.Other

abbrev pub class_of : Kind → List ℕ → Class
class_of Word text = Class.Word
class_of Escaped text = Class.Other
class_of Text text = Class.Quoted
class_of Mark text = mark_class text

abbrev pub token : Class → List ℕ → Token
token Class.Word text = word text
token Class.Quoted text = quoted text
token Class.Opens text = opens
token Class.Closes text = closes
token Class.Enters text = enters
token Class.Leaves text = leaves
token Class.Comma text = comma
token Class.Semicolon text = semicolon
token Class.Colon text = colon
token Class.Other text = other

-- the token of a piece of this kind and text
abbrev pub token_of : Kind → List ℕ → (line : ℕ) → Token
token_of kind text line = token (class_of kind text) text

-- the tokens of a text, or why there are none
abbrev pub tokens : List ℕ → Result (List Token) TextErr
tokens bytes = tokens_in token_of Lib bytes
