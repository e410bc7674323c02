-- Where a piece lies, and what it stands for.
use Rattle.std.specs.Prelude.{◌≡◌, ℕ, ◌+◌, ◌-◌, ◌<◌, ◌≤◌, ◌==◌, false, List, [], ◌∷◌, length, slice_range}
use Rattle.std.specs.List.{All, count_by}
use Rattle.gs_text.specs.Bytes.{is_white}
use Rattle.gs_text.specs.declared.kinds.Kind.{Kind}
use Rattle.gs_text.specs.declared.kinds.Kind.TheVariants.{Word, Escaped, Text, Mark}
use Rattle.gs_text.specs.declared.kinds.Piece.{Piece}

-- how many bytes stand before a piece's text: the backslash of an escaped name, or the quote
abbrev pub opening_len : Kind → ℕ
opening_len Word = 0
opening_len Escaped = 1
opening_len Text = 1
opening_len Mark = 0

-- how many bytes stand after it: the quote
abbrev pub closing_len : Kind → ℕ
closing_len Word = 0
closing_len Escaped = 0
closing_len Text = 1
closing_len Mark = 0

-- the piece has a byte, has room for its quotes, and ends within a text of so many bytes
pub record LiesIn (total : ℕ) (p : Piece) : Type 0 where
  pub some : p.from < p.to
  pub room : p.from + opening_len p.kind + closing_len p.kind ≤ p.to
  pub within : p.to ≤ total

-- the bytes that a piece stands for
abbrev pub text_of : List ℕ → Piece → List ℕ
text_of bytes p = slice_range bytes (p.from + opening_len p.kind) (p.to - closing_len p.kind)

-- the bytes are at least one, and none is white
pub record IsUnbroken (text : List ℕ) : Type 0 where
  pub some : 0 < length text
  pub solid : All (λ c. is_white c ≡ false) text

-- the text of a word or an escaped name is unbroken
abbrev pub HasGoodText : Kind → List ℕ → Type 0
HasGoodText Word text = IsUnbroken text
HasGoodText Escaped text = IsUnbroken text
HasGoodText Text text = Unit {0}
HasGoodText Mark text = Unit {0}

-- the pieces follow one another, none before place at
abbrev pub InOrder : (at : ℕ) → List Piece → Type 0
InOrder at [] = Unit {0}
InOrder at (p ∷ ps) = (at ≤ p.from) × InOrder p.to ps

-- no piece but a string has a newline
abbrev pub IsOneLine : Kind → List ℕ → Type 0
IsOneLine Word bytes = count_by (λ c. c == 10) bytes ≡ 0
IsOneLine Escaped bytes = count_by (λ c. c == 10) bytes ≡ 0
IsOneLine Text bytes = Unit {0}
IsOneLine Mark bytes = count_by (λ c. c == 10) bytes ≡ 0
