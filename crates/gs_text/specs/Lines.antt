-- The line of a piece.
use Rattle.std.specs.Prelude.{◌≡◌, ◌≢◌, ◌⊎◌, ℕ, ◌+◌, ◌-◌, ◌<◌, ◌≤◌, ◌==◌, List, [], ◌∷◌, take, slice_index}
use Rattle.std.specs.List.{count_by}
use Rattle.gs_text.specs.declared.kinds.Piece.{Piece}
use Rattle.gs_text.specs.declared.kinds.Style.{Style}
use Rattle.gs_text.specs.declared.kinds.Style.TheVariants.{Verilog, Lib, Spef, Sdc}

-- the line of a place is one more than the newlines before it
abbrev pub line_at : (bytes : List ℕ) → (at : ℕ) → ℕ
line_at bytes at = 1 + count_by (λ c. c == 10) (take at bytes)

-- byte k belongs to one of the pieces
abbrev pub IsInPiece : (k : ℕ) → List Piece → Type 0
IsInPiece k [] = ⊥
IsInPiece k (p ∷ ps) = ((p.from ≤ k) × (k < p.to)) ⊎ IsInPiece k ps

-- byte k is one of a comment: a hash that belongs to no piece stands there or before it on its line. A hash that begins no
-- command is a byte of a word, and so in a piece
pub record IsInComment (bytes : List ℕ) (before : List Piece) (k : ℕ) : Type 0 where
  pub from : ℕ
  pub upto : from ≤ k
  pub hash : slice_index bytes from ≡ 35
  pub free : IsInPiece from before → ⊥
  pub one_line : (j : ℕ) → from ≤ j → j ≤ k → slice_index bytes j ≢ 10

-- the newline at byte k, if one stands there, continues its line: a backslash stands directly before it, which is in no comment
pub record IsContinued (bytes : List ℕ) (before : List Piece) (k : ℕ) : Type 0 where
  pub some : 0 < k
  pub backslash : slice_index bytes (k - 1) ≡ 92
  pub free : IsInComment bytes before (k - 1) → ⊥

-- the line is the first of the command in which the place stands, past these pieces. It begins at byte start, past a newline
-- that doesn't continue the line before, and each newline from there up to the place continues its line
pub record IsCommandLine (bytes : List ℕ) (before : List Piece) (at line : ℕ) : Type 0 where
  pub start : ℕ
  pub upto : start ≤ at
  pub line_is : line ≡ line_at bytes start
  pub begins : (start ≡ 0) ⊎ ((slice_index bytes (start - 1) ≡ 10) × (IsContinued bytes before (start - 1) → ⊥))
  pub goes_on : (k : ℕ) → start ≤ k → k < at → slice_index bytes k ≡ 10 → IsContinued bytes before k

-- a piece, past these pieces, has the line on which it begins, or in SDC the one on which its command begins
abbrev pub HasLine : Style → (bytes : List ℕ) → (before : List Piece) → Piece → Type 0
HasLine Verilog bytes before p = p.line ≡ line_at bytes p.from
HasLine Lib bytes before p = p.line ≡ line_at bytes p.from
HasLine Spef bytes before p = p.line ≡ line_at bytes p.from
HasLine Sdc bytes before p = IsCommandLine bytes before p.from p.line

-- each piece has its line; those before are given with the latest first
abbrev pub HaveLines : Style → (bytes : List ℕ) → (before : List Piece) → List Piece → Type 0
HaveLines style bytes before [] = Unit {0}
HaveLines style bytes before (p ∷ ps) = HasLine style bytes before p × HaveLines style bytes (p ∷ before) ps

-- a place past these pieces has one first line of its command, and no other
abbrev pub IsOneLineOf : (bytes : List ℕ) → (before : List Piece) → (at : ℕ) → Type 0
IsOneLineOf bytes before at = (line other : ℕ) → IsCommandLine bytes before at line → IsCommandLine bytes before at other → other ≡ line
