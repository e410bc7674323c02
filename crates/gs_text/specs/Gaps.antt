-- What stands between the pieces of a text: white, comments and continued line ends.
use Rattle.std.specs.Prelude.{◌≡◌, ◌≢◌, ◌⊎◌, ℕ, ◌+◌, false, true, List, [], ◌∷◌, length, drop, slice_index}
use Rattle.gs_text.specs.Before.{in_braces, latest_line}
use Rattle.gs_text.specs.Bytes.{is_white}
use Rattle.gs_text.specs.Lines.{IsCommandLine}
use Rattle.gs_text.specs.Skips.{IsBlockComment, IsSlashComment, IsHashComment, IsContinuation}
use Rattle.gs_text.specs.declared.kinds.Piece.{Piece}
use Rattle.gs_text.specs.declared.kinds.Style.{Style}
use Rattle.gs_text.specs.declared.kinds.Style.TheVariants.{Verilog, Lib, Spef, Sdc}

-- the place stands outside of braces, and no piece of its command before it; the pieces before are given with the latest first
pub record BeginsCommand (bytes : List ℕ) (before : List Piece) (at : ℕ) : Type 0 where
  pub line : ℕ
  pub command : IsCommandLine bytes before at line
  pub first : latest_line before ≢ line
  pub outside : in_braces bytes before ≡ false

-- from place at on, so many bytes are a comment or a continued line end of the style
abbrev pub IsSkipped : Style → (bytes : List ℕ) → (before : List Piece) → (at len : ℕ) → Type 0
IsSkipped Verilog bytes before at len = IsSlashComment len (drop at bytes) ⊎ IsBlockComment len (drop at bytes)
IsSkipped Lib bytes before at len = IsBlockComment len (drop at bytes) ⊎ IsContinuation len (drop at bytes)
IsSkipped Spef bytes before at len = IsSlashComment len (drop at bytes)
IsSkipped Sdc bytes before at len = (IsHashComment len (drop at bytes) × BeginsCommand bytes before at) ⊎ IsContinuation len (drop at bytes)

-- they are one byte of white, or skipped
abbrev pub IsGap : Style → (bytes : List ℕ) → (before : List Piece) → (at len : ℕ) → Type 0
IsGap style bytes before at len = ((len ≡ 1) × (is_white (slice_index bytes at) ≡ true)) ⊎ IsSkipped style bytes before at len

-- from place at up to place to, gaps of these lengths follow one another
abbrev pub Fill : Style → (bytes : List ℕ) → (before : List Piece) → (at to : ℕ) → List ℕ → Type 0
Fill style bytes before at to [] = at ≡ to
Fill style bytes before at to (n ∷ ns) = IsGap style bytes before at n × Fill style bytes before (at + n) to ns

-- from place at up to place to stand gaps alone
pub record IsFilled (style : Style) (bytes : List ℕ) (before : List Piece) (at to : ℕ) : Type 0 where
  pub lengths : List ℕ
  pub fill : Fill style bytes before at to lengths

-- gaps alone stand from place at up to the first piece, between any two, and after the last
abbrev pub HasGaps : Style → (bytes : List ℕ) → (before : List Piece) → (at : ℕ) → List Piece → Type 0
HasGaps style bytes before at [] = IsFilled style bytes before at (length bytes)
HasGaps style bytes before at (p ∷ ps) = IsFilled style bytes before at p.from × HasGaps style bytes (p ∷ before) p.to ps
