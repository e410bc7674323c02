-- What it is to be found in a text: to be the first piece that passes a test.

use Rattle.std.specs.Prelude.{◌≡◌, ℕ, zero, suc, ◌+◌, ◌<◌, ◌≤◌, Bool, true, false, List, length, slice_get, Option, None, Some, Ok, if◌then◌else◌}
use Rattle.gs_text.specs.Cut.{pieces}
use Rattle.gs_text.specs.declared.kinds.Piece.{Piece}
use Rattle.gs_text.specs.declared.kinds.Style.{Style}
use Rattle.gs_locate.specs.Statement.{start_of}

-- a test of the piece at a place, in a statement that begins at a place
abbrev pub Test : Type 0
Test = (bytes : List ℕ) → List Piece → (start at : ℕ) → Bool

-- the piece at a place passes
abbrev pub passes : Test → Style → (bytes : List ℕ) → List Piece → ℕ → Bool
passes test style bytes ps at = test bytes ps (start_of style bytes ps at) at

-- of so many places this is the first that passes
pub record IsFirst (test : ℕ → Bool) (count at : ℕ) : Type 0 where
  pub inside : at < count
  pub here : test at ≡ true
  pub before : (k : ℕ) → k < at → test k ≡ false

-- the first place that passes, or there is none
abbrev pub IsFound : (test : ℕ → Bool) → (count : ℕ) → Option ℕ → Type 0
IsFound test count (Some at) = IsFirst test count at
IsFound test count None = (k : ℕ) → k < count → test k ≡ false

-- the byte at which the piece at a place begins, 0 where there is none
abbrev pub byte_of : Option Piece → ℕ
byte_of None = 0
byte_of (Some p) = p.from

abbrev pub byte_at : List Piece → ℕ → ℕ
byte_at ps at = byte_of (slice_get ps at)

-- the first of a text's pieces that passes begins at this byte
pub record BeginsAt (test : List Piece → ℕ → Bool) (style : Style) (bytes : List ℕ) (byte : ℕ) : Type 0 where
  pub found : List Piece
  pub cut_is : pieces style bytes ≡ Ok found
  pub at : ℕ
  pub first : IsFirst (test found) (length found) at
  pub begins : byte ≡ byte_at found at

-- the byte at which the first of a text's pieces begins that passes, or none does; a text that isn't cut has no pieces
abbrev pub Locates : (test : List Piece → ℕ → Bool) → Style → (bytes : List ℕ) → Option ℕ → Type 0
Locates test style bytes (Some byte) = BeginsAt test style bytes byte
Locates test style bytes None = (ps : List Piece) → pieces style bytes ≡ Ok ps → (at : ℕ) → at < length ps → test ps at ≡ false

-- the same of a test that asks for the statement
abbrev pub IsLocated : Test → Style → (bytes : List ℕ) → Option ℕ → Type 0
IsLocated test style bytes found = Locates (passes test style bytes) style bytes found

-- how many of so many places pass
abbrev pub passing : (test : ℕ → Bool) → (count : ℕ) → ℕ
passing test zero = 0
passing test (suc count) = if test count then passing test count + 1 else passing test count

-- of so many places this is the one that passes with n others before it
pub record IsNth (test : ℕ → Bool) (n count at : ℕ) : Type 0 where
  pub inside : at < count
  pub here : test at ≡ true
  pub before : passing test at ≡ n

-- the place that passes with n others before it, or no more than n pass
abbrev pub IsNthFound : (test : ℕ → Bool) → (n count : ℕ) → Option ℕ → Type 0
IsNthFound test n count (Some at) = IsNth test n count at
IsNthFound test n count None = passing test count ≤ n

-- the piece of a text that passes with n others before it begins at this byte
pub record NthBeginsAt (test : List Piece → ℕ → Bool) (n : ℕ) (style : Style) (bytes : List ℕ) (byte : ℕ) : Type 0 where
  pub found : List Piece
  pub cut_is : pieces style bytes ≡ Ok found
  pub at : ℕ
  pub nth : IsNth (test found) n (length found) at
  pub begins : byte ≡ byte_at found at

-- the byte at which that piece begins, or no more than n pass
abbrev pub LocatesNth : (test : List Piece → ℕ → Bool) → (n : ℕ) → Style → (bytes : List ℕ) → Option ℕ → Type 0
LocatesNth test n style bytes (Some byte) = NthBeginsAt test n style bytes byte
LocatesNth test n style bytes None = (ps : List Piece) → pieces style bytes ≡ Ok ps → passing (test ps) (length ps) ≤ n

-- the same of a test that asks for the statement
abbrev pub IsNthLocated : Test → (n : ℕ) → Style → (bytes : List ℕ) → Option ℕ → Type 0
IsNthLocated test n style bytes found = LocatesNth (passes test style bytes) n style bytes found
