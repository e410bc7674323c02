-- The place at which a line of a text is shown.
use Rattle.std.specs.Prelude.{◌≡◌, ℕ, ◌+◌, ◌≤◌, nat_lt, List, length, drop, if◌then◌else◌}
use Rattle.std.specs.List.{prefix_len}
use Rattle.gs_text.specs.Bytes.{is_white}
use Rattle.gs_explain.specs.Place.{line_of, bytes_before, bytes_after}

-- the line of this number begins at this byte
pub record IsLineStart (bytes : List ℕ) (line start : ℕ) : Type 0 where
  pub within : start ≤ length bytes
  pub line_is : line_of bytes start ≡ line
  pub begins : bytes_before bytes start ≡ 0

-- how many bytes of white stand from a place on
abbrev pub white_len : (bytes : List ℕ) → (at : ℕ) → ℕ
white_len bytes at = prefix_len is_white (drop at bytes)

-- the first byte that isn't white of the line that begins at this byte, or its begin where all is white
abbrev pub first_solid : (bytes : List ℕ) → (start : ℕ) → ℕ
first_solid bytes start = if nat_lt (white_len bytes start) (bytes_after bytes start) then start + white_len bytes start else start

-- the place at which the line of this number is shown
abbrev pub IsLinePlace : (bytes : List ℕ) → (line at : ℕ) → Type 0
IsLinePlace bytes line at = (start : ℕ) × IsLineStart bytes line start × (at ≡ first_solid bytes start)
