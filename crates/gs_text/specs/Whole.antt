-- What bytes each kind of piece is made of, in each style, and where it ends.
use Rattle.std.specs.Prelude.{◌≡◌, ◌≢◌, ◌⊎◌, ℕ, ◌+◌, ◌-◌, ◌<◌, ◌≤◌, Bool, true, false, List, [], ◌∷◌, length, drop, slice_index}
use Rattle.gs_text.specs.Before.{in_braces, has_begun}
use Rattle.gs_text.specs.Bytes.{is_white, is_word_byte, is_liberty_mark, is_sdc_mark}
use Rattle.gs_text.specs.Liberty.{ends_liberty_word}
use Rattle.gs_text.specs.Runs.{is_blank, opens_comment, opens_line_comment}
use Rattle.gs_text.specs.Sdc.{ends_sdc_word, ends_braced_word}
use Rattle.gs_text.specs.Verilog.{index_len}
use Rattle.gs_text.specs.declared.kinds.Kind.{Kind}
use Rattle.gs_text.specs.declared.kinds.Kind.TheVariants.{Word, Escaped, Text, Mark}
use Rattle.gs_text.specs.declared.kinds.Piece.{Piece}
use Rattle.gs_text.specs.declared.kinds.Style.{Style}
use Rattle.gs_text.specs.declared.kinds.Style.TheVariants.{Verilog, Lib, Spef, Sdc}

-- so many of these bytes are a whole run: nothing that ends it stands among them, and it ends there, or with the text
pub record IsRun (ends : ℕ → ℕ → Bool) (len : ℕ) (bs : List ℕ) : Type 0 where
  pub inside : (k : ℕ) → k < len → ends (slice_index bs k) (slice_index bs (k + 1)) ≡ false
  pub whole : (len ≡ length bs) ⊎ (ends (slice_index bs len) (slice_index bs (len + 1)) ≡ true)

-- they are a word of Verilog: all bytes of words that follow one another, at least one, and the index, if one follows these
pub record IsVerilogWord (len : ℕ) (bs : List ℕ) : Type 0 where
  pub run : ℕ
  pub some : 0 < run
  pub inside : (k : ℕ) → k < run → is_word_byte (slice_index bs k) ≡ true
  pub whole : is_word_byte (slice_index bs run) ≡ false
  pub index : len ≡ run + index_len (drop run bs)

-- they are a word of the style. In SDC it matters whether braces are open, and whether its command has a piece before it:
-- a hash that begins a command begins a comment
abbrev pub IsWord : Style → (braced begun : Bool) → (len : ℕ) → List ℕ → Type 0
IsWord Verilog braced begun len bs = IsVerilogWord len bs
IsWord Lib braced begun len bs = IsRun ends_liberty_word len bs
IsWord Spef braced begun len bs = IsRun is_blank len bs × (opens_line_comment (slice_index bs 0) (slice_index bs 1) ≡ false)
IsWord Sdc true begun len bs = IsRun ends_braced_word len bs
IsWord Sdc false begun len bs = IsRun ends_sdc_word len bs × (slice_index bs 0 ≡ 35 → begun ≡ true)

-- they are a backslash and the bytes after it up to white, at least one
pub record IsEscapedName (len : ℕ) (bs : List ℕ) : Type 0 where
  pub backslash : slice_index bs 0 ≡ 92
  pub some : 1 < len
  pub inside : (k : ℕ) → k < len → is_white (slice_index bs k) ≡ false
  pub whole : (len ≡ length bs) ⊎ (is_white (slice_index bs len) ≡ true)

-- they are an escaped name of the style; Verilog alone has these
abbrev pub IsEscaped : Style → (len : ℕ) → List ℕ → Type 0
IsEscaped Verilog len bs = IsEscapedName len bs
IsEscaped Lib len bs = ⊥
IsEscaped Spef len bs = ⊥
IsEscaped Sdc len bs = ⊥

-- they are a string: two quotes, and none between
pub record IsQuoted (len : ℕ) (bs : List ℕ) : Type 0 where
  pub size : 2 ≤ len
  pub opens : slice_index bs 0 ≡ 34
  pub closes : slice_index bs (len - 1) ≡ 34
  pub inside : (k : ℕ) → 0 < k → k + 1 < len → slice_index bs k ≢ 34

-- no newline is among them
abbrev pub IsOnOneLine : (len : ℕ) → List ℕ → Type 0
IsOnOneLine len bs = (k : ℕ) → k < len → slice_index bs k ≢ 10

-- they are a string of the style; in SDC it is on one line, and outside of braces
abbrev pub IsString : Style → (braced : Bool) → (len : ℕ) → List ℕ → Type 0
IsString Verilog braced len bs = ⊥
IsString Lib braced len bs = IsQuoted len bs
IsString Spef braced len bs = ⊥
IsString Sdc true len bs = ⊥
IsString Sdc false len bs = IsQuoted len bs × IsOnOneLine len bs

-- nothing else in Verilog begins with the first of these bytes: no white, no word, no comment and no escaped name
pub record IsLoneByte (bs : List ℕ) : Type 0 where
  pub solid : is_white (slice_index bs 0) ≡ false
  pub apart : is_word_byte (slice_index bs 0) ≡ false
  pub line_comment : opens_line_comment (slice_index bs 0) (slice_index bs 1) ≡ false
  pub comment : opens_comment (slice_index bs 0) (slice_index bs 1) ≡ false
  pub alone : slice_index bs 0 ≡ 92 → (length bs ≡ 1) ⊎ (is_white (slice_index bs 1) ≡ true)

-- the first of these bytes is a quote, and past it each other quote stands on a later line
abbrev pub IsLoneQuote : List ℕ → Type 0
IsLoneQuote bs =
    (slice_index bs 0 ≡ 34) × ((k : ℕ) → 0 < k → slice_index bs k ≡ 34 → (j : ℕ) × (j < k) × (slice_index bs j ≡ 10))

-- the first of these bytes is a mark of the style
abbrev pub IsMark : Style → (braced : Bool) → List ℕ → Type 0
IsMark Verilog braced bs = IsLoneByte bs
IsMark Lib braced bs = is_liberty_mark (slice_index bs 0) ≡ true
IsMark Spef braced bs = ⊥
IsMark Sdc true bs = slice_index bs 0 ≡ 125
IsMark Sdc false bs = (is_sdc_mark (slice_index bs 0) ≡ true) ⊎ IsLoneQuote bs

-- so many of these bytes, no fewer and no more, are a piece of the kind
abbrev pub IsWhole : Style → (braced begun : Bool) → Kind → (len : ℕ) → List ℕ → Type 0
IsWhole style braced begun Word len bs = IsWord style braced begun len bs
IsWhole style braced begun Escaped len bs = IsEscaped style len bs
IsWhole style braced begun Text len bs = IsString style braced len bs
IsWhole style braced begun Mark len bs = (len ≡ 1) × IsMark style braced bs

-- each piece is whole; those before are given with the latest first
abbrev pub AreWhole : Style → (bytes : List ℕ) → (before : List Piece) → List Piece → Type 0
AreWhole style bytes before [] = Unit {0}
AreWhole style bytes before (p ∷ ps) =
    IsWhole style (in_braces bytes before) (has_begun p.line before) p.kind (p.to - p.from) (drop p.from bytes)
    × AreWhole style bytes (p ∷ before) ps
