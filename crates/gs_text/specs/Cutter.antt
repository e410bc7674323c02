-- A place between pieces, and the next piece from there.
use Rattle.std.specs.Prelude.{◌≡◌, ℕ, ◌+◌, ◌-◌, ◌≤◌, ◌==◌, false, List, [], ◌∷◌, length, drop, take, slice_index, Option, None, Some, Result, Ok, Err}
use Rattle.std.specs.List.{count_by}
use Rattle.gs_text.specs.Before.{in_braces, latest_line, brace_by}
use Rattle.gs_text.specs.Cut.{cut, onto, line_after, first_after}
use Rattle.gs_text.specs.Pieces.{LiesIn, HasGoodText, text_of}
use Rattle.gs_text.specs.declared.cutter.Next.{Next}
use Rattle.gs_text.specs.declared.cutter.Place.{Place}
use Rattle.gs_text.specs.declared.kinds.Piece.{Piece}
use Rattle.gs_text.specs.declared.kinds.Style.{Style}
use Rattle.gs_text.specs.declared.kinds.TextErr.{TextErr}

-- the place before the first byte of a text
abbrev pub start : Place
start = record { at = 0; line = 1; first = 1; braced = false; latest = 0 }

-- the place lies in the text, and its lines are among the text's up to there
pub record IsPlace (bytes : List ℕ) (place : Place) : Type 0 where
  pub within : place.at ≤ length bytes
  pub lines : place.line ≤ place.at + 1
  pub command : place.first ≤ place.line

-- what the place keeps of the pieces before it, the latest first, is so
pub record Agrees (bytes : List ℕ) (before : List Piece) (place : Place) : Type 0 where
  pub braced : place.braced ≡ in_braces bytes before
  pub latest : place.latest ≡ latest_line before

-- the pieces from the place on, where these stand before it, the latest first; or the first fault
abbrev pub left : Style → (bytes : List ℕ) → (before : List Piece) → Place → Result (List Piece) TextErr
left style bytes before place = cut style bytes before place.line place.first place.at 0 (drop place.at bytes)

-- the fault, if there is one
abbrev pub fault_of : Result (List Piece) TextErr → Option TextErr
fault_of (Ok ps) = None
fault_of (Err e) = Some e

-- p is the first piece of what is left, and after is the place past it
pub record IsNext (style : Style) (bytes : List ℕ) (place : Place) (p : Piece) (after : Place) : Type 0 where
  pub first : (before : List Piece) → Agrees bytes before place → left style bytes before place ≡ onto (p ∷ []) (left style bytes (p ∷ before) after)
  pub agrees : (before : List Piece) → Agrees bytes before place → Agrees bytes (p ∷ before) after
  pub begins : place.at ≤ p.from
  pub ends : after.at ≡ p.to
  pub place_after : IsPlace bytes after
  pub inside : LiesIn (length bytes) p
  pub solid : HasGoodText p.kind (text_of bytes p)

-- what comes next from a place: a piece, or the end of the text, or its fault
abbrev pub Answers : Style → List ℕ → Place → Next → Type 0
Answers style bytes place (Next.Piece p after) = IsNext style bytes place p after
Answers style bytes place Next.End = (before : List Piece) → Agrees bytes before place → left style bytes before place ≡ Ok []
Answers style bytes place (Next.Fault e) = (before : List Piece) → Agrees bytes before place → left style bytes before place ≡ Err e

-- the place past a byte of white
abbrev pub past_white : (byte : ℕ) → Place → Place
past_white byte place = record {
  at = place.at + 1;
  line = line_after byte place.line;
  first = first_after byte place.line place.first;
  braced = place.braced;
  latest = place.latest;
}

-- the place past a comment or a continued line end that ends before byte to
abbrev pub past_comment : (bytes : List ℕ) → (to : ℕ) → Place → Place
past_comment bytes to place = record {
  at = to;
  line = place.line + count_by (λ c. c == 10) (take (to - place.at) (drop place.at bytes));
  first = place.first;
  braced = place.braced;
  latest = place.latest;
}

-- the place past a piece that begins there
abbrev pub past_piece : (bytes : List ℕ) → (p : Piece) → Place → Place
past_piece bytes p place = record {
  at = p.to;
  line = place.line + count_by (λ c. c == 10) (take (p.to - p.from) (drop p.from bytes));
  first = place.first;
  braced = brace_by p.kind (slice_index bytes p.from) place.braced;
  latest = p.line;
}
