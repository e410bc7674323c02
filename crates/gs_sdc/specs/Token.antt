-- Tokens of SDC: a text's pieces, where a text between quotes counts as a word.

use Rattle.std.specs.Prelude.{ℕ, ◌==◌, Bool, true, false, List, slice_index, if◌then◌else◌}
use Rattle.gs_text.specs.Pieces.{text_of}
use Rattle.gs_text.specs.declared.kinds.Kind.{Kind}
use Rattle.gs_text.specs.declared.kinds.Kind.TheVariants as kind
use Rattle.gs_text.specs.declared.kinds.Piece.{Piece}
use Rattle.gs_sdc.specs.declared.token.Mark.{Mark}
use Rattle.gs_sdc.specs.declared.token.Mark.TheVariants as mark

pub data Token : Type 0 where
  word : List ℕ → Token
  opens : Token  -- [
  closes : Token  -- ]
  opens_list : Token  -- {
  closes_list : Token  -- }
  stray : Token  -- a quote without its partner

-- what a piece of this kind and these bytes is
abbrev pub mark_by : ℕ → Mark
mark_by c =
    if c == 91 then mark.Opens
    else if c == 93 then mark.Closes
    else if c == 123 then mark.OpensList
    else if c == 125 then mark.ClosesList
    else mark.Stray

abbrev pub mark_of : Kind → List ℕ → Mark
mark_of kind.Word text = mark.Word
mark_of kind.Escaped text = mark.Word
mark_of kind.Text text = mark.Word
mark_of kind.Mark text = mark_by (slice_index text 0)

abbrev pub token_by : Mark → List ℕ → Token
token_by mark.Word text = word text
token_by mark.Opens text = opens
token_by mark.Closes text = closes
token_by mark.OpensList text = opens_list
token_by mark.ClosesList text = closes_list
token_by mark.Stray text = stray

abbrev pub token_of : (bytes : List ℕ) → Piece → Token
token_of bytes p = token_by (mark_of p.kind (text_of bytes p)) (text_of bytes p)
