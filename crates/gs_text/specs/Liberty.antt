-- What begins at a byte of a Liberty text, after the syntax of the Liberty reference manual. This is a profile of the format.
use Rattle.std.specs.Prelude.{ℕ, ◌+◌, Bool, ◌==◌, ◌||◌, nat_lt, List, drop, length, slice_index, if◌then◌else◌}
use Rattle.gs_text.specs.Bytes.{is_white, is_liberty_mark}
use Rattle.gs_text.specs.Comments.{comment_front}
use Rattle.gs_text.specs.Runs.{until, is_quote, continues, opens_comment}
use Rattle.gs_text.specs.declared.kinds.Kind.TheVariants.{Word, Text, Mark}
use Rattle.gs_text.specs.declared.scan.Front.{Front}
use Rattle.gs_text.specs.declared.scan.Front.TheVariants.{Gap, Found, Passed, OpenString}

-- a word ends before white, a quote, a mark, a comment, and a backslash that ends a line
abbrev pub ends_liberty_word : ℕ → ℕ → Bool
ends_liberty_word c next = is_white c || c == 34 || is_liberty_mark c || opens_comment c next || continues c next

-- the string whose opening quote stands before cs
abbrev pub string_front : List ℕ → Front
string_front cs = if nat_lt (until is_quote cs) (length cs) then Found Text (until is_quote cs + 2) else OpenString

-- what begins with the byte c before cs
abbrev pub liberty_front : ℕ → List ℕ → Front
liberty_front c cs =
    if is_white c then Gap
    else if continues c (slice_index cs 0) then Passed 2
    else if c == 34 then string_front cs
    else if is_liberty_mark c then Found Mark 1
    else if opens_comment c (slice_index cs 0) then comment_front (drop 1 cs)
    else Found Word (until ends_liberty_word cs + 1)
