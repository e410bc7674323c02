-- What begins at a byte of constraints in the SDC format. This is a profile of the format.
use Rattle.std.specs.Prelude.{ℕ, ◌+◌, Bool, not, ◌==◌, ◌||◌, ◌&&◌, List, slice_index, if◌then◌else◌}
use Rattle.gs_text.specs.Bytes.{is_white, is_sdc_mark}
use Rattle.gs_text.specs.Comments.{line_front}
use Rattle.gs_text.specs.Runs.{until, continues}
use Rattle.gs_text.specs.declared.kinds.Kind.TheVariants.{Word, Text, Mark}
use Rattle.gs_text.specs.declared.scan.Front.{Front}
use Rattle.gs_text.specs.declared.scan.Front.TheVariants.{Gap, Found, Passed}

-- outside of braces a word ends before white, a continued line end, a quote and a mark
abbrev pub ends_sdc_word : ℕ → ℕ → Bool
ends_sdc_word c next = is_white c || continues c next || c == 34 || is_sdc_mark c

-- in braces it ends before white, a continued line end and the closing brace
abbrev pub ends_braced_word : ℕ → ℕ → Bool
ends_braced_word c next = is_white c || continues c next || c == 125

-- a quote, or the end of the line
abbrev pub ends_sdc_text : ℕ → ℕ → Bool
ends_sdc_text c next = c == 34 || c == 10

-- what begins with a quote before cs: a text up to the next quote on the line, or a mark where none stands there
abbrev pub quote_front : List ℕ → Front
quote_front cs = if slice_index cs (until ends_sdc_text cs) == 34 then Found Text (until ends_sdc_text cs + 2) else Found Mark 1

-- what begins in braces with the byte c before cs
abbrev pub braced_front : ℕ → List ℕ → Front
braced_front c cs = if c == 125 then Found Mark 1 else Found Word (until ends_braced_word cs + 1)

-- what begins outside of braces with the byte c before cs, in a command that has a piece before or none
abbrev pub command_front : (begun : Bool) → ℕ → List ℕ → Front
command_front begun c cs =
    if c == 35 && not begun then line_front cs
    else if is_sdc_mark c then Found Mark 1
    else if c == 34 then quote_front cs
    else Found Word (until ends_sdc_word cs + 1)

-- what begins with the byte c before cs, where braces are open or not, and the command has a piece before or none
abbrev pub sdc_front : (braced begun : Bool) → ℕ → List ℕ → Front
sdc_front braced begun c cs =
    if is_white c then Gap
    else if continues c (slice_index cs 0) then Passed 2
    else if braced then braced_front c cs
    else command_front begun c cs
