-- What begins at a byte of a SPEF text, after IEEE 1481-1999. This is a profile of the format.
use Rattle.std.specs.Prelude.{ℕ, ◌+◌, List, slice_index, if◌then◌else◌}
use Rattle.gs_text.specs.Bytes.{is_white}
use Rattle.gs_text.specs.Comments.{line_front}
use Rattle.gs_text.specs.Runs.{until, is_blank, opens_line_comment}
use Rattle.gs_text.specs.declared.kinds.Kind.TheVariants.{Word}
use Rattle.gs_text.specs.declared.scan.Front.{Front}
use Rattle.gs_text.specs.declared.scan.Front.TheVariants.{Gap, Found}

-- what begins with the byte c before cs; in a word two slashes are two of its bytes
abbrev pub spef_front : ℕ → List ℕ → Front
spef_front c cs =
    if is_white c then Gap
    else if opens_line_comment c (slice_index cs 0) then line_front cs
    else Found Word (until is_blank cs + 1)
