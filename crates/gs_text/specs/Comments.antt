-- The comments that several formats share.
use Rattle.std.specs.Prelude.{ℕ, ◌+◌, nat_lt, List, length, if◌then◌else◌}
use Rattle.gs_text.specs.Runs.{until, closes_comment, is_newline}
use Rattle.gs_text.specs.declared.scan.Front.{Front}
use Rattle.gs_text.specs.declared.scan.Front.TheVariants.{Passed, OpenComment}

-- the comment whose slash and star stand before cs
abbrev pub comment_front : List ℕ → Front
comment_front cs = if nat_lt (until closes_comment cs) (length cs) then Passed (until closes_comment cs + 4) else OpenComment

-- the comment up to the line's end that begins with one byte before cs
abbrev pub line_front : List ℕ → Front
line_front cs = Passed (until is_newline cs + 1)
