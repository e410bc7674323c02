-- What begins at a byte of a Verilog text, after the lexical rules of IEEE 1364-2005. This is a profile of the format.
use Rattle.std.specs.Prelude.{ℕ, ◌+◌, ◌==◌, ◌&&◌, nat_lt, List, [], ◌∷◌, drop, slice_index, if◌then◌else◌}
use Rattle.std.specs.List.{prefix_len}
use Rattle.gs_text.specs.Bytes.{is_white, is_digit, is_word_byte}
use Rattle.gs_text.specs.Comments.{comment_front, line_front}
use Rattle.gs_text.specs.Runs.{until, is_blank, opens_comment, opens_line_comment}
use Rattle.gs_text.specs.declared.kinds.Kind.TheVariants.{Word, Escaped, Mark}
use Rattle.gs_text.specs.declared.scan.Front.{Front}
use Rattle.gs_text.specs.declared.scan.Front.TheVariants.{Gap, Found}

-- how many bytes one or more digits and a closing bracket take at the front, 0 where they don't stand there
abbrev pub closed_len : List ℕ → ℕ
closed_len cs =
    if nat_lt 0 (prefix_len is_digit cs) && slice_index cs (prefix_len is_digit cs) == 93
    then prefix_len is_digit cs + 1
    else 0

-- how many bytes an index takes at the front: an opening bracket, digits, a closing bracket; 0 where there is none
abbrev pub index_len : List ℕ → ℕ
index_len [] = 0
index_len (c ∷ cs) = if c == 91 && nat_lt 0 (closed_len cs) then closed_len cs + 1 else 0

-- how many bytes a word goes on for, past its first: the run of word bytes, and an index that follows it
abbrev pub word_len : List ℕ → ℕ
word_len cs = prefix_len is_word_byte cs + index_len (drop (prefix_len is_word_byte cs) cs)

-- an escaped name, whose backslash stands before cs: up to white, and a backslash alone is a mark
abbrev pub escaped_front : List ℕ → Front
escaped_front cs = if nat_lt 0 (until is_blank cs) then Found Escaped (until is_blank cs + 1) else Found Mark 1

-- what begins with the byte c before cs
abbrev pub verilog_front : ℕ → List ℕ → Front
verilog_front c cs =
    if is_white c then Gap
    else if is_word_byte c then Found Word (word_len cs + 1)
    else if opens_line_comment c (slice_index cs 0) then line_front cs
    else if opens_comment c (slice_index cs 0) then comment_front (drop 1 cs)
    else if c == 92 then escaped_front cs
    else Found Mark 1
