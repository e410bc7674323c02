-- What is said of words that make no job.
use Rattle.std.specs.Prelude.{ℕ, nat_lt, List, [], ◌∷◌, ◌++◌, length, codes, if◌then◌else◌}
use Rattle.std.specs.List.{concat}
use Rattle.std.specs.Str.{bytes_eq}
use Rattle.gs_top.specs.Job.{check_options, size_options}

-- of a command whose options are given, each with a value, all that is left is that a name is empty or stands twice, or that a number is none of its range; of more words the first
abbrev pub extra : List (List ℕ) → List ℕ
extra [] = codes "a file's name is empty, two options name the same file, or a number is out of its range"
extra (w ∷ ws) = concat (codes "'" ∷ w ∷ codes "' is one word too many" ∷ [])

abbrev pub in_place_of : (word option : List ℕ) → List ℕ
in_place_of word option = concat (codes "'" ∷ word ∷ codes "' stands where " ∷ option ∷ codes " is to stand" ∷ [])

-- the first of the words that departs from these options in this order, each with a value
abbrev pub departure : (options words : List (List ℕ)) → List ℕ
departure [] ws = extra ws
departure (o ∷ os) [] = concat (o ∷ codes " is missing" ∷ [])
departure (o ∷ os) (w ∷ []) = if bytes_eq w o then concat (o ∷ codes " has no value" ∷ []) else in_place_of w o
departure (o ∷ os) (w ∷ value ∷ ws) = if bytes_eq w o then departure os ws else in_place_of w o

-- after `check` the option `--from` is meant where there are more words than its other options take
abbrev pub check_departure : List (List ℕ) → List ℕ
check_departure ws = if nat_lt 10 (length ws) then departure (check_options ++ codes "--from" ∷ []) ws else departure check_options ws

-- the first word that departs from the form of the command that it is
abbrev pub odd_word : List (List ℕ) → List ℕ
odd_word [] = codes "no command is given"
odd_word (c ∷ ws) =
    if bytes_eq c (codes "size") then departure size_options ws
    else if bytes_eq c (codes "check") then check_departure ws
    else concat (codes "'" ∷ c ∷ codes "' is no command" ∷ [])

abbrev pub size_synopsis : List ℕ
size_synopsis = codes "usage: gate-sizer size --lib FILE --verilog FILE --spef FILE --sdc FILE --sizes FILE --log FILE --report FILE --passes NUMBER\n"

abbrev pub check_synopsis : List ℕ
check_synopsis = codes "usage: gate-sizer check --lib FILE --verilog FILE --spef FILE --sdc FILE --report FILE [--from FILE]\n"

-- the form of the command that is meant, or of all
abbrev pub synopsis : List (List ℕ) → List ℕ
synopsis [] = concat (size_synopsis ∷ check_synopsis ∷ [])
synopsis (c ∷ ws) =
    if bytes_eq c (codes "size") then size_synopsis
    else if bytes_eq c (codes "check") then check_synopsis
    else concat (size_synopsis ∷ check_synopsis ∷ [])

abbrev pub usage_text : List (List ℕ) → List ℕ
usage_text words = concat (codes "gate-sizer: " ∷ odd_word words ∷ codes "\n" ∷ synopsis words ∷ [])
