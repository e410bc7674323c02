-- Files and failures as plain lists.
use Rattle.std.specs.Prelude.{ℕ, ◌+◌, Bool, true, false, not, ◌&&◌, List, [], ◌∷◌, Option, map, option_map, if◌then◌else◌}
use Rattle.std.specs.List.{find, list_any}
use Rattle.std.specs.Str.{bytes_eq}
use Rattle.gs_shelf.specs.declared.calls.Op.{Op}
use Rattle.gs_shelf.specs.declared.calls.Op.TheVariants.{Fetch, Store, Say}
use Rattle.gs_shelf.specs.declared.lists.StoredFile.{StoredFile}
use Rattle.gs_shelf.specs.declared.lists.Failure.{Failure}

abbrev pub has_name : List ℕ → StoredFile → Bool
has_name name f = bytes_eq f.name name

-- what the list has at a name
abbrev pub lookup : List StoredFile → List ℕ → Option (List ℕ)
lookup fs name = option_map (λ f. f.bytes) (find (has_name name) fs)

-- no name stands twice
abbrev pub distinct : List (List ℕ) → Bool
distinct [] = true
distinct (n ∷ ns) = not (list_any (bytes_eq n) ns) && distinct ns

-- no two files of the list have one name
abbrev pub names_differ : List StoredFile → Bool
names_differ fs = distinct (map (λ f. f.name) fs)

abbrev pub same_op : Op → Op → Bool
same_op Fetch Fetch = true
same_op Store Store = true
same_op Say Say = true
same_op _ _ = false

-- how often this pair stands in the list of failed calls
abbrev pub times : List Failure → Op → List ℕ → ℕ
times [] op name = 0
times (f ∷ fs) op name = times fs op name + (if same_op f.op op && bytes_eq f.name name then 1 else 0)
