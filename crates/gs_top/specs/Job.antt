-- The form of a command's words, and the job that they make.
use Rattle.std.specs.Prelude.{◌≡◌, ℕ, ◌+◌, ◌*◌, ◌-◌, Bool, true, false, not, ◌&&◌, ◌||◌, ◌++◌, ◌==◌, nat_le, List, [], ◌∷◌, fold, Option, Some, None, unwrap_or, Result, Ok, Err, length, codes, if◌then◌else◌}
use Rattle.std.specs.List.{list_any}
use Rattle.std.specs.Option.{is_some}
use Rattle.std.specs.Str.{all_ascii_digits, bytes_eq}
use Rattle.gs_top.specs.declared.job.Job.{Job}
use Rattle.gs_top.specs.declared.job.Job.TheVariants.{Size, Check}
use Rattle.gs_top.specs.declared.job.CheckJob.{CheckJob}
use Rattle.gs_top.specs.declared.job.SizeJob.{SizeJob}
use Rattle.gs_top.specs.declared.job.TheConstants.{MOST_PASSES}
use Rattle.gs_top.specs.declared.read.WordsErr.{WordsErr}
use Rattle.gs_top.specs.declared.read.WordsErr.TheVariants.{Usage, Mem}
use Rattle.gs_top.specs.declared.status.Input.{Input}
use Rattle.gs_top.specs.declared.status.Input.TheVariants.{Lib, Verilog, Spef, Sdc, From}
use Rattle.gs_top.specs.declared.status.Output.{Output}
use Rattle.gs_top.specs.declared.status.Output.TheVariants.{Sizes, Log, Report, Console}

-- the options of `size`, in the order in which its words give them
abbrev pub size_options : List (List ℕ)
size_options = codes "--lib" ∷ codes "--verilog" ∷ codes "--spef" ∷ codes "--sdc" ∷ codes "--sizes" ∷ codes "--log" ∷ codes "--report" ∷ codes "--passes" ∷ []

-- the options of `check`, after which `--from` may stand
abbrev pub check_options : List (List ℕ)
check_options = codes "--lib" ∷ codes "--verilog" ∷ codes "--spef" ∷ codes "--sdc" ∷ codes "--report" ∷ []

-- the words are these options in this order, each followed by one value
abbrev pub are_given : (options words : List (List ℕ)) → Bool
are_given [] [] = true
are_given (o ∷ os) (w ∷ value ∷ ws) = bytes_eq w o && are_given os ws
are_given _ _ = false

-- the value of this option among words of options and their values; empty where it is not given
abbrev pub value_of : (option : List ℕ) → (words : List (List ℕ)) → List ℕ
value_of option (w ∷ value ∷ ws) = if bytes_eq w option then value else value_of option ws
value_of option _ = []

-- the number that decimal digits write
abbrev pub with_digit : ℕ → ℕ → ℕ
with_digit n digit = n * 10 + (digit - 48)

abbrev pub number_in : List ℕ → ℕ
number_in digits = fold with_digit 0 digits

-- a number that is not above the most
abbrev pub if_within : (most : ℕ) → (is_number : Bool) → ℕ → Option ℕ
if_within most is_number n = if is_number && nat_le n most then Some n else None

-- the number that a word writes: one or more digits and nothing else
abbrev pub number_of : (most : ℕ) → List ℕ → Option ℕ
number_of most word = if_within most (not (length word == 0) && all_ascii_digits word) (number_in word)

-- how many passes the words after `size` ask for, where their number is in its range
abbrev pub passes_of : List (List ℕ) → Option ℕ
passes_of words = number_of MOST_PASSES (value_of (codes "--passes") words)

-- the words after `size` have its form
abbrev pub has_size_form : List (List ℕ) → Bool
has_size_form words = are_given size_options words && is_some (passes_of words)

-- without a file of sizes, without workers, and with as many entries as any run needs
abbrev pub size_with : List (List ℕ) → SizeJob
size_with words = record {
  lib = value_of (codes "--lib") words;
  verilog = value_of (codes "--verilog") words;
  spef = value_of (codes "--spef") words;
  sdc = value_of (codes "--sdc") words;
  sizes = value_of (codes "--sizes") words;
  log = value_of (codes "--log") words;
  report = value_of (codes "--report") words;
  from = None;
  workers = 0;
  passes = unwrap_or (passes_of words) 0;
  budget = None;
}

-- the words after `check` name sizes to start from
abbrev pub has_from : List (List ℕ) → Bool
has_from words = are_given (check_options ++ codes "--from" ∷ []) words

-- the words after `check` have its form
abbrev pub has_check_form : List (List ℕ) → Bool
has_check_form words = are_given check_options words || has_from words

-- the file of the sizes to start from, where the words name one
abbrev pub check_from : List (List ℕ) → Option (List ℕ)
check_from words = if has_from words then Some (value_of (codes "--from") words) else None

abbrev pub check_with : List (List ℕ) → CheckJob
check_with words = record {
  lib = value_of (codes "--lib") words;
  verilog = value_of (codes "--verilog") words;
  spef = value_of (codes "--spef") words;
  sdc = value_of (codes "--sdc") words;
  report = value_of (codes "--report") words;
  from = check_from words;
}

-- no name is empty, and all differ
abbrev pub are_names : List (List ℕ) → Bool
are_names [] = true
are_names (n ∷ ns) = not (length n == 0) && (not (list_any (bytes_eq n) ns) && are_names ns)

-- a name that may be left out, as a list
abbrev pub name_if_given : Option (List ℕ) → List (List ℕ)
name_if_given None = []
name_if_given (Some name) = name ∷ []

-- the names of a job's files
abbrev pub names_of : Job → List (List ℕ)
names_of (Size j) = j.lib ∷ j.verilog ∷ j.spef ∷ j.sdc ∷ j.sizes ∷ j.log ∷ j.report ∷ name_if_given j.from
names_of (Check j) = j.lib ∷ j.verilog ∷ j.spef ∷ j.sdc ∷ j.report ∷ name_if_given j.from

-- its numbers are in their ranges: no workers yet, and at most so many passes
abbrev pub has_numbers : Job → Bool
has_numbers (Size j) = (j.workers == 0) && nat_le j.passes MOST_PASSES
has_numbers (Check j) = true

-- the condition of a job
abbrev pub is_good : Job → Bool
is_good job = has_numbers job && are_names (names_of job)

-- the words after the command `size` make a job
abbrev pub is_size : List (List ℕ) → Bool
is_size words = has_size_form words && is_good (Size (size_with words))

abbrev pub size_of : List (List ℕ) → Option Job
size_of words = if is_size words then Some (Size (size_with words)) else None

-- the words after the command `check` make a job
abbrev pub is_check : List (List ℕ) → Bool
is_check words = has_check_form words && is_good (Check (check_with words))

abbrev pub check_of : List (List ℕ) → Option Job
check_of words = if is_check words then Some (Check (check_with words)) else None

-- the job of a command's words, the command first; other words make none
abbrev pub job_of : List (List ℕ) → Option Job
job_of [] = None
job_of (command ∷ words) = if bytes_eq command (codes "size") then size_of words else if bytes_eq command (codes "check") then check_of words else None

-- a name that may be left out; empty where it is
abbrev pub name_or_none : Option (List ℕ) → List ℕ
name_or_none None = []
name_or_none (Some name) = name

-- the name of a file that a job reads, and of one that it writes; empty for one that it does not read or write
abbrev pub input_of : Job → Input → List ℕ
input_of (Size j) Lib = j.lib
input_of (Size j) Verilog = j.verilog
input_of (Size j) Spef = j.spef
input_of (Size j) Sdc = j.sdc
input_of (Size j) From = name_or_none j.from
input_of (Check j) Lib = j.lib
input_of (Check j) Verilog = j.verilog
input_of (Check j) Spef = j.spef
input_of (Check j) Sdc = j.sdc
input_of (Check j) From = name_or_none j.from

abbrev pub output_of : Job → Output → List ℕ
output_of (Size j) Sizes = j.sizes
output_of (Size j) Log = j.log
output_of (Size j) Report = j.report
output_of (Size j) Console = []
output_of (Check j) Report = j.report
output_of (Check j) _ = []

-- the answer of reading words that make this job, or none: the job or want of memory, or `Usage`
abbrev pub IsRead : Option Job → Result Job WordsErr → Type 0
IsRead o (Ok job) = o ≡ Some job
IsRead o (Err Usage) = o ≡ None
IsRead o (Err Mem) = (job : Job) × (o ≡ Some job)
