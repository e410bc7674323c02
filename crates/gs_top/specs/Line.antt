-- The line that is said of each status.
use Rattle.std.specs.Prelude.{◌≡◌, ◌≢◌, ℕ, ℤ, List, [], ◌++◌, codes, decimal}
use Rattle.gs_lib.specs.declared.error.LibErr.{LibErr}
use Rattle.gs_lib.specs.declared.error.LibErr.TheVariants as lib
use Rattle.gs_move.specs.declared.ended.Ended.{Ended as RunEnd}
use Rattle.gs_quantity.specs.Print.{micro_text}
use Rattle.gs_report.specs.Log.{ended_word}
use Rattle.gs_shelf.specs.Faults.{CountsStay, NoneFell, Rose}
use Rattle.gs_shelf.specs.Files.{AllStay, GrewByPart}
use Rattle.gs_shelf.specs.declared.calls.Op.TheVariants.{Say}
use Rattle.gs_top.specs.Answer.{Seen}
use Rattle.gs_top.specs.Kind.{Kind, Success, kind_of}
use Rattle.gs_top.specs.declared.status.Input.{Input}
use Rattle.gs_top.specs.declared.status.Input.TheVariants as input
use Rattle.gs_survey.specs.declared.error.LinkErr.{LinkErr}
use Rattle.gs_survey.specs.declared.error.LinkErr.TheVariants as link
use Rattle.gs_top.specs.declared.status.Output.{Output}
use Rattle.gs_top.specs.declared.status.Output.TheVariants.{Sizes, Log, Report, Console}
use Rattle.gs_top.specs.declared.status.TextWhy.{TextWhy}
use Rattle.gs_top.specs.declared.status.TextWhy.TheVariants.{OpenString, OpenComment, TooDeep, BadPiece, TwoNames, NoEnd, BadLine, Distributed, UnknownIndex, TwoNets, NotBuilt, TwoClocks, TwoValues, NoClock, Unknown, Twice, WrongCell, Absent}
use Rattle.gs_top.specs.declared.status.Status.{Status}
use Rattle.gs_top.specs.declared.status.Status.TheVariants.{Done, Checked, Usage, ReadFault, TooLarge, BadText, BadLibrary, BadDesign, WriteFault, OutOfMemory}

abbrev pub input_name : Input → List ℕ
input_name input.Lib = codes "library"
input_name input.Verilog = codes "netlist"
input_name input.Spef = codes "spef"
input_name input.Sdc = codes "sdc"
input_name input.From = codes "from"

-- each reason is its variant's name in lower case
abbrev pub why_name : TextWhy → List ℕ
why_name OpenString = codes "openstring"
why_name OpenComment = codes "opencomment"
why_name TooDeep = codes "toodeep"
why_name BadPiece = codes "badpiece"
why_name TwoNames = codes "twonames"
why_name NoEnd = codes "noend"
why_name BadLine = codes "badline"
why_name Distributed = codes "distributed"
why_name UnknownIndex = codes "unknownindex"
why_name TwoNets = codes "twonets"
why_name NotBuilt = codes "notbuilt"
why_name TwoClocks = codes "twoclocks"
why_name TwoValues = codes "twovalues"
why_name NoClock = codes "noclock"
why_name Unknown = codes "unknown"
why_name Twice = codes "twice"
why_name WrongCell = codes "wrongcell"
why_name Absent = codes "absent"

abbrev pub lib_name : LibErr → List ℕ
lib_name (lib.Missing cell what) = codes "missing"
lib_name lib.NoUnit = codes "nounit"
lib_name lib.BadUnit = codes "badunit"
lib_name (lib.TwoCells name) = codes "twocells"
lib_name (lib.BadNumber cell) = codes "badnumber"
lib_name (lib.BadTable cell i) = codes "badtable"
lib_name lib.TooMany = codes "toomany"
lib_name lib.Mem = codes "mem"

abbrev pub link_name : LinkErr → List ℕ
link_name (link.UnknownCell by) = codes "unknowncell"
link_name (link.UnknownPin by pin) = codes "unknownpin"
link_name (link.OpenPin inst pin) = codes "openpin"
link_name (link.TwoDrivers net) = codes "twodrivers"
link_name (link.Undriven net) = codes "undriven"
link_name (link.UnknownPort name) = codes "unknownport"
link_name (link.UnknownNet name) = codes "unknownnet"
link_name (link.NoArc cell pin) = codes "noarc"
link_name (link.TooMany what count) = codes "toomany"
link_name (link.Loop cycle) = codes "loop"
link_name link.Mem = codes "mem"

-- no line says that the console failed
abbrev pub write_line : Output → List ℕ
write_line Sizes = codes "cannot write sizes\n"
write_line Log = codes "cannot write log\n"
write_line Report = codes "cannot write report\n"
write_line Console = []

-- how the run ended, what its sizes leak, how many limits are not met, and how many moves were committed
abbrev pub done_line : RunEnd → (violations : ℕ) → (leakage : ℤ) → (commits : ℕ) → List ℕ
done_line ended violations leakage commits =
    codes "done " ++ ended_word ended ++ codes " leakage " ++ micro_text leakage ++ codes " violations " ++ decimal violations
    ++ codes " commits " ++ decimal commits ++ codes "\n"

-- each status but want of memory and a fault of the console has one line
abbrev pub line_of : Status → List ℕ
line_of (Done ended violations leakage commits) = done_line ended violations leakage commits
line_of (Checked violations leakage) =
    codes "checked leakage " ++ micro_text leakage ++ codes " violations " ++ decimal violations ++ codes "\n"
line_of Usage = codes "usage: gate-sizer size, check, audit or gen, with options\n"
line_of (ReadFault file) = codes "cannot read " ++ input_name file ++ codes "\n"
line_of (TooLarge file) = codes "too large " ++ input_name file ++ codes "\n"
line_of (BadText file why place) =
    codes "bad " ++ input_name file ++ codes " " ++ why_name why ++ codes " at " ++ decimal place ++ codes "\n"
line_of (BadLibrary e) = codes "bad library " ++ lib_name e ++ codes "\n"
line_of (BadDesign e) = codes "bad design " ++ link_name e ++ codes "\n"
line_of (WriteFault file) = write_line file
line_of OutOfMemory = []

-- a status whose line could not be said for a fault of the console: a success is lost, another status stays
abbrev pub unsaid_by : Status → Kind → Status
unsaid_by s Success = WriteFault Console
unsaid_by s kind = s

abbrev pub unsaid : Status → Status
unsaid s = unsaid_by s (kind_of s)

-- How the saying of a status's line ended: all of it was said; the console failed, and a part of it was said; or memory ran out, and
-- nothing was said. What was said is known where the shelf tells. An empty line is not said at all.
pub data Ended (tells : Type 0) (s : Status) (old new : Seen) (r : Status) : Type 0 where
  Whole : r ≡ s → CountsStay old.faults new.faults → (line_of s ≡ [] → new.said ≡ old.said) → (tells → new.said ≡ old.said ++ line_of s) → Ended tells s old new r
  Failed : r ≡ unsaid s → line_of s ≢ [] → Rose (old.faults Say []) (new.faults Say []) → (tells → GrewByPart (line_of s) old.said new.said) → Ended tells s old new r
  NoRoom : r ≡ OutOfMemory → CountsStay old.faults new.faults → new.said ≡ old.said → Ended tells s old new r

-- the saying of a status's line: no file changes
pub record IsSaid (tells : Type 0) (s : Status) (old new : Seen) (r : Status) : Type 0 where
  pub stay : AllStay old.files new.files
  pub later : NoneFell old.faults new.faults
  pub ended : Ended tells s old new r
