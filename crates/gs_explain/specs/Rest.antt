-- What is said of refusals of a library and of a design, and of the reasons of files.
use Rattle.std.specs.Prelude.{ℕ, ◌+◌, ◌/◌, ◌%◌, ◌==◌, List, [], ◌∷◌, length, codes, decimal, Option, None, Some, take, if◌then◌else◌}
use Rattle.std.specs.List.{concat, flat_map}
use Rattle.gs_lib.specs.declared.error.LibErr.{LibErr}
use Rattle.gs_lib.specs.declared.error.LibErr.TheVariants as lib
use Rattle.gs_lib.specs.declared.error.What.{What}
use Rattle.gs_lib.specs.declared.error.What.TheVariants as what
use Rattle.gs_shelf.specs.declared.reason.Reason.{Reason}
use Rattle.gs_shelf.specs.declared.reason.Reason.TheVariants.{NotFound, IsFolder, Denied, NoSpace, SameFile, Other}
use Rattle.gs_survey.specs.declared.error.Counted.{Counted}
use Rattle.gs_survey.specs.declared.error.Counted.TheVariants as counted
use Rattle.gs_survey.specs.declared.error.LinkErr.{LinkErr}
use Rattle.gs_survey.specs.declared.error.LinkErr.TheVariants as link
use Rattle.gs_top.specs.declared.status.Input.{Input}
use Rattle.gs_top.specs.declared.status.Input.TheVariants.{Lib, Verilog, Spef, Sdc}

-- why the system refused a file, as far as it tells
abbrev pub reason_text : Option Reason → List ℕ
reason_text None = []
reason_text (Some NotFound) = codes ": there is no such file or folder"
reason_text (Some IsFolder) = codes ": it is a folder"
reason_text (Some Denied) = codes ": permission denied"
reason_text (Some NoSpace) = codes ": no space is left"
reason_text (Some SameFile) = codes ": it is the same file as another one of this run"
reason_text (Some Other) = []

-- what is missing
abbrev pub what_text : What → List ℕ
what_text what.Library = codes "the outermost group is not a library"
what_text what.Leakage = codes "attribute cell_leakage_power is missing"
what_text what.Capacitance = codes "attribute capacitance of an input pin is missing"
what_text what.RelatedPin = codes "related_pin of a timing group is missing or names no input"
what_text what.CellRise = codes "table cell_rise of a timing group is missing"
what_text what.CellFall = codes "table cell_fall of a timing group is missing"
what_text what.RiseTransition = codes "table rise_transition of a timing group is missing"
what_text what.FallTransition = codes "table fall_transition of a timing group is missing"

-- this is said of a cell; without a name, of the library itself
abbrev pub of_cell : (cell said : List ℕ) → List ℕ
of_cell cell said = if length cell == 0 then said else concat (codes "cell " ∷ cell ∷ codes ": " ∷ said ∷ [])

-- the tables of a timing group in their order
abbrev pub table_name : (k : ℕ) → List ℕ
table_name k =
    if k == 0 then codes "cell_rise"
    else if k == 1 then codes "cell_fall"
    else if k == 2 then codes "rise_transition"
    else codes "fall_transition"

-- table number i of a cell, counted from 0, four for each of its timing groups that are read
abbrev pub table_text : (i : ℕ) → List ℕ
table_text i = concat (codes "table " ∷ table_name (i % 4) ∷ codes " of timing group " ∷ decimal (i / 4 + 1) ∷ codes ", of those that are read, is not of its form" ∷ [])

abbrev pub lib_text : LibErr → List ℕ
lib_text (lib.Missing cell what) = of_cell cell (what_text what)
lib_text lib.NoUnit = codes "time_unit or capacitive_load_unit is missing"
lib_text lib.BadUnit = codes "one of time_unit, capacitive_load_unit and leakage_power_unit is not of its form"
lib_text (lib.TwoCells name) = of_cell name (codes "an earlier cell has the same name")
lib_text (lib.BadNumber cell) = of_cell cell (codes "a number is not decimal, is negative or is out of range")
lib_text (lib.BadTable cell i) = of_cell cell (table_text i)
lib_text lib.TooMany = codes "there are more than 65535 cells, or more than 1024 that may take each other's place"
lib_text lib.Mem = []

abbrev pub counted_text : Counted → List ℕ
counted_text counted.Instances = codes "instances"
counted_text counted.Nets = codes "nets"
counted_text counted.Pins = codes "connected pins"

-- the first nets of a cycle, each after a space
abbrev pub nets_text : List (List ℕ) → List ℕ
nets_text cycle = flat_map (λ net. 32 ∷ net) (take 8 cycle)

abbrev pub loop_text : List (List ℕ) → List ℕ
loop_text cycle = concat (codes "gates drive one another in a cycle of " ∷ decimal (length cycle) ∷ codes " nets:" ∷ nets_text cycle ∷ [])

abbrev pub link_text : LinkErr → List ℕ
link_text (link.UnknownCell by) = concat (codes "the library has no cell for " ∷ by ∷ [])
link_text (link.UnknownPin by pin) = concat (codes "the cell of " ∷ by ∷ codes " has no pin " ∷ pin ∷ [])
link_text (link.OpenPin inst pin) = concat (codes "instance " ∷ inst ∷ codes " leaves pin " ∷ pin ∷ codes " of its cell open" ∷ [])
link_text (link.TwoDrivers net) = concat (codes "net " ∷ net ∷ codes " has more than one driver" ∷ [])
link_text (link.Undriven net) = concat (codes "net " ∷ net ∷ codes " has no driver" ∷ [])
link_text (link.UnknownPort name) = concat (codes "the netlist has no port " ∷ name ∷ codes ", or not in this direction" ∷ [])
link_text (link.UnknownNet name) = concat (codes "the netlist has no net " ∷ name ∷ [])
link_text (link.NoArc cell pin) = concat (codes "cell " ∷ cell ∷ codes " has no timing arc from pin " ∷ pin ∷ [])
link_text (link.TooMany kind count) = concat (decimal count ∷ codes " " ∷ counted_text kind ∷ codes " are too many" ∷ [])
link_text (link.Loop cycle) = loop_text cycle
link_text link.Mem = []

-- the file that is at fault
abbrev pub link_file : LinkErr → Input
link_file (link.UnknownCell by) = Verilog
link_file (link.UnknownPin by pin) = Verilog
link_file (link.OpenPin inst pin) = Verilog
link_file (link.TwoDrivers net) = Verilog
link_file (link.Undriven net) = Verilog
link_file (link.UnknownPort name) = Sdc
link_file (link.UnknownNet name) = Spef
link_file (link.NoArc cell pin) = Lib
link_file (link.TooMany kind count) = Verilog
link_file (link.Loop cycle) = Verilog
link_file link.Mem = Verilog
