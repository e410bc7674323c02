-- Where the object of a refused library or design stands in its file.
use Rattle.std.specs.Prelude.{◌≡◌, ℕ, nat_lt, List, length, slice_get, Option, None, Some, if◌then◌else◌}
use Rattle.gs_lib.specs.declared.error.LibErr.{LibErr}
use Rattle.gs_lib.specs.declared.error.LibErr.TheVariants as lib
use Rattle.gs_locate.specs.Found.{IsLocated, LocatesNth}
use Rattle.gs_locate.specs.Liberty.{is_cell_name, is_pin_name, nests}
use Rattle.gs_locate.specs.Verilog.{is_connected_net, is_instance_cell, is_instance_name, is_pin}
use Rattle.gs_survey.specs.declared.error.LinkErr.{LinkErr}
use Rattle.gs_survey.specs.declared.error.LinkErr.TheVariants as link
use Rattle.gs_text.specs.declared.kinds.Style.TheVariants.{Verilog, Lib}
use Rattle.gs_explain.specs.Limits.{IsPortPlace, IsWirePlace}
use Rattle.gs_explain.specs.Located.{located, unplaced}

-- the name of the cell in the library, of the n-th cell of the name counted from 0
abbrev pub IsCellPlace : (cell : List ℕ) → (n : ℕ) → (bytes : List ℕ) → Option ℕ → Type 0
IsCellPlace cell n bytes found = LocatesNth (nests (is_cell_name cell) bytes) n Lib bytes found

-- the cell at fault; of two cells with a name the second
abbrev pub IsLibPlace : LibErr → (bytes : List ℕ) → Option ℕ → Type 0
IsLibPlace (lib.Missing cell what) bytes found = IsCellPlace cell 0 bytes found
IsLibPlace lib.NoUnit bytes found = found ≡ None
IsLibPlace lib.BadUnit bytes found = found ≡ None
IsLibPlace (lib.TwoCells name) bytes found = IsCellPlace name 1 bytes found
IsLibPlace (lib.BadNumber cell) bytes found = IsCellPlace cell 0 bytes found
IsLibPlace (lib.BadTable cell i) bytes found = IsCellPlace cell 0 bytes found
IsLibPlace lib.TooMany bytes found = found ≡ None
IsLibPlace lib.Mem bytes found = found ≡ None

-- the net where it is first connected to a pin
abbrev pub IsNetPlace : (net bytes : List ℕ) → Option ℕ → Type 0
IsNetPlace net bytes found = IsLocated (is_connected_net net) Verilog bytes found

abbrev pub IsFirstNetPlace : Option (List ℕ) → (bytes : List ℕ) → Option ℕ → Type 0
IsFirstNetPlace None bytes found = found ≡ None
IsFirstNetPlace (Some net) bytes found = IsNetPlace net bytes found

-- the instance's cell, its pin, its name; the net; the port in the constraints; the net's block of wires; the pin of the library's cell
abbrev pub IsLinkPlace : LinkErr → (bytes : List ℕ) → Option ℕ → Type 0
IsLinkPlace (link.UnknownCell by) bytes found = IsLocated (is_instance_cell by) Verilog bytes found
IsLinkPlace (link.UnknownPin by pin) bytes found = IsLocated (is_pin by pin) Verilog bytes found
IsLinkPlace (link.OpenPin inst pin) bytes found = IsLocated (is_instance_name inst) Verilog bytes found
IsLinkPlace (link.TwoDrivers net) bytes found = IsNetPlace net bytes found
IsLinkPlace (link.Undriven net) bytes found = IsNetPlace net bytes found
IsLinkPlace (link.UnknownPort name) bytes found = IsPortPlace name bytes found
IsLinkPlace (link.UnknownNet name) bytes found = IsWirePlace name bytes found
IsLinkPlace (link.NoArc cell pin) bytes found = LocatesNth (nests (is_pin_name cell pin) bytes) 0 Lib bytes found
IsLinkPlace (link.TooMany kind count) bytes found = found ≡ None
IsLinkPlace (link.Loop cycle) bytes found = IsFirstNetPlace (slice_get cycle 0) bytes found
IsLinkPlace link.Mem bytes found = found ≡ None

-- a place that was found is shown in its line; without one the file is named alone
abbrev pub placed : (name bytes : List ℕ) → Option ℕ → (what : List ℕ) → List ℕ
placed name bytes None what = unplaced name what
placed name bytes (Some at) what = if nat_lt (length bytes) at then unplaced name what else located name bytes at what

-- this is said at the place, or of the file where there is none
abbrev pub IsPlaced : (IsPlace : (bytes : List ℕ) → Option ℕ → Type 0) → (name what bytes text : List ℕ) → Type 0
IsPlaced IsPlace name what bytes text = (found : Option ℕ) × IsPlace bytes found × (text ≡ placed name bytes found what)
