-- Where a net of a netlist is driven first, and where a second time.
use Rattle.std.specs.Prelude.{◌≡◌, ◌⊎◌, ℕ, List, Option, None, Some}
use Rattle.gs_design.specs.declared.cell.Cell.{Cell}
use Rattle.gs_design.specs.declared.library.Library.{Library}
use Rattle.gs_lib.specs.Library.{IsLibraryOf}
use Rattle.gs_libtree.specs.Refusal.{IsLiberty}
use Rattle.gs_libtree.specs.declared.tree.Node.{Node}
use Rattle.gs_locate.specs.Found.{IsNthLocated}
use Rattle.gs_locate.specs.Verilog.{is_driven}
use Rattle.gs_text.specs.declared.kinds.Style.TheVariants.{Verilog}
use Rattle.gs_drivers.specs.Outputs.{drives}
use Rattle.gs_drivers.specs.declared.twice.Drivers.{Drivers}

-- the place at which the net is driven with n such places before it: connected to an output pin, or declared an input
abbrev pub IsDriver : List Cell → (net : List ℕ) → (n : ℕ) → (netlist : List ℕ) → Option ℕ → Type 0
IsDriver cells net n netlist found = IsNthLocated (is_driven (drives cells) net) n Verilog netlist found

abbrev pub both : Option ℕ → Option ℕ → Option Drivers
both None second = None
both (Some first) None = None
both (Some first) (Some second) = Some (record { first = first; second = second })

-- the first two of these places, where there are two
abbrev pub AreDriversBy : List Cell → (net netlist : List ℕ) → Option Drivers → Type 0
AreDriversBy cells net netlist found =
    (first second : Option ℕ) × IsDriver cells net 0 netlist first × IsDriver cells net 1 netlist second × (found ≡ both first second)

-- this holds of what is read; where nothing is, there are no drivers
abbrev pub OfRead : {V : Type 0} → (IsRead : V → Type 0) → (Holds : V → Option Drivers → Type 0) → Option Drivers → Type 0
OfRead {V} IsRead Holds found = ((v : V) × IsRead v × Holds v found) ⊎ (((v : V) → IsRead v → ⊥) × (found ≡ None))

-- the drivers by the library of a tree
abbrev pub AreDriversOf : Node → (net netlist : List ℕ) → Option Drivers → Type 0
AreDriversOf root net netlist found = OfRead (IsLibraryOf root) (λ (l : Library). AreDriversBy l.cells net netlist) found

-- the drivers by the library that these bytes are
abbrev pub AreDrivers : (library net netlist : List ℕ) → Option Drivers → Type 0
AreDrivers library net netlist found = OfRead (IsLiberty library) (λ root. AreDriversOf root net netlist) found
