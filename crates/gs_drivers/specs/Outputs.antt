-- Which pins drive the nets of a netlist, by the cells of a library.
use Rattle.std.specs.Prelude.{ℕ, Bool, false, List, [], ◌∷◌, if◌then◌else◌}
use Rattle.std.specs.Str.{bytes_eq}
use Rattle.gs_design.specs.Load.{output_pin}
use Rattle.gs_design.specs.declared.cell.Cell.{Cell}

-- the pin is the output of the cell: of these cells the first that has the name
abbrev pub drives : List Cell → (cell pin : List ℕ) → Bool
drives [] cell pin = false
drives (c ∷ cs) cell pin = if bytes_eq cell c.name then bytes_eq pin (output_pin c).name else drives cs cell pin
