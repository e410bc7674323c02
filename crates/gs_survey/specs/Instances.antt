-- The cells of instances and of ports, and which of their pins are connected.

use Rattle.std.specs.Prelude.{ℕ, Bool, ◌&&◌, List, length, nat_lt, Option, None, Some, if◌then◌else◌}
use Rattle.std.specs.List.{list_any, position_or_len}
use Rattle.std.specs.Str.{bytes_eq}
use Rattle.gs_design.specs.Cell.{is_gate}
use Rattle.gs_design.specs.Cells.{cell_at}
use Rattle.gs_design.specs.Load.{output_pin}
use Rattle.gs_design.specs.declared.cell.Cell.{Cell}
use Rattle.gs_design.specs.declared.pin.CellPin.{CellPin}
use Rattle.gs_survey.specs.First.{first_some, or_else}
use Rattle.gs_survey.specs.declared.error.LinkErr.{LinkErr}
use Rattle.gs_survey.specs.declared.error.LinkErr.TheVariants as errors
use Rattle.gs_sdc.specs.declared.constraints.DriverSpec.{DriverSpec}
use Rattle.gs_verilog.specs.declared.parts.Link.{Link}
use Rattle.gs_verilog.specs.declared.parts.RawInst.{RawInst}

-- the number of the cell of a name: its place in the library, or the number of cells where no cell has it
abbrev pub cell_number : List Cell → (name : List ℕ) → ℕ
cell_number cells name = position_or_len (λ c. bytes_eq name c.name) cells

abbrev pub has_cell : List Cell → (name : List ℕ) → Bool
has_cell cells name = nat_lt (cell_number cells name) (length cells)

-- the cell of a name
abbrev pub cell_named : List Cell → (name : List ℕ) → Cell
cell_named cells name = cell_at cells (cell_number cells name)

-- the cell of an instance
abbrev pub cell_of : List Cell → RawInst → Cell
cell_of cells i = cell_named cells i.cell

abbrev pub has_pin : Cell → (name : List ℕ) → Bool
has_pin c name = list_any (λ p. bytes_eq name p.name) c.pins

-- whether one of these connects the pin
abbrev pub is_connected : List Link → (pin : List ℕ) → Bool
is_connected links pin = list_any (λ k. bytes_eq pin k.pin) links

-- The cell of an instance isn't in the library.
abbrev pub unknown_cell : List Cell → RawInst → Option LinkErr
unknown_cell cells i = if has_cell cells i.cell then None else Some (errors.UnknownCell i.name)

-- The driving cell of a port isn't in the library, or is a flip-flop.
abbrev pub unknown_driving_cell : List Cell → DriverSpec → Option LinkErr
unknown_driving_cell cells d =
    if has_cell cells d.cell && is_gate (cell_named cells d.cell).kind then None else Some (errors.UnknownCell d.port)

-- A connected pin isn't a pin of the instance's cell.
abbrev pub unknown_link : Cell → RawInst → Link → Option LinkErr
unknown_link c i k = if has_pin c k.pin then None else Some (errors.UnknownPin i.name k.pin)

abbrev pub unknown_pin : List Cell → RawInst → Option LinkErr
unknown_pin cells i = first_some (unknown_link (cell_of cells i) i) i.links

-- The pin that a driving cell is said to drive a port with isn't its output.
abbrev pub not_output : Cell → (port : List ℕ) → (pin : Option (List ℕ)) → Option LinkErr
not_output c port None = None
not_output c port (Some pin) = if bytes_eq pin (output_pin c).name then None else Some (errors.UnknownPin port pin)

abbrev pub unknown_driving_pin : List Cell → DriverSpec → Option LinkErr
unknown_driving_pin cells d = not_output (cell_named cells d.cell) d.port d.pin

-- A pin of an instance's cell isn't connected.
abbrev pub open_at : RawInst → CellPin → Option LinkErr
open_at i p = if is_connected i.links p.name then None else Some (errors.OpenPin i.name p.name)

abbrev pub open_pin : List Cell → RawInst → Option LinkErr
open_pin cells i = first_some (open_at i) (cell_of cells i).pins

-- The first refusal of instances and driving cells.
abbrev pub inst_fault : List Cell → List RawInst → List DriverSpec → Option LinkErr
inst_fault cells insts drivers =
    or_else (first_some (unknown_cell cells) insts)
    (or_else (first_some (unknown_driving_cell cells) drivers)
    (or_else (first_some (unknown_pin cells) insts)
    (or_else (first_some (unknown_driving_pin cells) drivers)
    (first_some (open_pin cells) insts))))
