-- What drives the nets of a netlist, and what reads them.

use Rattle.std.specs.Prelude.{ℕ, Bool, not, ◌&&◌, ◌||◌, List, [], ◌∷◌, ◌++◌, map, filter, flat_map, length, nat_lt, take, Option, None, Some, if◌then◌else◌}
use Rattle.std.specs.List.{range_with_len}
use Rattle.std.specs.Str.{bytes_eq}
use Rattle.gs_design.specs.Cell.{output_place}
use Rattle.gs_design.specs.Load.{output_pin}
use Rattle.gs_design.specs.declared.cell.Cell.{Cell}
use Rattle.gs_design.specs.declared.pin.CellPin.{CellPin}
use Rattle.gs_list.specs.Keys.{count_of}
use Rattle.gs_survey.specs.First.{first_some, or_else}
use Rattle.gs_survey.specs.Instances.{cell_of}
use Rattle.gs_survey.specs.Numbers.{is_one_of, net_name}
use Rattle.gs_survey.specs.declared.error.LinkErr.{LinkErr}
use Rattle.gs_survey.specs.declared.error.LinkErr.TheVariants as errors
use Rattle.gs_verilog.specs.Circuit.{Circuit, port_net}
use Rattle.gs_verilog.specs.declared.parts.Link.{Link}
use Rattle.gs_verilog.specs.declared.parts.Port.{Port}
use Rattle.gs_verilog.specs.declared.parts.RawInst.{RawInst}

-- the net to which these connect a pin
abbrev pub net_in : List Link → (pin : List ℕ) → ℕ
net_in [] pin = 0
net_in (k ∷ links) pin = if bytes_eq pin k.pin then k.net else net_in links pin

abbrev pub net_at_pin : List Link → CellPin → ℕ
net_at_pin links p = net_in links p.name

-- the inputs of a cell
abbrev pub inputs_of : Cell → List CellPin
inputs_of c = take (output_place c.pins) c.pins

-- the nets at the inputs of an instance's cell, in the order of the pins
abbrev pub input_nets : List Cell → RawInst → List ℕ
input_nets cells i = map (net_at_pin i.links) (inputs_of (cell_of cells i))

-- the net at its output
abbrev pub output_net : List Cell → RawInst → ℕ
output_net cells i = net_at_pin i.links (output_pin (cell_of cells i))

-- the nets at the output pins of all instances, and at their input pins
abbrev pub output_nets : List Cell → List RawInst → List ℕ
output_nets cells insts = map (output_net cells) insts

abbrev pub all_input_nets : List Cell → List RawInst → List ℕ
all_input_nets cells insts = flat_map (input_nets cells) insts

abbrev pub is_input_port : Port → Bool
is_input_port p = p.input

abbrev pub is_output_port : Port → Bool
is_output_port p = not p.input

-- the nets that are input ports, and those that are output ports
abbrev pub input_ports : List Port → List ℕ
input_ports ports = map port_net (filter is_input_port ports)

abbrev pub output_ports : List Port → List ℕ
output_ports ports = map port_net (filter is_output_port ports)

-- the nets that are driven, one for each output pin and each input port
abbrev pub driven : List Cell → Circuit → List ℕ
driven cells c = output_nets cells c.insts ++ input_ports c.ports

-- the nets that are read, one for each input pin and each output port
abbrev pub read : List Cell → Circuit → List ℕ
read cells c = all_input_nets cells c.insts ++ output_ports c.ports

-- More than one output pin or input port drives the net.
abbrev pub two_drivers : (nets : List (List ℕ)) → (driven : List ℕ) → ℕ → Option LinkErr
two_drivers nets driven n = if nat_lt 1 (count_of driven n) then Some (errors.TwoDrivers (net_name nets n)) else None

-- The net has a sink or is an output port, and nothing drives it.
abbrev pub undriven : (nets : List (List ℕ)) → (driven read : List ℕ) → ℕ → Option LinkErr
undriven nets driven read n =
    if is_one_of read n && not (is_one_of driven n) then Some (errors.Undriven (net_name nets n)) else None

-- The first refusal of nets.
abbrev pub net_fault : List Cell → Circuit → Option LinkErr
net_fault cells c =
    or_else (first_some (two_drivers c.nets (driven cells c)) (range_with_len 0 (length c.nets)))
    (first_some (undriven c.nets (driven cells c) (read cells c)) (range_with_len 0 (length c.nets)))

-- a net that has a driver, a sink or an output port; the others are dropped
abbrev pub is_used : (driven read : List ℕ) → ℕ → Bool
is_used driven read n = is_one_of driven n || is_one_of read n

-- those of so many nets that are kept
abbrev pub kept : (driven read : List ℕ) → (count : ℕ) → List ℕ
kept driven read count = filter (is_used driven read) (range_with_len 0 count)

abbrev pub used_nets : List Cell → Circuit → List ℕ
used_nets cells c = kept (driven cells c) (read cells c) (length c.nets)

-- the number of a net in the design: how many before it are kept
abbrev pub new_number : List Cell → Circuit → ℕ → ℕ
new_number cells c n = length (kept (driven cells c) (read cells c) n)
