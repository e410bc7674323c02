-- Endpoints, and the pins of instances.

use Rattle.std.specs.Prelude.{ℕ, ◌==◌, Bool, true, false, not, ◌&&◌, List, [], ◌∷◌, ◌++◌, map, filter, flat_map, length, slice_index, slice_index_or, pos}
use Rattle.std.specs.List.{range_with_len}
use Rattle.gs_design.specs.Cell.{is_gate, pin_at}
use Rattle.gs_design.specs.Cells.{cell_at}
use Rattle.gs_design.specs.Insts.{Inst, inst_at}
use Rattle.gs_design.specs.declared.cell.Cell.{Cell}
use Rattle.gs_design.specs.declared.end.End.{End}
use Rattle.gs_design.specs.declared.end.EndPlace.{EndPlace}
use Rattle.gs_design.specs.declared.end.EndPlace.TheVariants.{Output as AtPort, Pin as AtPin}
use Rattle.gs_design.specs.declared.pin.Role.{Role}
use Rattle.gs_design.specs.declared.pin.Role.TheVariants.{Input, Clock, Output}
use Rattle.gs_design.specs.declared.sink.Sink.{Sink}

-- the cell at a place among an instance's alternatives
abbrev pub alt_cell : List Cell → Inst → ℕ → Cell
alt_cell cells i p = cell_at cells (slice_index i.alts p)

-- whether an instance is a gate and no flip-flop: its alternatives are all of one kind
abbrev pub is_gate_inst : List Cell → Inst → Bool
is_gate_inst cells i = is_gate (alt_cell cells i 0).kind

-- the input pins of an instance
abbrev pub pins_of_inst : List Inst → ℕ → List Sink
pins_of_inst insts g = map (λ p. record { inst = g; pin = p }) (range_with_len 0 (length (inst_at insts g).inputs))

-- all input pins, by instance and pin
abbrev pub input_pins : List Inst → List Sink
input_pins insts = flat_map (pins_of_inst insts) (range_with_len 0 (length insts))

-- the net at an input pin
abbrev pub pin_net : List Inst → Sink → ℕ
pin_net insts s = slice_index (inst_at insts s.inst).inputs s.pin

-- the input pins on a net
abbrev pub pins_on : List Inst → ℕ → List Sink
pins_on insts n = filter (λ s. pin_net insts s == n) (input_pins insts)

abbrev pub is_input : Role → Bool
is_input Input = true
is_input Clock = false
is_input Output = false

-- a data pin is an input pin of a flip-flop that is no clock pin
abbrev pub is_data_pin : List Cell → List Inst → Sink → Bool
is_data_pin cells insts s = not (is_gate_inst cells (inst_at insts s.inst)) && is_input (pin_at (alt_cell cells (inst_at insts s.inst) 0).pins s.pin).role

-- all data pins, by instance and pin
abbrev pub data_pins : List Cell → List Inst → List Sink
data_pins cells insts = filter (is_data_pin cells insts) (input_pins insts)

abbrev pub no_end : End
no_end = record { place = AtPort; net = 0; bound = pos 0 }

abbrev pub end_at : List End → ℕ → End
end_at ends e = slice_index_or ends e no_end

abbrev pub end_net : End → ℕ
end_net e = e.net

abbrev pub is_at_port : EndPlace → Bool
is_at_port AtPort = true
is_at_port (AtPin g p) = false

-- how many endpoints are at output ports
abbrev pub port_count : List End → ℕ
port_count ends = length (filter (λ e. is_at_port e.place) ends)

-- the pin of an endpoint that is at one
abbrev pub place_pins : EndPlace → List Sink
place_pins AtPort = []
place_pins (AtPin g p) = record { inst = g; pin = p } ∷ []

-- the pins of the endpoints that are at pins, in order
abbrev pub end_pins : List End → List Sink
end_pins ends = flat_map (λ e. place_pins e.place) ends

-- the numbers of the endpoints on a net, rising
abbrev pub ends_at : List End → ℕ → List ℕ
ends_at ends n = filter (λ e. (end_at ends e).net == n) (range_with_len 0 (length ends))
