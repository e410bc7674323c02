-- The design of a netlist, a library, wires and constraints.

use Rattle.std.specs.Prelude.{ℕ, ◌≡◌, ◌==◌, List, [], ◌++◌, map, filter, flat_map, length, Option, None, Some, ℤ, pos, ◌-ℤ◌, if◌then◌else◌}
use Rattle.std.specs.List.{position_or_len, range_with_len}
use Rattle.gs_design.specs.Ends.{data_pins, is_gate_inst, pin_net, pins_on}
use Rattle.gs_design.specs.Insts.{Inst}
use Rattle.gs_design.specs.Nets.{Net}
use Rattle.gs_design.specs.declared.cell.Cell.{Cell}
use Rattle.gs_design.specs.declared.end.End.{End}
use Rattle.gs_design.specs.declared.end.EndPlace.TheVariants.{Output as AtPort, Pin as AtPin}
use Rattle.gs_design.specs.declared.library.Library.{Library}
use Rattle.gs_design.specs.declared.parts.Parts.{Parts}
use Rattle.gs_design.specs.declared.sink.Driven.{Driven}
use Rattle.gs_design.specs.declared.sink.Driver.{Driver}
use Rattle.gs_design.specs.declared.sink.Driver.TheVariants.{Port, Inst as OfInst}
use Rattle.gs_design.specs.declared.sink.Sink.{Sink}
use Rattle.gs_levels.specs.Levels.{IsLeveled, IsOrder}
use Rattle.gs_levels.specs.declared.edges.Edge.{Edge}
use Rattle.gs_survey.specs.Counts.{choices_of}
use Rattle.gs_survey.specs.Fault.{first_fault}
use Rattle.gs_survey.specs.Instances.{cell_number}
use Rattle.gs_survey.specs.Numbers.{given, is_one_of, net_name, net_number}
use Rattle.gs_survey.specs.Uses.{input_nets, input_ports, new_number, output_net, output_nets, output_ports, used_nets}
use Rattle.gs_sdc.specs.Terms.{Terms}
use Rattle.gs_sdc.specs.declared.constraints.DriverSpec.{DriverSpec}
use Rattle.gs_sdc.specs.declared.constraints.PortValue.{PortValue}
use Rattle.gs_spef.specs.declared.wires.Wire.{Wire}
use Rattle.gs_verilog.specs.Circuit.{Circuit}
use Rattle.gs_verilog.specs.declared.parts.RawInst.{RawInst}

-- An instance: the cells that it may take, the place of the netlist's cell among them, and the nets at its pins by their new numbers.
abbrev pub linked_inst : List Cell → Circuit → RawInst → Inst
linked_inst cells c i = record {
  name = i.name;
  alts = choices_of cells i;
  first = position_or_len (λ x. x == cell_number cells i.cell) (choices_of cells i);
  inputs = map (new_number cells c) (input_nets cells i);
  output = new_number cells c (output_net cells i);
}

-- the instances, in netlist order
abbrev pub linked_insts : List Cell → Circuit → List Inst
linked_insts cells c = map (linked_inst cells c) c.insts

-- the value that is given for a port, by the number of its net, or else 0
abbrev pub port_value : (nets : List (List ℕ)) → List PortValue → ℕ → ℤ
port_value nets vs n = given (map (λ v. net_number nets v.port) vs) (map (λ v. v.value) vs) (pos 0) n

-- the total of the wire of a net, or else 0
abbrev pub wire_total : (nets : List (List ℕ)) → List Wire → ℕ → ℤ
wire_total nets w n = given (map (λ x. net_number nets x.net) w) (map (λ x. x.total) w) (pos 0) n

abbrev pub driven_by : List Cell → DriverSpec → Option Driven
driven_by cells d = Some (record { cell = cell_number cells d.cell; rise = d.rise; fall = d.fall })

-- the driving cell of a port, where one is given
abbrev pub port_driver : List Cell → (nets : List (List ℕ)) → List DriverSpec → ℕ → Option Driven
port_driver cells nets drivers n = given (map (λ d. net_number nets d.port) drivers) (map (driven_by cells) drivers) None n

-- What drives a net: the input port, with its delay and its driving cell, or else the instance whose output it is.
abbrev pub net_driver : List Cell → Circuit → Terms → ℕ → Driver
net_driver cells c k n =
    if is_one_of (input_ports c.ports) n then Port (port_value c.nets k.inputs n) (port_driver cells c.nets k.drivers n)
    else OfInst (given (output_nets cells c.insts) (range_with_len 0 (length c.insts)) 0 n)

-- A net, from its number in the netlist: its wire, its port's load, its driver, and the input pins on it.
abbrev pub linked_net : List Cell → Circuit → List Wire → Terms → ℕ → Net
linked_net cells c w k n = record {
  name = net_name c.nets n;
  wire = wire_total c.nets w n;
  port_load = port_value c.nets k.loads n;
  driver = net_driver cells c k n;
  sinks = pins_on (linked_insts cells c) (new_number cells c n);
}

-- the nets that are used, in netlist order
abbrev pub linked_nets : List Cell → Circuit → List Wire → Terms → List Net
linked_nets cells c w k = map (linked_net cells c w k) (used_nets cells c)

-- An endpoint at an output port is bounded by the period less the output delay,
abbrev pub port_end : List Cell → Circuit → Terms → ℕ → End
port_end cells c k n = record { place = AtPort; net = new_number cells c n; bound = k.period -ℤ port_value c.nets k.outputs n }

-- and one at a data pin by the period.
abbrev pub pin_end : List Inst → (period : ℤ) → Sink → End
pin_end insts period s = record { place = AtPin s.inst s.pin; net = pin_net insts s; bound = period }

-- the endpoints: output ports in net order, and then the data pins of the flip-flops by instance and pin
abbrev pub linked_ends : List Cell → Circuit → Terms → List End
linked_ends cells c k =
    map (port_end cells c k) (filter (is_one_of (output_ports c.ports)) (used_nets cells c))
    ++ map (pin_end (linked_insts cells c) k.period) (data_pins cells (linked_insts cells c))

abbrev pub gate_edges : List Cell → Inst → List Edge
gate_edges cells i = if is_gate_inst cells i then map (λ m. record { from = m; to = i.output }) i.inputs else []

-- the graph of the design's nets: an edge from each input net of a gate to its output net
abbrev pub edges_of : List Cell → List Inst → List Edge
edges_of cells insts = flat_map (gate_edges cells) insts

-- the nets by level, and then by number
pub record IsByLevel (nodes : ℕ) (edges : List Edge) (order : List ℕ) : Type 0 where
  pub level : List ℕ
  pub leveled : IsLeveled nodes edges level
  pub ordered : IsOrder level order

-- the place of each net in the order
abbrev pub ranks_of : (order : List ℕ) → List ℕ
ranks_of order = map (λ n. position_or_len (λ m. m == n) order) (range_with_len 0 (length order))

-- These are the parts of the design of the four: nothing is refused, and each part is what it is to be.
pub record Linked (c : Circuit) (l : Library) (w : List Wire) (k : Terms) (p : Parts) : Type 0 where
  pub unrefused : first_fault c l w k ≡ None
  pub cells : p.cells ≡ l.cells
  pub slew_default : p.slew_default ≡ l.slew_default
  pub leak_unit : p.leak_unit ≡ l.leak_unit
  pub insts : p.insts ≡ linked_insts l.cells c
  pub nets : p.nets ≡ linked_nets l.cells c w k
  pub ends : p.ends ≡ linked_ends l.cells c k
  pub order : IsByLevel (length (used_nets l.cells c)) (edges_of l.cells (linked_insts l.cells c)) p.order
  pub ranks : p.ranks ≡ ranks_of p.order
  pub period : p.period ≡ k.period
  pub area_bound : p.area_bound ≡ k.max_area
