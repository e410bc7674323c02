-- What is known of each net while a design is built. No public clause names this.

use Rattle.std.specs.Prelude.{ℕ, ◌≡◌, List, length, map}
use Rattle.std.specs.List.{range_with_len}
use Rattle.gs_design.specs.declared.cell.Cell.{Cell}
use Rattle.gs_link.specs.Linked.{port_driver, port_value, wire_total}
use Rattle.gs_survey.specs.Numbers.{given}
use Rattle.gs_survey.specs.Uses.{output_nets}
use Rattle.gs_link.specs.declared.values.Values.{Values}
use Rattle.gs_sdc.specs.Terms.{Terms}
use Rattle.gs_spef.specs.declared.wires.Wire.{Wire}
use Rattle.gs_verilog.specs.Circuit.{Circuit}

-- the instance whose output a net is
abbrev pub gate_of : List Cell → Circuit → ℕ → ℕ
gate_of cells c n = given (output_nets cells c.insts) (range_with_len 0 (length c.insts)) 0 n

-- what is given for each net of the netlist
pub record AreGiven (cells : List Cell) (c : Circuit) (w : List Wire) (k : Terms) (v : Values) : Type 0 where
  pub wires : v.wires ≡ map (wire_total c.nets w) (range_with_len 0 (length c.nets))
  pub loads : v.loads ≡ map (port_value c.nets k.loads) (range_with_len 0 (length c.nets))
  pub delays : v.delays ≡ map (port_value c.nets k.inputs) (range_with_len 0 (length c.nets))
  pub departures : v.departures ≡ map (port_value c.nets k.outputs) (range_with_len 0 (length c.nets))
  pub cells_are : v.cells ≡ map (port_driver cells c.nets k.drivers) (range_with_len 0 (length c.nets))
  pub gates : v.gates ≡ map (gate_of cells c) (range_with_len 0 (length c.nets))
