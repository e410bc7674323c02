-- What is found in the four parsed files while they are checked. No public clause names this.

use Rattle.std.specs.Prelude.{ℕ, ◌≡◌, List, map, None}
use Rattle.gs_alternatives.specs.Choices.{AreChoices}
use Rattle.gs_design.specs.declared.cell.Cell.{Cell}
use Rattle.gs_design.specs.declared.library.Library.{Library}
use Rattle.gs_survey.specs.Found.{AreDriving, AreFound}
use Rattle.gs_survey.specs.Instances.{cell_number}
use Rattle.gs_survey.specs.Fault.{first_fault}
use Rattle.gs_survey.specs.Numbers.{net_number}
use Rattle.gs_survey.specs.Uses.{driven, input_ports, output_nets, output_ports, read}
use Rattle.gs_survey.specs.declared.surveyed.Named.{Named}
use Rattle.gs_survey.specs.declared.surveyed.Placed.{Placed}
use Rattle.gs_survey.specs.declared.surveyed.Survey.{Survey}
use Rattle.gs_survey.specs.declared.surveyed.Used.{Used}
use Rattle.gs_sdc.specs.Terms.{Terms}
use Rattle.gs_sdc.specs.declared.constraints.DriverSpec.{DriverSpec}
use Rattle.gs_sdc.specs.declared.constraints.PortValue.{PortValue}
use Rattle.gs_spef.specs.declared.wires.Wire.{Wire}
use Rattle.gs_verilog.specs.Circuit.{Circuit}
use Rattle.gs_verilog.specs.declared.parts.RawInst.{RawInst}

-- the numbers of the cells of instances and of the driving cells
pub record ArePlaced (cells : List Cell) (insts : List RawInst) (drivers : List DriverSpec) (p : Placed) : Type 0 where
  pub found : p.found ≡ map (λ i. cell_number cells i.cell) insts
  pub driving : p.driving ≡ map (λ d. cell_number cells d.cell) drivers

-- what drives the nets, and what reads them
pub record AreUsed (cells : List Cell) (c : Circuit) (u : Used) : Type 0 where
  pub gates : u.gates ≡ output_nets cells c.insts
  pub inputs : u.inputs ≡ input_ports c.ports
  pub outputs : u.outputs ≡ output_ports c.ports
  pub driven : u.driven ≡ driven cells c
  pub read : u.read ≡ read cells c

-- the numbers of the nets that constraints and wires name
pub record AreNamed (nets : List (List ℕ)) (w : List Wire) (k : Terms) (n : Named) : Type 0 where
  pub clocks : n.clocks ≡ map (net_number nets) k.clock_ports
  pub inputs : n.inputs ≡ map (λ (v : PortValue). net_number nets v.port) k.inputs
  pub outputs : n.outputs ≡ map (λ (v : PortValue). net_number nets v.port) k.outputs
  pub loads : n.loads ≡ map (λ (v : PortValue). net_number nets v.port) k.loads
  pub drivers : n.drivers ≡ map (λ (d : DriverSpec). net_number nets d.port) k.drivers
  pub wires : n.wires ≡ map (λ (x : Wire). net_number nets x.net) w

-- all that is found, where nothing is refused
pub record IsSurvey (c : Circuit) (l : Library) (w : List Wire) (k : Terms) (s : Survey) : Type 0 where
  pub unrefused : first_fault c l w k ≡ None
  pub found : AreFound l.cells c.insts s.placed.found
  pub driving : AreDriving l.cells k.drivers s.placed.driving
  pub used : AreUsed l.cells c s.used
  pub named : AreNamed c.nets w k s.named
  pub choices : AreChoices l.cells s.alternatives.choices s.alternatives.stretches
