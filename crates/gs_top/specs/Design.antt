-- The stages of the design that a command works on: the library, the netlist, the wires, the constraints, and what they make together.
use Rattle.std.specs.Prelude.{ℕ, List}
use Rattle.gs_design.specs.declared.library.Library.{Library}
use Rattle.gs_design.specs.declared.parts.Parts.{Parts}
use Rattle.gs_design.specs.declared.units.Units.{Units}
use Rattle.gs_lib.specs.Library as lib
use Rattle.gs_lib.specs.Library.{IsLibraryOf}
use Rattle.gs_lib.specs.declared.error.LibErr.TheVariants as lib_err
use Rattle.gs_libtree.specs.Refusal as tree
use Rattle.gs_libtree.specs.declared.error.LibTextErr.TheVariants as tree_err
use Rattle.gs_libtree.specs.declared.tree.Node.{Node}
use Rattle.gs_link.specs.Cause as linking
use Rattle.gs_link.specs.Linked.{Linked}
use Rattle.gs_survey.specs.declared.error.LinkErr.TheVariants as link_err
use Rattle.gs_sdc.specs.Sdc as sdc
use Rattle.gs_sdc.specs.Sdc.{IsSdc}
use Rattle.gs_sdc.specs.Terms.{Terms}
use Rattle.gs_sdc.specs.declared.error.SdcErr.TheVariants as sdc_err
use Rattle.gs_spef.specs.Refusal as spef
use Rattle.gs_spef.specs.Spef.{IsSpef}
use Rattle.gs_spef.specs.declared.error.SpefErr.TheVariants as spef_err
use Rattle.gs_spef.specs.declared.wires.Wire.{Wire}
use Rattle.gs_verilog.specs.Circuit.{Circuit}
use Rattle.gs_verilog.specs.Refusal as netlist
use Rattle.gs_verilog.specs.declared.error.VerilogErr.TheVariants as verilog_err
use Rattle.gs_top.specs.Refusal.{tree_status, lib_status, verilog_status, spef_status, sdc_status, link_status}
use Rattle.gs_top.specs.Stage.{Stage, and_then, judge, read_file, Caused}
use Rattle.gs_top.specs.declared.status.Input.TheVariants.{Lib, Verilog, Spef, Sdc}
use Rattle.gs_top.specs.declared.status.Status.{Status}

abbrev pub LibertyCause : List ℕ → Status → Type 0
LibertyCause bytes = Caused tree_err.Mem tree_status (tree.HasCause bytes)

abbrev pub LibraryCause : Node → Status → Type 0
LibraryCause root = Caused lib_err.Mem lib_status (lib.HasCause root)

abbrev pub NetlistCause : List ℕ → Status → Type 0
NetlistCause bytes = Caused verilog_err.Mem verilog_status (netlist.HasCause bytes)

abbrev pub SpefCause : List ℕ → Status → Type 0
SpefCause bytes = Caused spef_err.Mem spef_status (spef.HasCause bytes)

abbrev pub SdcCause : Units → List ℕ → Status → Type 0
SdcCause units bytes = Caused sdc_err.Mem sdc_status (sdc.HasCause units bytes)

abbrev pub LinkCause : Library → Circuit → List Wire → Terms → Status → Type 0
LinkCause l c w k = Caused link_err.Mem link_status (linking.HasCause c l w k)

-- the library's text
abbrev pub liberty : Stage Node
liberty = read_file Lib tree.IsLiberty LibertyCause

-- what it says of its units and its cells
abbrev pub library_in : Node → Stage Library
library_in root = judge (IsLibraryOf root) (LibraryCause root)

abbrev pub library : Stage Library
library = and_then liberty library_in

abbrev pub netlist_text : Stage Circuit
netlist_text = read_file Verilog netlist.IsVerilog NetlistCause

abbrev pub spef_text : Stage (List Wire)
spef_text = read_file Spef IsSpef SpefCause

-- its numbers are in the library's units
abbrev pub sdc_text : Units → Stage Terms
sdc_text units = read_file Sdc (IsSdc units) (SdcCause units)

abbrev pub link : Library → Circuit → List Wire → Terms → Stage Parts
link l c w k = judge (Linked c l w k) (LinkCause l c w k)

-- the wires and the constraints, and what the four files make
abbrev pub linked_with : Library → Circuit → Stage Parts
linked_with l c = and_then spef_text (λ w. and_then (sdc_text l.units) (λ k. link l c w k))

-- in the order of work: the library, the netlist, the wires, the constraints, and then what they make
abbrev pub design : Stage Parts
design = and_then library (λ l. and_then netlist_text (λ c. linked_with l c))
