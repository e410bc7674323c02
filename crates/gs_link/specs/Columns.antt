-- The columns of a linked design, from numbers that were found before. No public clause names this.

use Rattle.std.specs.Prelude.{ℕ, ◌≡◌, ◌<◌, ◌≤◌, List, map, length, take, slice_index, slice_index_or, All, None, ℤ, pos, ◌-ℤ◌, if◌then◌else◌}
use Rattle.gs_alternatives.specs.Choices.{stretch_at}
use Rattle.gs_alternatives.specs.declared.choices.Stretch.{Stretch}
use Rattle.gs_design.specs.Cells.{cell_at}
use Rattle.gs_design.specs.Insts.{Inst, inst_at}
use Rattle.gs_design.specs.declared.cell.Cell.{Cell}
use Rattle.gs_design.specs.declared.end.End.{End}
use Rattle.gs_design.specs.declared.end.EndPlace.TheVariants.{Output as AtPort}
use Rattle.gs_design.specs.declared.rows.InstRow.{InstRow}
use Rattle.gs_design.specs.declared.rows.NetRow.{NetRow}
use Rattle.gs_design.specs.declared.sink.Driver.{Driver}
use Rattle.gs_design.specs.declared.sink.Driver.TheVariants.{Port, Inst as OfInst}
use Rattle.gs_survey.specs.Instances.{cell_number, cell_of}
use Rattle.gs_survey.specs.Numbers.{is_one_of}
use Rattle.gs_survey.specs.Uses.{inputs_of, net_at_pin, output_net}
use Rattle.gs_link.specs.declared.values.Values.{Values}
use Rattle.gs_verilog.specs.declared.parts.RawInst.{RawInst}

abbrev pub inst_row : List Stretch → (cell output : ℕ) → InstRow
inst_row stretches x output = record { from = (stretch_at stretches x).from; to = (stretch_at stretches x).to; first = (stretch_at stretches x).first; output = output }

-- the row of an instance, where the new number of each net is known
abbrev pub row_of : List Cell → List Stretch → (numbers : List ℕ) → RawInst → InstRow
row_of cells stretches numbers i = inst_row stretches (cell_number cells i.cell) (slice_index numbers (output_net cells i))

-- the new numbers of the nets at its inputs
abbrev pub new_inputs : List Cell → (numbers : List ℕ) → RawInst → List ℕ
new_inputs cells numbers i = map (λ p. slice_index numbers (net_at_pin i.links p)) (inputs_of (cell_of cells i))

-- a list that has these first
abbrev pub BeginsWith : (first all : List ℕ) → Type 0
BeginsWith first all = first ≡ take (length first) all

abbrev pub raw_name : RawInst → List ℕ
raw_name i = i.name

-- the nets at the inputs of an instance of a design
abbrev pub inputs_at : List Inst → ℕ → List ℕ
inputs_at insts g = (inst_at insts g).inputs

-- what drives a net, from what is known of each net of the netlist
abbrev pub driver_at : (inputs : List ℕ) → Values → ℕ → Driver
driver_at inputs v n =
    if is_one_of inputs n then Port (slice_index_or v.delays n (pos 0)) (slice_index_or v.cells n None) else OfInst (slice_index v.gates n)

abbrev pub net_row : (inputs : List ℕ) → Values → ℕ → NetRow
net_row inputs v n = record { wire = slice_index_or v.wires n (pos 0); port_load = slice_index_or v.loads n (pos 0); driver = driver_at inputs v n }

-- the endpoint at an output port
abbrev pub end_of_port : (numbers : List ℕ) → (departures : List ℤ) → (period : ℤ) → ℕ → End
end_of_port numbers departures period n = record { place = AtPort; net = slice_index numbers n; bound = period -ℤ slice_index_or departures n (pos 0) }

-- what is read of an instance before the design is whole: its first alternative, and its pins
pub record IsReadable (cells : List Cell) (i : Inst) : Type 0 where
  pub some : 0 < length i.alts
  pub cell_in : slice_index i.alts 0 < length cells
  pub few : length i.inputs ≤ 6
  pub pins : length i.inputs < length (cell_at cells (slice_index i.alts 0)).pins

abbrev pub AreReadable : List Cell → List Inst → Type 0
AreReadable cells insts = (g : ℕ) → g < length insts → IsReadable cells (inst_at insts g)

-- the nets at the pins of instances are among so many
pub record AreInside (count : ℕ) (insts : List Inst) : Type 0 where
  pub inputs_in : (g : ℕ) → g < length insts → All (λ m. m < count) (inst_at insts g).inputs
  pub output_in : (g : ℕ) → g < length insts → (inst_at insts g).output < count
