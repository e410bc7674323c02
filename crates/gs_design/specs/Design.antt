-- What the type of a design keeps, beside what each of its cells does.

use Rattle.std.specs.Prelude.{ℕ, ◌≡◌, ◌≢◌, ◌+◌, ◌<◌, ◌≤◌, ◌==◌, Bool, true, false, List, map, length, slice_index, sum_by, All, AllPairs, Option, None, Some, ℤ, nat_abs, nat_lt}
use Rattle.std.specs.List.{list_any}
use Rattle.gs_text.specs.Pieces.{IsUnbroken}
use Rattle.gs_design.specs.Amounts.{IsAmount}
use Rattle.gs_design.specs.Cell.{is_gate}
use Rattle.gs_design.specs.Cells.{cell_at}
use Rattle.gs_design.specs.Ends.{data_pins, end_at, end_pins, is_at_port, is_gate_inst, pin_net, pins_on, port_count}
use Rattle.gs_design.specs.Insts.{Inst, inst_at, inst_name}
use Rattle.gs_design.specs.Library.{IsLibrary}
use Rattle.gs_design.specs.Nets.{Net, net_at}
use Rattle.gs_design.specs.declared.arc.TimingArc.{TimingArc}
use Rattle.gs_design.specs.declared.cell.Cell.{Cell}
use Rattle.gs_design.specs.declared.end.End.{End}
use Rattle.gs_design.specs.declared.end.EndPlace.TheVariants.{Pin as AtPin}
use Rattle.gs_design.specs.declared.sink.Driven.{Driven}
use Rattle.gs_design.specs.declared.sink.Driver.TheVariants.{Port, Inst as OfInst}
use Rattle.gs_design.specs.declared.sink.Sink.{Sink}

-- whether one of the arcs is from the pin
abbrev pub has_arc : List TimingArc → ℕ → Bool
has_arc arcs p = list_any (λ a. a.pin == p) arcs

-- an arc from every input
abbrev pub HasAllArcs : Cell → Type 0
HasAllArcs c = (p : ℕ) → p + 1 < length c.pins → has_arc c.arcs p ≡ true

-- a driving cell is a gate with an arc from every input, and its transitions are amounts
pub record IsDriven (cells : List Cell) (c : Driven) : Type 0 where
  pub cell_in : c.cell < length cells
  pub gate : is_gate (cell_at cells c.cell).kind ≡ true
  pub arcs : HasAllArcs (cell_at cells c.cell)
  pub rise_in : IsAmount c.rise
  pub fall_in : IsAmount c.fall

-- what the alternatives of an instance keep
pub record AreAlternatives (cells : List Cell) (i : Inst) : Type 0 where
  -- the netlist's cell is one of them
  pub first_in : i.first < length i.alts
  pub few : length i.alts ≤ 1024
  pub cells_in : All (λ c. c < length cells) i.alts
  -- they differ, and have as many inputs as the instance
  pub differ : AllPairs (λ x y. x ≢ y) i.alts
  pub inputs : All (λ c. length (cell_at cells c).pins ≡ length i.inputs + 1) i.alts
  -- they are all gates, or they are one flip-flop
  pub kinds : All (λ c. is_gate (cell_at cells c).kind ≡ is_gate_inst cells i) i.alts
  pub flop_alone : is_gate_inst cells i ≡ false → length i.alts ≡ 1
  -- each that is a gate has an arc from every input
  pub arcs : is_gate_inst cells i ≡ true → All (λ c. HasAllArcs (cell_at cells c)) i.alts

-- a sink is an input pin of an instance, and on the net
pub record IsSinkOn (insts : List Inst) (n : ℕ) (s : Sink) : Type 0 where
  pub inst_in : s.inst < length insts
  pub pin_in : s.pin < length (inst_at insts s.inst).inputs
  pub on : pin_net insts s ≡ n

-- what a net keeps
pub record IsNet (cells : List Cell) (insts : List Inst) (n : ℕ) (net : Net) : Type 0 where
  -- an instance that drives it does so with its output pin
  pub inst_in : (g : ℕ) → net.driver ≡ OfInst g → g < length insts
  pub inst_drives : (g : ℕ) → net.driver ≡ OfInst g → (inst_at insts g).output ≡ n
  -- a port's delay and driving cell
  pub delay_in : (delay : ℤ) (cell : Option Driven) → net.driver ≡ Port delay cell → nat_abs delay < 1099511627776
  pub driven : (delay : ℤ) (c : Driven) → net.driver ≡ Port delay (Some c) → IsDriven cells c
  -- its sinks are the input pins on it, by instance and pin
  pub sinks_are : net.sinks ≡ pins_on insts n
  pub sinks_in : All (IsSinkOn insts n) net.sinks
  pub few_sinks : length net.sinks < 8388608
  pub wire_in : IsAmount net.wire
  pub port_load_in : IsAmount net.port_load

-- Endpoints at output ports come first, by net, at most one for each net. Then come the data pins of the flip-flops, by instance and
-- pin, each with the net at that pin.
pub record AreEnds (cells : List Cell) (insts : List Inst) (nets : List Net) (ends : List End) : Type 0 where
  pub few : length ends < 16777216
  pub nets_in : (e : ℕ) → e < length ends → (end_at ends e).net < length nets
  pub ports_first : (e : ℕ) → e < length ends → is_at_port (end_at ends e).place ≡ nat_lt e (port_count ends)
  pub ports_rise : (e : ℕ) → e + 1 < port_count ends → (end_at ends e).net < (end_at ends (e + 1)).net
  pub pins_are : end_pins ends ≡ data_pins cells insts
  pub pins_in : (e g p : ℕ) → e < length ends → (end_at ends e).place ≡ AtPin g p → (g < length insts) × (p < length (inst_at insts g).inputs)
  pub pins_on_net : (e g p : ℕ) → e < length ends → (end_at ends e).place ≡ AtPin g p → (end_at ends e).net ≡ pin_net insts (record { inst = g; pin = p })
  pub bounds : (e : ℕ) → e < length ends → nat_abs (end_at ends e).bound < 2199023255552

-- `order` holds each of so many nets once, and `ranks` gives each net its place in it.
pub record IsOrder (count : ℕ) (order ranks : List ℕ) : Type 0 where
  pub ordered : length order ≡ count
  pub ranked : length ranks ≡ count
  pub net_in : (k : ℕ) → k < count → slice_index order k < count
  pub rank_in : (n : ℕ) → n < count → slice_index ranks n < count
  pub rank_of_net : (k : ℕ) → k < count → slice_index ranks (slice_index order k) ≡ k
  pub net_of_rank : (n : ℕ) → n < count → slice_index order (slice_index ranks n) ≡ n

pub record IsDesign (cells : List Cell) (slew_default : Option ℤ) (insts : List Inst) (nets : List Net) (ends : List End) (order ranks : List ℕ) (period : ℤ) (area_bound : Option ℤ) : Type 0 where
  -- of its cells it keeps what a library keeps
  pub library : IsLibrary slew_default cells
  -- fewer than 2 ^ 21 instances, 2 ^ 22 nets and 2 ^ 23 connected pins
  pub few_insts : length insts < 2097152
  pub few_nets : length nets < 4194304
  pub few_pins : sum_by (λ i. length i.inputs + 1) insts < 8388608
  -- the instances' names differ, and none is empty or holds white
  pub names_differ : AllPairs (λ x y. x ≢ y) (map inst_name insts)
  pub named : All (λ i. IsUnbroken i.name) insts
  -- the alternatives of each instance, and its nets
  pub alts : (g : ℕ) → g < length insts → AreAlternatives cells (inst_at insts g)
  pub inputs_in : (g : ℕ) → g < length insts → All (λ m. m < length nets) (inst_at insts g).inputs
  pub output_in : (g : ℕ) → g < length insts → (inst_at insts g).output < length nets
  -- each instance drives the net at its output pin
  pub drives : (g : ℕ) → g < length insts → (net_at nets (inst_at insts g).output).driver ≡ OfInst g
  pub nets_kept : (n : ℕ) → n < length nets → IsNet cells insts n (net_at nets n)
  pub ends_kept : AreEnds cells insts nets ends
  -- an endpoint at a data pin is bounded by the period
  pub pin_bounds : (e g p : ℕ) → e < length ends → (end_at ends e).place ≡ AtPin g p → (end_at ends e).bound ≡ period
  -- a net that a gate drives stands in the order after that gate's input nets
  pub order_kept : IsOrder (length nets) order ranks
  pub inputs_before : (n g : ℕ) → n < length nets → (net_at nets n).driver ≡ OfInst g → is_gate_inst cells (inst_at insts g) ≡ true → All (λ m. slice_index ranks m < slice_index ranks n) (inst_at insts g).inputs
  -- the magnitudes of the period, and of the bound on the area where there is one
  pub period_in : nat_abs period < 1099511627776
  pub area_bound_in : (z : ℤ) → area_bound ≡ Some z → nat_abs z < 1099511627776
