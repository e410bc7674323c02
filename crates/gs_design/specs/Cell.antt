-- What the type of a cell keeps: its pins, its arcs, and the ranges of its numbers.

use Rattle.std.specs.Prelude.{ℕ, ◌≡◌, ◌+◌, ◌-◌, ◌<◌, ◌≤◌, ◌==◌, Bool, true, false, List, [], length, slice_index_or, All, None, ℤ, pos}
use Rattle.std.specs.Cmp.Lexicographic.{slice_cmp}
use Rattle.std.specs.Ordering.{nat_cmp}
use Rattle.std.specs.declared.cmp.Ordering.TheVariants.{Less}
use Rattle.std.specs.Str.{bytes_eq}
use Rattle.gs_design.specs.Amounts.{IsAmount, IsAmountIfGiven, IsCapacitance}
use Rattle.gs_design.specs.declared.arc.Sense.{Sense}
use Rattle.gs_design.specs.declared.arc.Sense.TheVariants.{Same, Other, Both, Launch}
use Rattle.gs_design.specs.declared.arc.TimingArc.{TimingArc}
use Rattle.gs_design.specs.declared.kind.CellKind.{CellKind}
use Rattle.gs_design.specs.declared.kind.CellKind.TheVariants.{Gate, Flop}
use Rattle.gs_design.specs.declared.pin.CellPin.{CellPin}
use Rattle.gs_design.specs.declared.pin.Role.{Role}
use Rattle.gs_design.specs.declared.pin.Role.TheVariants.{Input, Clock, Output}

abbrev pub is_output : Role → Bool
is_output Input = false
is_output Clock = false
is_output Output = true

abbrev pub is_gate : CellKind → Bool
is_gate (Gate truth) = true
is_gate Flop = false

abbrev pub is_flop : CellKind → Bool
is_flop (Gate truth) = false
is_flop Flop = true

-- whether an arc is a flip-flop's, from its clock
abbrev pub is_launch : Sense → Bool
is_launch Same = false
is_launch Other = false
is_launch Both = false
is_launch Launch = true

abbrev pub no_pin : CellPin
no_pin = record { name = []; role = Input; cap = pos 0; slew_bound = None; load_bound = None }

abbrev pub pin_at : List CellPin → ℕ → CellPin
pin_at pins p = slice_index_or pins p no_pin

-- the place of the output, which is the number of inputs
abbrev pub output_place : List CellPin → ℕ
output_place pins = length pins - 1

abbrev pub pin_name : CellPin → List ℕ
pin_name p = p.name

-- the ranges of a pin's numbers
pub record IsPin (p : CellPin) : Type 0 where
  pub cap : IsCapacitance p.cap
  pub slew_bound : IsAmountIfGiven p.slew_bound
  pub load_bound : IsAmountIfGiven p.load_bound

pub record IsCell (leakage area : ℤ) (kind : CellKind) (pins : List CellPin) (arcs : List TimingArc) : Type 0 where
  -- one to six inputs, and then one output
  pub some_inputs : 2 ≤ length pins
  pub few_inputs : length pins ≤ 7
  pub roles : (p : ℕ) → p < length pins → is_output (pin_at pins p).role ≡ (p + 1 == length pins)
  -- the inputs stand in byte order of their names, which differ, and none has the output's
  pub rising : (p : ℕ) → p + 2 < length pins → slice_cmp nat_cmp (pin_at pins p).name (pin_at pins (p + 1)).name ≡ Less
  pub output_apart : (p : ℕ) → p + 1 < length pins → bytes_eq (pin_at pins p).name (pin_at pins (output_place pins)).name ≡ false
  -- each arc is from an input
  pub arc_pins : All (λ a. a.pin + 1 < length pins) arcs
  -- all arcs of a flip-flop, and none of a gate, are rising-edge arcs; a flip-flop has one or more
  pub launches : All (λ a. is_launch a.sense ≡ is_flop kind) arcs
  pub some_launch : kind ≡ Flop → 0 < length arcs
  -- the ranges of its numbers
  pub leakage_in : IsAmount leakage
  pub area_in : IsAmount area
  pub pins_in : All IsPin pins
