-- A cell of a list by its place.

use Rattle.std.specs.Prelude.{ℕ, zero, suc, ◌≡◌, ◌+◌, ◌<◌, ◌==◌, false, List, [], ◌∷◌, slice_index_or, All, None, pos, refl}
use Rattle.std.proofs.Common.{arith}
use Rattle.std.proofs.lemmas.Int.{ints}
use Rattle.std.specs.Str.{bytes_eq}
use Rattle.gs_design.specs.Cell.{IsCell, IsPin, no_pin, is_output, pin_at}
use Rattle.gs_design.specs.declared.cell.Cell.{Cell}
use Rattle.gs_design.specs.declared.kind.CellKind.TheVariants.{Gate}
use Rattle.gs_design.specs.declared.pin.CellPin.{CellPin}
use Rattle.gs_design.specs.declared.pin.Role.TheVariants.{Output}

-- an input, and an output with a name
abbrev pub two_pins : List CellPin
two_pins = no_pin ∷ record { name = 79 ∷ []; role = Output; cap = pos 0; slew_bound = None; load_bound = None } ∷ []

roles_of_two : (p : ℕ) → p < 2 → is_output (pin_at two_pins p).role ≡ (p + 1 == 2)
roles_of_two zero h = refl
roles_of_two (suc zero) h = refl
roles_of_two (suc (suc p)) h = absurd (omega arith)

apart_of_two : (p : ℕ) → p + 1 < 2 → bytes_eq (pin_at two_pins p).name (79 ∷ []) ≡ false
apart_of_two zero h = refl
apart_of_two (suc p) h = absurd (omega arith)

pins_of_two : All IsPin two_pins
pins_of_two zero d h = record { cap = (omega (arith, ints), omega (arith, ints)); slew_bound = λ z e. absurd cc; load_bound = λ z e. absurd cc }
pins_of_two (suc zero) d h = record { cap = (omega (arith, ints), omega (arith, ints)); slew_bound = λ z e. absurd cc; load_bound = λ z e. absurd cc }
pins_of_two (suc (suc k)) d h = absurd (omega arith)

pub two_pins_well : IsCell (pos 0) (pos 0) (Gate 0) two_pins []
two_pins_well = record {
  some_inputs = omega arith;
  few_inputs = omega arith;
  roles = roles_of_two;
  rising = λ p h. absurd (omega arith);
  output_apart = apart_of_two;
  arc_pins = λ k d h. absurd (omega arith);
  launches = λ k d h. absurd (omega arith);
  some_launch = λ e. absurd cc;
  leakage_in = (omega (arith, ints), omega (arith, ints));
  area_in = (omega (arith, ints), omega (arith, ints));
  pins_in = pins_of_two;
}

-- what stands for a cell past the end of a list
abbrev pub no_cell : Cell
no_cell = record { name = []; footprint = []; leakage = pos 0; area = pos 0; marked = false; kind = Gate 0; pins = two_pins; arcs = []; well = two_pins_well }

abbrev pub cell_at : List Cell → ℕ → Cell
cell_at cells c = slice_index_or cells c no_cell

abbrev pub cell_name : Cell → List ℕ
cell_name c = c.name
