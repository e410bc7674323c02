-- What the sizes of a design say of the cells that they choose.

use Rattle.std.proofs.Common.{◌≡◌, ℕ, ◌+◌, ◌<◌, ◌≤◌, true, false, All, length, slice_index, slice_index_or, List, ℤ, nat_abs, refl, sym, ◌∙◌, arith}
use Rattle.std.proofs.lemmas.Int.{ints}
use Rattle.gs_design.specs.Cell.{is_gate, is_launch, is_flop, no_pin, pin_at}
use Rattle.gs_design.specs.Cells.{cell_at}
use Rattle.gs_design.specs.Ends.{is_gate_inst}
use Rattle.gs_design.specs.Insts.{inst_at}
use Rattle.gs_design.specs.Sizes.{FitSizes, cell_of}
use Rattle.gs_design.specs.declared.kind.CellKind.{CellKind}
use Rattle.gs_design.specs.declared.kind.CellKind.TheVariants.{Flop, Gate}
use Rattle.gs_design.specs.declared.design.Design.{Design}

gate_unless : (k : CellKind) → is_flop k ≡ false → is_gate k ≡ true
gate_unless (Gate truth) h = refl
gate_unless Flop h = absurd cc

module _ (d : Design) (s : List ℕ) (fit : FitSizes d s) (g : ℕ) (lt : g < length d.insts) where
  pub chosen_in : slice_index (inst_at d.insts g).alts (slice_index s g) < length d.cells
  chosen_in = (d.well.alts g lt).cells_in (slice_index s g) 0 (fit.places_in g lt)

  pub chosen_pins : length (cell_of d s g).pins ≡ length (inst_at d.insts g).inputs + 1
  chosen_pins = (d.well.alts g lt).inputs (slice_index s g) 0 (fit.places_in g lt)

  pub chosen_kind : is_gate (cell_of d s g).kind ≡ is_gate_inst d.cells (inst_at d.insts g)
  chosen_kind = (d.well.alts g lt).kinds (slice_index s g) 0 (fit.places_in g lt)

  -- each arc reads an input of the instance
  pub arc_pins : All (λ a. a.pin < length (inst_at d.insts g).inputs) (cell_of d s g).arcs
  arc_pins k a kt = let pins = chosen_pins in let own = (cell_of d s g).well.arc_pins k a kt in omega (arith, pins, own)

  pub cap_small : (p : ℕ) → p < length (inst_at d.insts g).inputs → nat_abs (pin_at (cell_of d s g).pins p).cap < 17179869184
  cap_small p pt =
      let few : p < length (cell_of d s g).pins = omega (arith, chosen_pins) in
      let cap = ((cell_of d s g).well.pins_in p no_pin few).cap in
      omega (arith, ints, cap.0, cap.1)

  -- What holds of every input net of a gate holds of the net that an arc reads, where the arc reads one.
  pub reads : (P : ℕ → Type 0) → (is_gate_inst d.cells (inst_at d.insts g) ≡ true → All P (inst_at d.insts g).inputs)
      → All (λ a. is_launch a.sense ≡ false → P (slice_index (inst_at d.insts g).inputs a.pin)) (cell_of d s g).arcs
  reads P h k a kt free =
      let gate : is_gate (cell_of d s g).kind ≡ true = gate_unless (cell_of d s g).kind (sym ((cell_of d s g).well.launches k a kt) ∙ free) in
      h (sym chosen_kind ∙ gate) (slice_index_or (cell_of d s g).arcs k a).pin 0 (arc_pins k a kt)
