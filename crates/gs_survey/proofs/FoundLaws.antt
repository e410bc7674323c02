-- The cells of instances and the driving cells, by place.

use Rattle.std.proofs.Common.{◌≡◌, ℕ, ◌<◌, Bool, true, false, cond, List, None, Some, length, get_or, All, refl, sym, ap, subst, ◌∙◌, ◌&&◌, arith}
use Rattle.std.proofs.lemmas.Bool.{and_parts, ltb-true}
use Rattle.std.proofs.lemmas.List.{get_or-map, get_or_default, length-map}
use Rattle.gs_design.specs.Cell.{is_gate}
use Rattle.gs_design.specs.declared.cell.Cell.{Cell}
use Rattle.gs_survey.proofs.First.{none_at}
use Rattle.gs_survey.specs.Blank.{no_driver, no_inst}
use Rattle.gs_survey.specs.Found.{AreDriving, AreFound, IsCellOf}
use Rattle.gs_survey.specs.Instances.{cell_named, cell_number, has_cell, unknown_cell, unknown_driving_cell}
use Rattle.gs_sdc.specs.declared.constraints.DriverSpec.{DriverSpec}
use Rattle.gs_verilog.specs.declared.parts.RawInst.{RawInst}

pub passes : {F : Type 0} (b : Bool) (f : F) → cond b None (Some f) ≡ None → b ≡ true
passes true f e = refl
passes false f e = absurd cc

module _ (cells : List Cell) (insts : List RawInst) (found : List ℕ) (h : AreFound cells insts found) where
  pub found_at : (g : ℕ) (d : RawInst) → g < length insts → get_or found g 0 ≡ cell_number cells (get_or insts g d).cell
  found_at g d lt = rw h.are (get_or-map (λ (i : RawInst). cell_number cells i.cell) insts g d 0 lt)

  pub known_at : (g : ℕ) (d : RawInst) → g < length insts → cell_number cells (get_or insts g d).cell < length cells
  known_at g d lt = ltb-true _ _ (passes (has_cell cells (get_or insts g d).cell) _ (none_at (unknown_cell cells) insts g d h.known lt))

  pub found_in : (g : ℕ) (d : RawInst) → g < length insts → get_or found g 0 < length cells
  found_in g d lt = let e : get_or found g 0 ≡ cell_number cells (get_or insts g d).cell = found_at g d lt in rw e (known_at g d lt)

  pub found_here : (g : ℕ) (i : RawInst) → g < length insts → i ≡ get_or insts g i → IsCellOf cells i (get_or found g 0)
  found_here g i lt is = record {
    is = found_at g i lt ∙ ap (λ (x : RawInst). cell_number cells x.cell) (sym is);
    inside = found_in g i lt;
  }

  pub all_found : All (λ x. x < length cells) found
  all_found g d lt =
      let many : length found ≡ length insts = ap length h.are ∙ length-map insts (λ (i : RawInst). cell_number cells i.cell) in
      subst (λ x. x < length cells) (get_or_default found g 0 d lt) (found_in g no_inst (omega (arith, many)))

module _ (cells : List Cell) (drivers : List DriverSpec) (found : List ℕ) (h : AreDriving cells drivers found) where
  pub driver_at : (g : ℕ) (d : DriverSpec) → g < length drivers → get_or found g 0 ≡ cell_number cells (get_or drivers g d).cell
  driver_at g d lt = rw h.are (get_or-map (λ (x : DriverSpec). cell_number cells x.cell) drivers g d 0 lt)

  pub driving_at : (g : ℕ) (d : DriverSpec) → g < length drivers → (cell_number cells (get_or drivers g d).cell < length cells) × (is_gate (cell_named cells (get_or drivers g d).cell).kind ≡ true)
  driving_at g d lt =
      let both = and_parts (has_cell cells (get_or drivers g d).cell) (is_gate (cell_named cells (get_or drivers g d).cell).kind)
      (passes (has_cell cells (get_or drivers g d).cell && is_gate (cell_named cells (get_or drivers g d).cell).kind) _ (none_at (unknown_driving_cell cells) drivers g d h.known lt)) in
      (ltb-true _ _ both.0, both.1)

  pub driver_in : (g : ℕ) (d : DriverSpec) → g < length drivers → get_or found g 0 < length cells
  driver_in g d lt = let e : get_or found g 0 ≡ cell_number cells (get_or drivers g d).cell = driver_at g d lt in rw e ((driving_at g d lt).0)

  pub all_driving : All (λ x. x < length cells) found
  all_driving g d lt =
      let many : length found ≡ length drivers = ap length h.are ∙ length-map drivers (λ (x : DriverSpec). cell_number cells x.cell) in
      subst (λ x. x < length cells) (get_or_default found g 0 d lt) (driver_in g no_driver (omega (arith, many)))
