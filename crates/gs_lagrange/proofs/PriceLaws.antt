-- What the evaluation of one place asks: that the sizes with it fit, and that arrivals are far below the greatest number.

use Rattle.std.proofs.Common.{◌≡◌, ℕ, ◌<◌, ◌≤◌, ◌⊎◌, inl, inr, List, length, slice_index, slice_index_or, slice_set, sym, ◌∙◌, subst, arith}
use Rattle.std.proofs.lemmas.Bool.{cases_eq}
use Rattle.std.proofs.lemmas.List.{get_or-set_other, get_or-set_same, length-set}
use Rattle.gs_design.specs.Cells.{cell_at}
use Rattle.gs_design.specs.Insts.{inst_at}
use Rattle.gs_design.specs.Sizes.{FitSizes}
use Rattle.gs_design.specs.Times.{time_at}
use Rattle.gs_design.specs.declared.design.Design.{Design}
use Rattle.gs_design.specs.declared.time.NetTime.{NetTime}
use Rattle.gs_timing.specs.Calm.{IsCalm, IsCalmAt}
use Rattle.gs_timing.specs.Late.{IsLate}

pub calm_by : (r : NetTime) → IsLate r 1152921504606846975 → IsCalm r
calm_by r late = let rise = late.rise in let fall = late.fall in record { rise = omega (arith, rise); fall = omega (arith, fall) }

module _ (d : Design) where
  module _ (s : List ℕ) (g p : ℕ) (fit : FitSizes d s) (g_in : g < length d.insts) (p_in : p < length (inst_at d.insts g).alts) where
    place_in : (k : ℕ) → k < length d.insts → (k ≡ g) ⊎ (k ≡ g → ⊥) → slice_index (slice_set s g p) k < length (inst_at d.insts k).alts
    place_in k kt (inl here) =
        subst (λ (j : ℕ). slice_index (slice_set s g p) j < length (inst_at d.insts j).alts) (sym here)
        (let same = get_or-set_same s g p 0 (omega (arith, fit.as_many, g_in)) in omega (arith, same, p_in))
    place_in k kt (inr apart) = let same = get_or-set_other s g k p 0 apart in let before = fit.places_in k kt in omega (arith, same, before)

    pub fit_moved : FitSizes d (slice_set s g p)
    fit_moved = record {
      as_many = length-set s g p ∙ fit.as_many;
      places_in = λ k kt. place_in k kt (cases_eq k g);
    }

  pub calm_at : (t : List NetTime) (n : ℕ) → ((m : ℕ) → m < length d.nets → IsLate (time_at t m) 1152921504606846975) → n < length d.nets → IsCalmAt d t n
  calm_at t n late net_in g drives gate j e jt =
      let inside = d.well.inputs_in g ((d.well.nets_kept n net_in).inst_in g drives) j e jt in
      calm_by (time_at t (slice_index_or (inst_at d.insts g).inputs j e)) (late (slice_index_or (inst_at d.insts g).inputs j e) inside)

  -- an instance that may be moved has at most six inputs
  pub few_inputs : (g : ℕ) → g < length d.insts → length (inst_at d.insts g).inputs ≤ 6
  few_inputs g g_in =
      let alts = d.well.alts g g_in in
      let pins = alts.inputs (inst_at d.insts g).first 0 alts.first_in in
      let few = (cell_at d.cells (slice_index (inst_at d.insts g).alts (inst_at d.insts g).first)).well.few_inputs in
      omega (arith, pins, few)
