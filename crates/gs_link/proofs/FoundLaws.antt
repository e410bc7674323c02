-- The cells of instances, by place.

use Rattle.std.proofs.Common.{◌≡◌, ℕ, ◌<◌, List, length, get_or, sym, ap, ◌∙◌}
use Rattle.std.proofs.lemmas.List.{get_or-map}
use Rattle.gs_design.specs.declared.cell.Cell.{Cell}
use Rattle.gs_link.proofs.WellLists.{lt_is, none_at, unless}
use Rattle.gs_survey.specs.Found.{AreFound, IsCellOf}
use Rattle.gs_survey.specs.Instances.{cell_number, has_cell, unknown_cell}
use Rattle.gs_survey.specs.Uses.{output_net, output_nets}
use Rattle.gs_verilog.specs.declared.parts.RawInst.{RawInst}

module _ (cells : List Cell) (insts : List RawInst) (found : List ℕ) (h : AreFound cells insts found) where
  pub found_at : (g : ℕ) (d : RawInst) → g < length insts → get_or found g 0 ≡ cell_number cells (get_or insts g d).cell
  found_at g d lt = rw h.are (get_or-map (λ (i : RawInst). cell_number cells i.cell) insts g d 0 lt)

  pub known_at : (g : ℕ) (d : RawInst) → g < length insts → cell_number cells (get_or insts g d).cell < length cells
  known_at g d lt = lt_is _ _ (unless (has_cell cells (get_or insts g d).cell) _ (none_at (unknown_cell cells) insts g d h.known lt))

  pub found_in : (g : ℕ) (d : RawInst) → g < length insts → get_or found g 0 < length cells
  found_in g d lt = let e : get_or found g 0 ≡ cell_number cells (get_or insts g d).cell = found_at g d lt in rw e (known_at g d lt)

  pub found_here : (g : ℕ) (i : RawInst) → g < length insts → i ≡ get_or insts g i → IsCellOf cells i (get_or found g 0)
  found_here g i lt is = record {
    is = found_at g i lt ∙ ap (λ (x : RawInst). cell_number cells x.cell) (sym is);
    inside = found_in g i lt;
  }

pub output_here : (cells : List Cell) (insts : List RawInst) (gates : List ℕ) → gates ≡ output_nets cells insts
    → (g : ℕ) (i : RawInst) → g < length insts → i ≡ get_or insts g i → get_or gates g 0 ≡ output_net cells i
output_here cells insts gates e g i lt is = rw e (get_or-map (output_net cells) insts g i 0 lt) ∙ ap (output_net cells) (sym is)
