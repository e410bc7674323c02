-- The worst of lists of candidates.

use Rattle.std.proofs.Common.{◌≡◌, ℕ, ◌+◌, ◌<◌, Bool, true, false, List, [], ◌∷◌, ◌++◌, length, map, drop, slice_index_or, Option, None, Some, ℤ, refl, sym, ◌∙◌, ap}
use Rattle.std.proofs.lemmas.List.{at_drop_more}
use Rattle.gs_design.specs.Edges.{Edges, allowed, arc_candidates, candidates, through, worse, worst}
use Rattle.gs_design.specs.declared.arc.TimingArc.{TimingArc}
use Rattle.gs_design.specs.declared.time.Edge.{Edge}

pub worst-append : (best : Option Edge) (xs ys : List Edge) → worst best (xs ++ ys) ≡ worst (worst best xs) ys
worst-append best [] ys = refl
worst-append None (x ∷ xs) ys = worst-append (Some x) xs ys
worst-append (Some b) (x ∷ xs) ys = worst-append (Some (worse b x)) xs ys

-- the candidates of the first i arcs counted
pub record BestTo (load : ℤ) (input : ℕ → Edges) (arcs : List TimingArc) (i : ℕ) (rise fall : Option Edge) : Type 0 where
  pub rise_is : worst rise (candidates load true input (drop i arcs)) ≡ worst None (candidates load true input arcs)
  pub fall_is : worst fall (candidates load false input (drop i arcs)) ≡ worst None (candidates load false input arcs)

one_more : (load : ℤ) (side : Bool) (input : ℕ → Edges) (arcs : List TimingArc) (i : ℕ) (a : TimingArc) (best : Option Edge) → i < length arcs
    → worst (worst best (arc_candidates load side input (slice_index_or arcs i a))) (candidates load side input (drop (i + 1) arcs))
    ≡ worst best (candidates load side input (drop i arcs))
one_more load side input arcs i a best lt =
    sym (worst-append best (arc_candidates load side input (slice_index_or arcs i a)) (candidates load side input (drop (i + 1) arcs)))
    ∙ sym (at_drop_more (λ (rest : List TimingArc). worst best (candidates load side input rest)) arcs i a lt)

-- one arc on
pub step_arc : (load : ℤ) (input : ℕ → Edges) (arcs : List TimingArc) (i : ℕ) (a : TimingArc) (rise fall more_rise more_fall : Option Edge) → i < length arcs → a ≡ slice_index_or arcs i a
    → BestTo load input arcs i rise fall → more_rise ≡ worst rise (arc_candidates load true input a) → more_fall ≡ worst fall (arc_candidates load false input a)
    → BestTo load input arcs (i + 1) more_rise more_fall
step_arc load input arcs i a rise fall more_rise more_fall lt a_is h rise_is fall_is = record {
  rise_is =
      ap (λ w. worst w (candidates load true input (drop (i + 1) arcs))) rise_is
      ∙ ap (λ (x : TimingArc). worst (worst rise (arc_candidates load true input x)) (candidates load true input (drop (i + 1) arcs))) a_is
      ∙ one_more load true input arcs i a rise lt ∙ h.rise_is;
  fall_is =
      ap (λ w. worst w (candidates load false input (drop (i + 1) arcs))) fall_is
      ∙ ap (λ (x : TimingArc). worst (worst fall (arc_candidates load false input x)) (candidates load false input (drop (i + 1) arcs))) a_is
      ∙ one_more load false input arcs i a fall lt ∙ h.fall_is;
}
