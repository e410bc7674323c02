-- From what the phases answer to what the link answers.

use Rattle.std.proofs.Common.{◌≡◌, ◌≢◌, ◌⊎◌, ℕ, ◌<◌, List, None, Result, Ok, Err, IfErr, IfOk, length, refl, sym, subst, inl, inr}
use Rattle.gs_design.specs.Alternatives.{alternatives}
use Rattle.gs_design.specs.Class.{AreAlternativesOf}
use Rattle.gs_design.specs.Design.{IsDesign}
use Rattle.gs_design.specs.Parts.{parts_of}
use Rattle.gs_design.specs.declared.design.Design.{Design}
use Rattle.gs_design.specs.declared.library.Library.{Library}
use Rattle.gs_design.specs.declared.parts.Parts.{Parts}
use Rattle.gs_link.proofs.CauseLaws.{is_mem}
use Rattle.gs_link.proofs.Well.{well}
use Rattle.gs_link.specs.Cause.{HasCause, HasLoop}
use Rattle.gs_survey.specs.First.{Refuses}
use Rattle.gs_link.specs.Linked.{Linked, edges_of, linked_insts}
use Rattle.gs_survey.specs.Fault.{first_fault}
use Rattle.gs_link.specs.Pieces.{ArePieces, IsLoopErr, IsLoopOf}
use Rattle.gs_survey.specs.Uses.{used_nets}
use Rattle.gs_survey.specs.declared.error.LinkErr.{LinkErr}
use Rattle.gs_survey.specs.declared.error.LinkErr.TheVariants as errors
use Rattle.gs_link.specs.declared.pieces.Pieces.{Pieces}
use Rattle.gs_sdc.specs.Terms.{AreTerms, Terms}
use Rattle.gs_spef.specs.Wires.{IsWires}
use Rattle.gs_spef.specs.declared.wires.Wire.{Wire}
use Rattle.gs_verilog.specs.Circuit.{Circuit, IsNetlist}

module _ (c : Circuit) (l : Library) (w : List Wire) (k : Terms) where
  pub cause_of_fault : (e : LinkErr) → Refuses (first_fault c l w k) e → HasCause c l w k e
  cause_of_fault e h = by_mem (is_mem e)
    where
      by_mem : (e ≡ errors.Mem) ⊎ (e ≢ errors.Mem) → HasCause c l w k e
      by_mem (inl is) = inl is
      by_mem (inr ne) = inr (inl (h ne))

  loop_cause : first_fault c l w k ≡ None → (e : LinkErr) → IsLoopOf c.nets (used_nets l.cells c) (edges_of l.cells (linked_insts l.cells c)) e → HasLoop c l w k e
  loop_cause none e found = record {
    unrefused = none;
    names = _;
    is_loop = record { cycle = found.cycle; is_cycle = found.is_cycle; named = refl };
    is = found.is;
  }

  pub cause_of_loop : first_fault c l w k ≡ None → (e : LinkErr) → IsLoopErr c.nets (used_nets l.cells c) (edges_of l.cells (linked_insts l.cells c)) e → HasCause c l w k e
  cause_of_loop none e h = by_mem (is_mem e)
    where
      by_mem : (e ≡ errors.Mem) ⊎ (e ≢ errors.Mem) → HasCause c l w k e
      by_mem (inl is) = inl is
      by_mem (inr ne) = inr (inr (loop_cause none e (h ne)))

  module _ (p : Pieces) (none : first_fault c l w k ≡ None) (are : ArePieces l.cells c w k p) where
    abbrev parts : Parts
    parts = record {
      cells = l.cells;
      slew_default = l.slew_default;
      leak_unit = l.leak_unit;
      insts = p.insts;
      nets = p.nets;
      ends = p.ends;
      order = p.order;
      ranks = p.ranks;
      period = k.period;
      area_bound = k.max_area;
    }

    pub linked_of : Linked c l w k parts
    linked_of = record {
      unrefused = none;
      cells = refl;
      slew_default = refl;
      leak_unit = refl;
      insts = are.insts;
      nets = are.nets;
      ends = are.ends;
      order = are.order;
      ranks = are.ranks;
      period = refl;
      area_bound = refl;
    }

    pub design_of : IsNetlist c → IsWires w → AreTerms k → ((x : ℕ) → x < length l.cells → AreAlternativesOf l.cells x (alternatives l.cells x))
        → IsDesign l.cells l.slew_default p.insts p.nets p.ends p.order p.ranks k.period k.max_area
    design_of net wires terms kept = rw (are.insts, are.nets, are.ends, are.ranks) (well c l w k p.order net wires terms kept none are.order)

    pub ok_of : (r : Result Design LinkErr) → IfOk r (λ d. parts_of d ≡ parts) → IfOk r (λ d. Linked c l w k (parts_of d))
    ok_of (Ok d) h = subst (Linked c l w k) (sym h) linked_of
    ok_of (Err e) h = tt

  pub err_of : (r : Result Design LinkErr) → IfErr r (λ e. e ≡ errors.Mem) → IfErr r (HasCause c l w k)
  err_of (Ok d) h = tt
  err_of (Err e) h = inl h
