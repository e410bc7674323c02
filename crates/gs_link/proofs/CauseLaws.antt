-- What is answered of a design, and what of a refusal.

use Rattle.std.proofs.Common.{◌≡◌, ◌≢◌, ◌⊎◌, ℕ, List, Option, None, Some, Result, Ok, Err, IfErr, IfOk, length, refl, sym, ap, subst, ◌∙◌, inl, inr}
use Rattle.gs_design.specs.Parts.{parts_of}
use Rattle.gs_design.specs.declared.design.Design.{Design}
use Rattle.gs_design.specs.declared.library.Library.{Library}
use Rattle.gs_design.specs.declared.parts.Parts.{Parts}
use Rattle.gs_grammar.specs.Answers.{IsDecided}
use Rattle.gs_levels.specs.Graph.{IsWithin}
use Rattle.gs_levels.specs.Levels.{HasCycle, HasLevels, IsCycle, IsLeveled, IsOrder}
use Rattle.gs_levels.specs.declared.edges.Edge.{Edge}
use Rattle.gs_link.proofs.NotMem.{fault_no}
use Rattle.gs_link.specs.Answers.{IsLawfulUpToCycle, IsOnlyDesign}
use Rattle.gs_link.specs.Cause.{HasCause, HasLoop, IsExactUpToCycle, SameRefusal, cycle_aside, names_of}
use Rattle.gs_link.specs.Linked.{IsByLevel, Linked, edges_of, linked_ends, linked_insts, linked_nets, ranks_of}
use Rattle.gs_survey.specs.Fault.{first_fault}
use Rattle.gs_survey.specs.Uses.{used_nets}
use Rattle.gs_survey.specs.declared.error.LinkErr.{LinkErr}
use Rattle.gs_survey.specs.declared.error.LinkErr.TheVariants as errors
use Rattle.gs_sdc.specs.Terms.{Terms}
use Rattle.gs_spef.specs.declared.wires.Wire.{Wire}
use Rattle.gs_verilog.specs.Circuit.{Circuit}

-- the law of graphs
pub record GraphLaw : Type 0 where
  pub decided : (nodes : ℕ) (edges : List Edge) → IsWithin nodes edges → HasLevels nodes edges ⊎ HasCycle edges
  pub apart : (nodes : ℕ) (edges : List Edge) → IsWithin nodes edges → HasLevels nodes edges → HasCycle edges → ⊥
  pub one_leveling : (nodes : ℕ) (edges : List Edge) (level other : List ℕ) → IsLeveled nodes edges level → IsLeveled nodes edges other → level ≡ other
  pub one_order : (level order other : List ℕ) → IsOrder level order → IsOrder level other → order ≡ other

both_orders : (law : GraphLaw) (nodes : ℕ) (edges : List Edge) (a b : List ℕ) → IsByLevel nodes edges a → IsByLevel nodes edges b → a ≡ b
both_orders law nodes edges a b h k =
    law.one_order h.level a b h.ordered (subst (λ level. IsOrder level b) (sym (law.one_leveling nodes edges h.level k.level h.leveled k.leveled)) k.ordered)

same_parts : (law : GraphLaw) (c : Circuit) (l : Library) (w : List Wire) (k : Terms) (p q : Parts) → Linked c l w k p → Linked c l w k q → p ≡ q
same_parts law c l w k p q h j =
    let order : p.order ≡ q.order = both_orders law (length (used_nets l.cells c)) (edges_of l.cells (linked_insts l.cells c)) p.order q.order h.order j.order in
    let cells : p.cells ≡ q.cells = h.cells ∙ sym j.cells in
    let slew_default : p.slew_default ≡ q.slew_default = h.slew_default ∙ sym j.slew_default in
    let leak_unit : p.leak_unit ≡ q.leak_unit = h.leak_unit ∙ sym j.leak_unit in
    let insts : p.insts ≡ q.insts = h.insts ∙ sym j.insts in
    let nets : p.nets ≡ q.nets = h.nets ∙ sym j.nets in
    let ends : p.ends ≡ q.ends = h.ends ∙ sym j.ends in
    let ranks : p.ranks ≡ q.ranks = h.ranks ∙ ap ranks_of order ∙ sym j.ranks in
    let period : p.period ≡ q.period = h.period ∙ sym j.period in
    let area_bound : p.area_bound ≡ q.area_bound = h.area_bound ∙ sym j.area_bound in
    λ i. record {
      cells = cells i;
      slew_default = slew_default i;
      leak_unit = leak_unit i;
      insts = insts i;
      nets = nets i;
      ends = ends i;
      order = order i;
      ranks = ranks i;
      period = period i;
      area_bound = area_bound i;
    }

-- whether a refusal is want of memory
pub is_mem : (e : LinkErr) → (e ≡ errors.Mem) ⊎ (e ≢ errors.Mem)
is_mem (errors.UnknownCell by) = inr (λ is. absurd cc)
is_mem (errors.UnknownPin by pin) = inr (λ is. absurd cc)
is_mem (errors.OpenPin inst pin) = inr (λ is. absurd cc)
is_mem (errors.TwoDrivers net) = inr (λ is. absurd cc)
is_mem (errors.Undriven net) = inr (λ is. absurd cc)
is_mem (errors.UnknownPort name) = inr (λ is. absurd cc)
is_mem (errors.UnknownNet name) = inr (λ is. absurd cc)
is_mem (errors.NoArc cell pin) = inr (λ is. absurd cc)
is_mem (errors.TooMany what count) = inr (λ is. absurd cc)
is_mem (errors.Loop cycle) = inr (λ is. absurd cc)
is_mem errors.Mem = inl refl

some_not_none : {F : Type 0} {e : F} (o : Option F) → o ≡ None → o ≡ Some e → ⊥
some_not_none o h k = let no : None ≡ Some _ = sym h ∙ k in absurd cc

module _ (law : GraphLaw) (c : Circuit) (l : Library) (w : List Wire) (k : Terms) (within : first_fault c l w k ≡ None → IsWithin (length (used_nets l.cells c)) (edges_of l.cells (linked_insts l.cells c))) where
  abbrev nodes : ℕ
  nodes = length (used_nets l.cells c)

  abbrev edges : List Edge
  edges = edges_of l.cells (linked_insts l.cells c)

  pub apart : (p : Parts) (e : LinkErr) → Linked c l w k p → e ≢ errors.Mem → HasCause c l w k e → ⊥
  apart p e h ne cause = by_cause cause
    where
      by_cause : HasCause c l w k e → ⊥
      by_cause (inl mem) = ne mem
      by_cause (inr (inl first)) = some_not_none (first_fault c l w k) h.unrefused first
      by_cause (inr (inr cycle)) =
          law.apart nodes edges (within h.unrefused) (record { level = h.order.level; order = p.order; leveled = h.order.leveled; ordered = h.order.ordered }) (record { cycle = cycle.is_loop.cycle; found = cycle.is_loop.is_cycle })

  pub one_value : (p q : Parts) → Linked c l w k p → Linked c l w k q → q ≡ p
  one_value p q h j = same_parts law c l w k q p j h

  pub one_cause : (e f : LinkErr) → e ≢ errors.Mem → HasCause c l w k e → f ≢ errors.Mem → HasCause c l w k f → SameRefusal f e
  unfolding cycle_aside
  one_cause e f ne (inl mem) nf g = absurd (ne mem)
  one_cause e f ne h nf (inl mem) = absurd (nf mem)
  one_cause e f ne (inr (inl first)) nf (inr (inl other)) = let same : Some f ≡ Some e = sym other ∙ first in ap cycle_aside (let e' : f ≡ e = cc in e')
  one_cause e f ne (inr (inl first)) nf (inr (inr cycle)) = absurd (some_not_none (first_fault c l w k) cycle.unrefused first)
  one_cause e f ne (inr (inr cycle)) nf (inr (inl first)) = absurd (some_not_none (first_fault c l w k) cycle.unrefused first)
  one_cause e f ne (inr (inr cycle)) nf (inr (inr other)) = ap cycle_aside other.is ∙ sym (ap cycle_aside cycle.is)

  abbrev parts_with : List ℕ → Parts
  parts_with order = record {
    cells = l.cells;
    slew_default = l.slew_default;
    leak_unit = l.leak_unit;
    insts = linked_insts l.cells c;
    nets = linked_nets l.cells c w k;
    ends = linked_ends l.cells c k;
    order = order;
    ranks = ranks_of order;
    period = k.period;
    area_bound = k.max_area;
  }

  pub linked_with : (order : List ℕ) → first_fault c l w k ≡ None → IsByLevel nodes edges order → Linked c l w k (parts_with order)
  linked_with order none by_level = record {
    unrefused = none;
    cells = refl;
    slew_default = refl;
    leak_unit = refl;
    insts = refl;
    nets = refl;
    ends = refl;
    order = by_level;
    ranks = refl;
    period = refl;
    area_bound = refl;
  }

  loop_of : first_fault c l w k ≡ None → (cycle : List ℕ) → IsCycle edges cycle → HasLoop c l w k (errors.Loop (names_of l.cells c cycle))
  loop_of none cycle is = record {
    unrefused = none;
    names = names_of l.cells c cycle;
    is_loop = record { cycle = cycle; is_cycle = is; named = refl };
    is = refl;
  }

  by_graph : first_fault c l w k ≡ None → HasLevels nodes edges ⊎ HasCycle edges → IsDecided errors.Mem (Linked c l w k) (HasCause c l w k)
  by_graph none (inl levels) = inl (parts_with levels.order, linked_with levels.order none (record { level = levels.level; leveled = levels.leveled; ordered = levels.ordered }))
  by_graph none (inr found) = inr (errors.Loop (names_of l.cells c found.cycle), (λ mem. absurd cc), inr (inr (loop_of none found.cycle found.found)))

  by_fault : (o : Option LinkErr) → first_fault c l w k ≡ o → IsDecided errors.Mem (Linked c l w k) (HasCause c l w k)
  by_fault (Some e) is = inr (e, (λ mem. fault_no c l w k (is ∙ ap (λ x. Some x) mem)), inr (inl is))
  by_fault None is = by_graph is (law.decided nodes edges (within is))

  pub decided : IsDecided errors.Mem (Linked c l w k) (HasCause c l w k)
  decided = by_fault (first_fault c l w k) refl

-- ---- clauses of the call

pub only_from : (c : Circuit) (l : Library) (w : List Wire) (k : Terms) (law : IsLawfulUpToCycle (Linked c l w k) (HasCause c l w k)) (r : Result Design LinkErr)
    → IfOk r (λ d. Linked c l w k (parts_of d)) → IfErr r (λ e. HasCause c l w k e) → IsOnlyDesign (Linked c l w k) r
only_from c l w k law (Ok d) ok err p h = law.one_design p (parts_of d) h ok
only_from c l w k law (Err e) ok err p h = by_mem (is_mem e)
  where
    by_mem : (e ≡ errors.Mem) ⊎ (e ≢ errors.Mem) → e ≡ errors.Mem
    by_mem (inl is) = is
    by_mem (inr ne) = absurd (law.apart p e h ne err)

pub exact_from : (c : Circuit) (l : Library) (w : List Wire) (k : Terms) (law : IsLawfulUpToCycle (Linked c l w k) (HasCause c l w k)) (r : Result Design LinkErr)
    → IfOk r (λ d. Linked c l w k (parts_of d)) → IfErr r (λ e. HasCause c l w k e) → IsExactUpToCycle (HasCause c l w k) r
exact_from c l w k law (Ok d) ok err e ne cause = law.apart (parts_of d) e ok ne cause
exact_from c l w k law (Err f) ok err e ne cause = by_mem (is_mem f)
  where
    by_mem : (f ≡ errors.Mem) ⊎ (f ≢ errors.Mem) → SameRefusal f e ⊎ (f ≡ errors.Mem)
    by_mem (inl is) = inr is
    by_mem (inr nf) = inl (law.one_cause e f ne cause nf err)
