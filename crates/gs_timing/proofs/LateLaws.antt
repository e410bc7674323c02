-- How late the edges of a net are, where those that its driver reads are not later than a bound.

use Rattle.std.proofs.Common.{◌≡◌, ℕ, zero, suc, ◌+◌, ◌*◌, ◌<◌, ◌≤◌, Bool, true, false, All, List, [], ◌∷◌, ◌++◌, length, map, slice_index, slice_index_or, Option, None, Some, unwrap_or, ℤ, pos, neg_ℤ, ◌+ℤ◌, nat_abs, refl, sym, ◌∙◌, ap, subst, arith}
use Rattle.std.proofs.lemmas.Int.{ints, clamps}
use Rattle.std.specs.Int.{int_max}
use Rattle.gs_quantity.specs.Lookup.{held_in, least_of, look_of, rounded_of, held_query}
use Rattle.gs_design.specs.Amounts.{IsAmount}
use Rattle.gs_design.specs.Cell.{is_launch}
use Rattle.gs_design.specs.Cells.{cell_at}
use Rattle.gs_design.specs.Edges.{Edges, allowed, arc_candidates, candidates, delay_in, output_edges, through, worse, worst}
use Rattle.gs_design.specs.Ends.{is_gate_inst}
use Rattle.gs_design.specs.Insts.{inst_at}
use Rattle.gs_design.specs.Load.{load_of}
use Rattle.gs_design.specs.Nets.{net_at}
use Rattle.gs_design.specs.Sizes.{FitSizes, cell_of}
use Rattle.gs_design.specs.Timing.{driven_inputs, driver_edges, edges_at, inst_inputs, local_of}
use Rattle.gs_design.specs.Times.{edge_at_zero, time_at}
use Rattle.gs_design.specs.declared.arc.Sense.{Sense}
use Rattle.gs_design.specs.declared.arc.Sense.TheVariants.{Same, Other, Both, Launch}
use Rattle.gs_design.specs.declared.arc.TimingArc.{TimingArc}
use Rattle.gs_design.specs.declared.design.Design.{Design}
use Rattle.gs_design.specs.declared.sink.Driver.{Driver}
use Rattle.gs_design.specs.declared.sink.Driver.TheVariants.{Inst, Port}
use Rattle.gs_design.specs.declared.time.Edge.{Edge}
use Rattle.gs_design.specs.declared.time.NetTime.{NetTime}
use Rattle.gs_timing.specs.Late.{IsLate, IsLateEdge}
use Rattle.gs_timing.proofs.CellLaws.{reads}
use Rattle.gs_timing.proofs.EdgeLaws.{worst-append}

held_small : (z : ℤ) → nat_abs (held_in (least_of true) (pos 68719476736) z) ≤ 68719476736
held_small z = grind (arith, ints, clamps)

look_small : (a : List ℤ) (b : List ℤ) (c : List ℤ) (x y : ℤ) → nat_abs (look_of a b c x y true) ≤ 68719476736
look_small a b c x y = held_small (rounded_of a b c (held_query x) (held_query y))

abs_add : (x y : ℤ) (a b : ℕ) → nat_abs x ≤ a → nat_abs y ≤ b → nat_abs (x +ℤ y) ≤ a + b
abs_add x y a b h k = omega (arith, ints, h, k)

abs_max : (x y : ℤ) (b : ℕ) → nat_abs x ≤ b → nat_abs y ≤ b → nat_abs (int_max x y) ≤ b
abs_max x y b h k = grind (arith, ints)

-- the edge, or that at time 0, is not later than b
abbrev pub IsLateIf : Option Edge → ℕ → Type 0
IsLateIf o b = IsLateEdge (unwrap_or o edge_at_zero) b

later_late : (o : Option Edge) (e : Edge) (b : ℕ) → IsLateIf o b → IsLateEdge e b → IsLateIf (worst o (e ∷ [])) b
later_late None e b h k = k
later_late (Some f) e b h k = abs_max f.arrival e.arrival b h k

through_late : (a : TimingArc) (load : ℤ) (rise : Bool) (e : Edge) (b : ℕ) → IsLateEdge e b → IsLateEdge (through a load rise e) (b + 68719476736)
through_late a load true e b h = abs_add e.arrival (delay_in a.cell_rise e.slew load) b 68719476736 h (look_small a.cell_rise.xs a.cell_rise.ys a.cell_rise.zs e.slew load)
through_late a load false e b h = abs_add e.arrival (delay_in a.cell_fall e.slew load) b 68719476736 h (look_small a.cell_fall.xs a.cell_fall.ys a.cell_fall.zs e.slew load)

pub record IsLatePair (p : Edges) (b : ℕ) : Type 0 where
  pub rise : IsLateEdge p.rise b
  pub fall : IsLateEdge p.fall b

one_late : (a : TimingArc) (load : ℤ) (rise : Bool) (e : Edge) (b : ℕ) (o : Option Edge) → IsLateIf o (b + 68719476736) → IsLateEdge e b
    → IsLateIf (worst o (through a load rise e ∷ [])) (b + 68719476736)
one_late a load rise e b o h k = later_late o (through a load rise e) (b + 68719476736) h (through_late a load rise e b k)

sense_late : (a : TimingArc) (load : ℤ) (sense : Sense) (rise : Bool) (p : Edges) (b : ℕ) (o : Option Edge) → IsLateIf o (b + 68719476736)
    → (is_launch sense ≡ false → IsLatePair p b) → IsLateIf (worst o (map (through a load rise) (allowed sense rise p))) (b + 68719476736)
sense_late a load Same true p b o h k = one_late a load true p.rise b o h (k refl).rise
sense_late a load Same false p b o h k = one_late a load false p.fall b o h (k refl).fall
sense_late a load Other true p b o h k = one_late a load true p.fall b o h (k refl).fall
sense_late a load Other false p b o h k = one_late a load false p.rise b o h (k refl).rise
sense_late a load Both rise p b o h k =
    subst (λ w. IsLateIf w (b + 68719476736)) (sym (worst-append o (through a load rise p.rise ∷ []) (through a load rise p.fall ∷ [])))
    (one_late a load rise p.fall b (worst o (through a load rise p.rise ∷ [])) (one_late a load rise p.rise b o h (k refl).rise) (k refl).fall)
sense_late a load Launch rise p b o h k = one_late a load rise edge_at_zero b o h (omega (arith, ints))

candidates_late : (load : ℤ) (rise : Bool) (input : ℕ → Edges) (arcs : List TimingArc) (b : ℕ) (o : Option Edge) → IsLateIf o (b + 68719476736)
    → All (λ a. is_launch a.sense ≡ false → IsLatePair (input a.pin) b) arcs → IsLateIf (worst o (candidates load rise input arcs)) (b + 68719476736)
candidates_late load rise input [] b o h all = h
candidates_late load rise input (a ∷ arcs) b o h all =
    subst (λ w. IsLateIf w (b + 68719476736)) (sym (worst-append o (arc_candidates load rise input a) (candidates load rise input arcs)))
    (candidates_late load rise input arcs b (worst o (arc_candidates load rise input a))
    (sense_late a load a.sense rise (input a.pin) b o h (all zero a (omega arith)))
    (λ k e kt. all (suc k) e (omega arith)))

output_late : (load : ℤ) (input : ℕ → Edges) (arcs : List TimingArc) (b : ℕ) → All (λ a. is_launch a.sense ≡ false → IsLatePair (input a.pin) b) arcs
    → IsLatePair (output_edges load input arcs) (b + 68719476736)
output_late load input arcs b all = record {
  rise = candidates_late load true input arcs b None (omega (arith, ints)) all;
  fall = candidates_late load false input arcs b None (omega (arith, ints)) all;
}

module _ (d : Design) (s : List ℕ) (fit : FitSizes d s) (t : List NetTime) (n : ℕ) (lt : n < length d.nets) (b : ℕ) (least : 1099511627776 ≤ b)
    (inputs : (g : ℕ) → (net_at d.nets n).driver ≡ Inst g → is_gate_inst d.cells (inst_at d.insts g) ≡ true → All (λ m. IsLate (time_at t m) b) (inst_at d.insts g).inputs) where
  driver_late : (load : ℤ) (dr : Driver) → (net_at d.nets n).driver ≡ dr → IsLatePair (driver_edges d s t load dr) (b + 68719476736)
  driver_late load (Port delay None) drives =
      let small = (d.well.nets_kept n lt).delay_in delay None drives in
      record { rise = omega (arith, small, least); fall = omega (arith, small, least) }
  driver_late load (Port delay (Some c)) drives =
      let small = (d.well.nets_kept n lt).delay_in delay (Some c) drives in
      output_late load (driven_inputs delay c) (cell_at d.cells c.cell).arcs b
      (λ k a kt free. record { rise = omega (arith, small, least); fall = omega (arith, small, least) })
  driver_late load (Inst g) drives =
      output_late load (inst_inputs d t g) (cell_of d s g).arcs b
      (λ k a kt free.
      let late = reads d s fit g ((d.well.nets_kept n lt).inst_in g drives) (λ m. IsLate (time_at t m) b) (inputs g drives) k a kt free in
      record { rise = late.rise; fall = late.fall })

  pub net_late : IsLate (local_of d s t n) (b + 68719476736)
  net_late =
      let late = driver_late (load_of d s n) (net_at d.nets n).driver refl in
      record { rise = late.rise; fall = late.fall }
