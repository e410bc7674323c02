-- A linked design keeps what the type of a design asks.

use Rattle.std.proofs.Common.{◌≡◌, sym, subst, ℕ, ◌<◌, List, All, length, slice_index, true, Option, None, Some, ℤ, arith}
use Rattle.std.specs.Prelude.{nat_abs}
use Rattle.std.proofs.lemmas.List.{length-map}
use Rattle.gs_amount.specs.Amount.{IsLimited}
use Rattle.gs_design.specs.Alternatives.{alternatives}
use Rattle.gs_design.specs.Class.{AreAlternativesOf}
use Rattle.gs_design.specs.Design.{IsDesign, IsOrder as IsDesignOrder}
use Rattle.gs_design.specs.Ends.{is_gate_inst}
use Rattle.gs_design.specs.Insts.{Inst, inst_at}
use Rattle.gs_design.specs.Nets.{Net, net_at}
use Rattle.gs_design.specs.declared.library.Library.{Library}
use Rattle.gs_design.specs.declared.sink.Driver.TheVariants.{Inst as OfInst}
use Rattle.gs_link.specs.Linked.{IsByLevel, edges_of, linked_ends, linked_insts, linked_net, linked_nets, ranks_of}
use Rattle.gs_survey.specs.Fault.{first_fault}
use Rattle.gs_survey.specs.Uses.{driven, is_used, read, used_nets}
use Rattle.gs_link.proofs.WellEnds.{ends_kept, pin_bounds}
use Rattle.gs_link.proofs.WellInsts.{alts_kept, inputs_in, insts_few, named, names_differ, output_in, pins_in_all}
use Rattle.gs_link.proofs.WellLists.{number_few}
use Rattle.gs_link.proofs.WellNets.{drives, magnitude, net_kept}
use Rattle.gs_link.proofs.WellOrder.{inputs_before, is_order}
use Rattle.gs_link.proofs.WellSound.{IsSound, sound}
use Rattle.gs_sdc.specs.Terms.{AreTerms, IfGiven, Terms}
use Rattle.gs_spef.specs.Wires.{IsWires}
use Rattle.gs_spef.specs.declared.wires.Wire.{Wire}
use Rattle.gs_verilog.specs.Circuit.{Circuit, IsNetlist}

-- a bound that is given has a magnitude
bound_by : (o : Option ℤ) → IfGiven IsLimited o → (z : ℤ) → o ≡ Some z → nat_abs z < 1099511627776
bound_by None h z e = absurd cc
bound_by (Some m) h z e =
    let same : m ≡ z = cc in
    subst (λ x. nat_abs x < 1099511627776) same (magnitude m h)

module _ (c : Circuit) (l : Library) (w : List Wire) (k : Terms) (order : List ℕ) (net : IsNetlist c) (wires : IsWires w) (terms : AreTerms k)
    (kept : (x : ℕ) → x < length l.cells → AreAlternativesOf l.cells x (alternatives l.cells x))
    (none : first_fault c l w k ≡ None) (by_level : IsByLevel (length (used_nets l.cells c)) (edges_of l.cells (linked_insts l.cells c)) order) where
  ok : IsSound l.cells c k.drivers
  ok = sound c l w k none

  abbrev insts : List Inst
  insts = linked_insts l.cells c

  abbrev nets : List Net
  nets = linked_nets l.cells c w k

  nets_many : length nets ≡ length (used_nets l.cells c)
  nets_many = length-map (used_nets l.cells c) (linked_net l.cells c w k)

  before : (n g : ℕ) → n < length nets → (net_at nets n).driver ≡ OfInst g → is_gate_inst l.cells (inst_at insts g) ≡ true → All (λ m. slice_index (ranks_of order) m < slice_index (ranks_of order) n) (inst_at insts g).inputs
  before n g lt drv gate =
      let in_n : n < length (used_nets l.cells c) = omega (arith, nets_many) in
      let is = net_kept l.cells c net k ok terms w wires n in_n in
      let in_g : g < length insts = is.inst_in g drv in
      inputs_before l.cells insts (length (used_nets l.cells c)) order by_level g n in_g (is.inst_drives g drv) in_n (inputs_in l.cells c net k.drivers ok g in_g) gate

  -- from no refusal, and from what the types of the parsed files keep
  pub well : IsDesign l.cells l.slew_default insts nets (linked_ends l.cells c k) order (ranks_of order) k.period k.max_area
  well = record {
    library = l.well;
    few_insts = insts_few l.cells c net k.drivers ok;
    few_nets = omega (arith, nets_many, number_few (is_used (driven l.cells c) (read l.cells c)) (length c.nets), ok.few_nets);
    few_pins = pins_in_all l.cells c net k.drivers ok;
    names_differ = names_differ l.cells c net;
    named = named l.cells c net;
    alts = alts_kept l.cells c net k.drivers ok kept;
    inputs_in = λ g lt. subst (λ n. All (λ m. m < n) (inst_at insts g).inputs) (sym nets_many) (inputs_in l.cells c net k.drivers ok g lt);
    output_in = λ g lt. omega (arith, nets_many, output_in l.cells c net k.drivers ok g lt);
    drives = drives l.cells c net k ok terms w wires;
    nets_kept = λ n lt. net_kept l.cells c net k ok terms w wires n (omega (arith, nets_many));
    ends_kept = ends_kept l.cells c net k ok terms w;
    pin_bounds = pin_bounds l.cells c net k ok terms;
    order_kept = subst (λ n. IsDesignOrder n order (ranks_of order)) (sym nets_many) (is_order l.cells insts (length (used_nets l.cells c)) order by_level);
    inputs_before = before;
    period_in = magnitude k.period terms.period;
    area_bound_in = bound_by k.max_area terms.max_area;
  }
