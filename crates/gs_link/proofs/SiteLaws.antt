-- What the build of a design rests on, where nothing is refused.

use Rattle.std.proofs.Common.{◌≡◌, ◌⊎◌, ℕ, ◌<◌, ◌≤◌, Bool, true, false, cond, List, [], ◌++◌, Option, None, All, length, get_or, map, slice_index, slice_index_or, sym, subst, inl, inr, arith, ℤ, pos}
use Rattle.std.proofs.lemmas.Bool.{cases_lt}
use Rattle.std.proofs.lemmas.List.{get_or_default, get_or_past, length-map}
use Rattle.std.proofs.lemmas.List.Elements.{All-append, All-filter, All-map}
use Rattle.std.proofs.lemmas.List.FromFn.{get_or-map-range_with_len, length-map-range_with_len}
use Rattle.std.specs.List.{filter, range_with_len}
use Rattle.gs_amount.specs.Amount.{IsLimited}
use Rattle.gs_design.specs.Alternatives.{alternatives}
use Rattle.gs_design.specs.Class.{AreAlternativesOf}
use Rattle.gs_design.specs.Ends.{is_gate_inst}
use Rattle.gs_design.specs.Insts.{Inst, inst_at, no_inst}
use Rattle.gs_design.specs.declared.cell.Cell.{Cell}
use Rattle.gs_design.specs.declared.library.Library.{Library}
use Rattle.gs_levels.specs.Graph.{IsWithin, no_edge}
use Rattle.gs_levels.specs.declared.edges.Edge.{Edge}
use Rattle.gs_link.proofs.WellInsts.{alts_kept, inputs_in, inputs_many, inst_is, insts_many, output_below, output_in}
use Rattle.gs_link.proofs.WellLists.{all_flat, count_from, each_of, lt_is, none_at, number_few, one_of, or_first, or_later, unless}
use Rattle.gs_link.proofs.WellNets.{limited_zero, value_kept}
use Rattle.gs_link.proofs.WellSound.{IsSound, no_raw, raw_at, sound}
use Rattle.gs_link.specs.Columns.{AreInside, AreReadable}
use Rattle.gs_survey.specs.Counts.{size_fault}
use Rattle.gs_survey.specs.First.{first_some, or_else}
use Rattle.gs_survey.specs.Instances.{cell_of, inst_fault}
use Rattle.gs_survey.specs.Limits.{limit_fault, port_fault, unknown_net, unknown_port}
use Rattle.gs_link.specs.Linked.{edges_of, gate_edges, linked_insts, port_value}
use Rattle.gs_survey.specs.Fault.{first_fault}
use Rattle.gs_survey.specs.Numbers.{is_one_of, net_number}
use Rattle.gs_survey.specs.Uses.{driven, input_nets, input_ports, is_input_port, is_output_port, is_used, net_fault, new_number, output_net, output_nets, output_ports, read, used_nets}
use Rattle.gs_sdc.specs.Terms.{AreTerms, Terms}
use Rattle.gs_survey.specs.declared.error.LinkErr.{LinkErr}
use Rattle.gs_sdc.specs.declared.constraints.DriverSpec.{DriverSpec}
use Rattle.gs_sdc.specs.declared.constraints.PortValue.{PortValue}
use Rattle.gs_spef.specs.declared.wires.Wire.{Wire}
use Rattle.gs_verilog.specs.Circuit.{Circuit, IsNetlist, port_net}
use Rattle.gs_verilog.specs.declared.parts.Port.{Port}
use Rattle.gs_verilog.specs.declared.parts.RawInst.{RawInst}

-- ---- the pins of instances

module _ (c : Circuit) (l : Library) (w : List Wire) (k : Terms) (net : IsNetlist c) (none : first_fault c l w k ≡ None) where
  pub ok : IsSound l.cells c k.drivers
  ok = sound c l w k none

  pub inside : AreInside (length (used_nets l.cells c)) (linked_insts l.cells c)
  inside = record { inputs_in = inputs_in l.cells c net k.drivers ok; output_in = output_in l.cells c net k.drivers ok }

  pub few_insts : length (linked_insts l.cells c) < 2097152
  few_insts = omega (arith, insts_many l.cells c, ok.few_insts)

  pub few_used : length (used_nets l.cells c) < 4194304
  few_used = omega (arith, number_few (is_used (driven l.cells c) (read l.cells c)) (length c.nets), ok.few_nets)

  pub few_inputs : (g : ℕ) → g < length (linked_insts l.cells c) → length (inst_at (linked_insts l.cells c) g).inputs ≤ 6
  few_inputs g lt =
      let in_g : g < length c.insts = omega (arith, insts_many l.cells c) in
      subst (λ (i : Inst). length i.inputs ≤ 6) (sym (inst_is l.cells c g in_g))
      (omega (arith, length-map (input_nets l.cells (raw_at c.insts g)) (new_number l.cells c), inputs_many l.cells (raw_at c.insts g), (cell_of l.cells (raw_at c.insts g)).well.few_inputs))

  pub readable : ((x : ℕ) → x < length l.cells → AreAlternativesOf l.cells x (alternatives l.cells x)) → AreReadable l.cells (linked_insts l.cells c)
  readable kept g lt =
      let alts = alts_kept l.cells c net k.drivers ok kept g lt in
      let some : 0 < length (inst_at (linked_insts l.cells c) g).alts = omega (arith, alts.first_in) in
      record {
        some = some;
        cell_in = alts.cells_in 0 0 some;
        few = few_inputs g lt;
        pins = omega (arith, alts.inputs 0 0 some);
      }

-- ---- the nets that constraints and wires name

-- each of these names a net of so many
pub ports_named : {X : Type 0} (nets : List (List ℕ)) (ports : List ℕ) (name : X → List ℕ) (xs : List X) → All (λ n. n < length nets) ports
    → first_some (λ x. unknown_port nets ports (name x)) xs ≡ None → All (λ n. n < length nets) (map (λ x. net_number nets (name x)) xs)
ports_named nets ports name xs all none =
    All-map (λ n. n < length nets) (λ x. net_number nets (name x)) xs (λ g d lt. here (net_number nets (name (get_or xs g d))) (unless _ _ (none_at (λ x. unknown_port nets ports (name x)) xs g d none lt)))
  where
    here : (n : ℕ) → is_one_of ports n ≡ true → n < length nets
    here n e =
        let place = count_from ports n (one_of ports n e) in
        let lt : slice_index ports place.0 < length nets = all place.0 0 place.1 in
        omega (arith, lt, place.2)

pub wires_named : (nets : List (List ℕ)) (ws : List Wire) → first_some (λ (x : Wire). unknown_net nets x.net) ws ≡ None → All (λ n. n < length nets) (map (λ (x : Wire). net_number nets x.net) ws)
wires_named nets ws none =
    All-map (λ n. n < length nets) (λ (x : Wire). net_number nets x.net) ws (λ g d lt. lt_is _ _ (unless _ _ (none_at (λ (x : Wire). unknown_net nets x.net) ws g d none lt)))

-- ---- delays

abbrev delays : Circuit → Terms → List ℤ
delays c k = map (port_value c.nets k.outputs) (range_with_len 0 (length c.nets))

delay_by : (c : Circuit) (k : Terms) → AreTerms k → (n : ℕ) → (n < length c.nets) ⊎ (length c.nets ≤ n) → IsLimited (slice_index_or (delays c k) n (pos 0))
delay_by c k terms n (inl lt) = subst IsLimited (sym (get_or-map-range_with_len (port_value c.nets k.outputs) 0 (length c.nets) n n (pos 0) lt (omega arith))) (value_kept IsLimited c.nets k.outputs n limited_zero terms.outputs)
delay_by c k terms n (inr ge) = subst IsLimited (sym (get_or_past (delays c k) n (pos 0) (omega (arith, length-map-range_with_len (port_value c.nets k.outputs) 0 (length c.nets))))) limited_zero

pub delays_limited : (c : Circuit) (k : Terms) → AreTerms k → (n : ℕ) → IsLimited (slice_index_or (delays c k) n (pos 0))
delays_limited c k terms n = delay_by c k terms n (cases_lt n (length c.nets))

-- ---- the graph

abbrev IsIn : ℕ → Edge → Type 0
IsIn nodes e = (e.from < nodes) × (e.to < nodes)

gate_in : (nodes : ℕ) (b : Bool) (i : Inst) → All (λ m. m < nodes) i.inputs → i.output < nodes → All (IsIn nodes) (cond b (map (λ m. record { from = m; to = i.output }) i.inputs) [])
gate_in nodes true i ins out = All-map (IsIn nodes) (λ m. record { from = m; to = i.output }) i.inputs (λ k d lt. (ins k d lt, out))
gate_in nodes false i ins out = λ k d lt. absurd (omega arith)

pub within_of : (cells : List Cell) (insts : List Inst) (nodes : ℕ) → AreInside nodes insts → IsWithin nodes (edges_of cells insts)
within_of cells insts nodes inside i lt =
    all_flat (IsIn nodes) (gate_edges cells) insts
    (λ g d g_in. gate_in nodes (is_gate_inst cells (get_or insts g d)) (get_or insts g d)
    (subst (λ (x : Inst). All (λ m. m < nodes) x.inputs) (get_or_default insts g no_inst d g_in) (inside.inputs_in g g_in))
    (subst (λ (x : Inst). x.output < nodes) (get_or_default insts g no_inst d g_in) (inside.output_in g g_in)))
    i no_edge lt

-- ---- what constraints and wires name, where nothing is refused

module _ (c : Circuit) (l : Library) (w : List Wire) (k : Terms) (net : IsNetlist c) (none : first_fault c l w k ≡ None) where
  abbrev Below : List ℕ → Type 0
  Below ns = All (λ n. n < length c.nets) ns

  no_limits : limit_fault c w k ≡ None
  no_limits = or_first (limit_fault c w k) (size_fault l.cells c k) (or_later (net_fault l.cells c) (or_else (limit_fault c w k) (size_fault l.cells c k)) (or_later (inst_fault l.cells c.insts k.drivers) (or_else (net_fault l.cells c) (or_else (limit_fault c w k) (size_fault l.cells c k))) none))

  no_ports : port_fault c k ≡ None
  no_ports = or_first (port_fault c k) (first_some (λ (x : Wire). unknown_net c.nets x.net) w) no_limits

  ports_in : (p : Port → Bool) → Below (map port_net (filter p c.ports))
  ports_in p = All-map (λ n. n < length c.nets) port_net (filter p c.ports) (All-filter p (λ (x : Port). x.net < length c.nets) c.ports (each_of (λ (x : Port). x.net < length c.nets) c.ports net.nets.ports))

  ins : Below (input_ports c.ports)
  ins = ports_in is_input_port

  outs : Below (output_ports c.ports)
  outs = ports_in is_output_port

  both : Below (input_ports c.ports ++ output_ports c.ports)
  both = All-append (λ n. n < length c.nets) (input_ports c.ports) (output_ports c.ports) ins outs

  abbrev clock_fault : Option LinkErr
  clock_fault = first_some (unknown_port c.nets (input_ports c.ports)) k.clock_ports

  abbrev input_fault : Option LinkErr
  input_fault = first_some (λ (v : PortValue). unknown_port c.nets (input_ports c.ports) v.port) k.inputs

  abbrev output_fault : Option LinkErr
  output_fault = first_some (λ (v : PortValue). unknown_port c.nets (output_ports c.ports) v.port) k.outputs

  abbrev load_fault : Option LinkErr
  load_fault = first_some (λ (v : PortValue). unknown_port c.nets (input_ports c.ports ++ output_ports c.ports) v.port) k.loads

  abbrev driver_fault : Option LinkErr
  driver_fault = first_some (λ (d : DriverSpec). unknown_port c.nets (input_ports c.ports ++ output_ports c.ports) d.port) k.drivers

  after_clocks : or_else input_fault (or_else output_fault (or_else load_fault driver_fault)) ≡ None
  after_clocks = or_later clock_fault _ no_ports

  after_inputs : or_else output_fault (or_else load_fault driver_fault) ≡ None
  after_inputs = or_later input_fault _ after_clocks

  after_outputs : or_else load_fault driver_fault ≡ None
  after_outputs = or_later output_fault _ after_inputs

  pub named_inputs : Below (map (λ (v : PortValue). net_number c.nets v.port) k.inputs)
  named_inputs = ports_named c.nets (input_ports c.ports) (λ (v : PortValue). v.port) k.inputs ins (or_first input_fault _ after_clocks)

  pub named_outputs : Below (map (λ (v : PortValue). net_number c.nets v.port) k.outputs)
  named_outputs = ports_named c.nets (output_ports c.ports) (λ (v : PortValue). v.port) k.outputs outs (or_first output_fault _ after_inputs)

  pub named_loads : Below (map (λ (v : PortValue). net_number c.nets v.port) k.loads)
  named_loads = ports_named c.nets (input_ports c.ports ++ output_ports c.ports) (λ (v : PortValue). v.port) k.loads both (or_first load_fault driver_fault after_outputs)

  pub named_drivers : Below (map (λ (d : DriverSpec). net_number c.nets d.port) k.drivers)
  named_drivers = ports_named c.nets (input_ports c.ports ++ output_ports c.ports) (λ (d : DriverSpec). d.port) k.drivers both (or_later load_fault driver_fault after_outputs)

  pub named_wires : Below (map (λ (x : Wire). net_number c.nets x.net) w)
  named_wires = wires_named c.nets w (or_later (port_fault c k) (first_some (λ (x : Wire). unknown_net c.nets x.net) w) no_limits)

  pub gates_below : Below (output_nets l.cells c.insts)
  gates_below = All-map (λ n. n < length c.nets) (output_net l.cells) c.insts
      (λ g d lt. subst (λ (i : RawInst). output_net l.cells i < length c.nets) (get_or_default c.insts g no_raw d lt) (output_below l.cells c net k.drivers (sound c l w k none) g lt))
