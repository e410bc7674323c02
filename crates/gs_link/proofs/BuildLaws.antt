-- The columns that are built are those of the linked design.

use Rattle.std.proofs.Common.{◌≡◌, ◌==◌, ℕ, suc, ◌<◌, ◌≤◌, List, [], ◌∷◌, ◌++◌, None, length, get_or, map, slice_index, slice_index_or, slice_range, refl, sym, ap, subst, ◌∙◌, arith, ℤ, pos}
use Rattle.std.proofs.lemmas.List.{get_or-map, length-map}
use Rattle.std.proofs.lemmas.List.Elements.{All-filter}
use Rattle.std.proofs.lemmas.List.FromFn.{fill_by_all, get_or-map-range_with_len, length-map-range_with_len}
use Rattle.std.specs.List.{filter, position_or_len, range_with_len}
use Rattle.gs_alternatives.specs.Choices.{AreChoices}
use Rattle.gs_alternatives.specs.declared.choices.Stretch.{Stretch}
use Rattle.gs_design.specs.Alternatives.{alternatives}
use Rattle.gs_design.specs.Ends.{data_pins, pins_on}
use Rattle.gs_design.specs.Insts.{AreInsts, Inst, inst_of, insts_of, no_inst, no_row, row_at}
use Rattle.gs_design.specs.Nets.{AreNets, Net, net_of, nets_of, no_net, no_row as no_net_row, row_at as net_row_at}
use Rattle.gs_design.specs.declared.cell.Cell.{Cell}
use Rattle.gs_design.specs.declared.pin.CellPin.{CellPin}
use Rattle.gs_design.specs.declared.rows.InstRow.{InstRow}
use Rattle.gs_design.specs.declared.rows.NetRow.{NetRow}
use Rattle.gs_design.specs.declared.sink.Driver.{Driver}
use Rattle.gs_design.specs.declared.sink.Sink.{Sink}
use Rattle.gs_link.proofs.WellInsts.{input_below, output_below}
use Rattle.gs_link.proofs.WellLists.{kept_below, kept_number}
use Rattle.gs_link.proofs.WellSound.{IsSound, raw_at}
use Rattle.gs_survey.specs.Blank.{no_inst as no_raw}
use Rattle.gs_link.specs.Built.{AreGiven, gate_of}
use Rattle.gs_link.specs.Columns.{driver_at, end_of_port, net_row, new_inputs, raw_name, row_of}
use Rattle.gs_survey.specs.Instances.{cell_number, cell_of}
use Rattle.gs_link.specs.Linked.{linked_ends, linked_inst, linked_insts, linked_net, linked_nets, net_driver, pin_end, port_driver, port_end, port_value, wire_total}
use Rattle.gs_survey.specs.Numbers.{is_one_of, net_name}
use Rattle.gs_survey.specs.Uses.{driven, input_nets, input_ports, inputs_of, is_used, net_at_pin, new_number, output_net, output_ports, read, used_nets}
use Rattle.gs_link.specs.declared.values.Values.{Values}
use Rattle.gs_sdc.specs.Terms.{Terms}
use Rattle.gs_spef.specs.declared.wires.Wire.{Wire}
use Rattle.gs_verilog.specs.Circuit.{Circuit, IsNetlist}

same_inst : {name name' : List ℕ} {alts alts' : List ℕ} {first first' : ℕ} {inputs inputs' : List ℕ} {output output' : ℕ}
    → name ≡ name' → alts ≡ alts' → first ≡ first' → inputs ≡ inputs' → output ≡ output'
    → ◌≡◌ {A = Inst} (record { name = name; alts = alts; first = first; inputs = inputs; output = output }) (record { name = name'; alts = alts'; first = first'; inputs = inputs'; output = output' })
same_inst a b c d e = cc

-- ---- instances

module _ (cells : List Cell) (c : Circuit) (net : IsNetlist c) (k : Terms) (ok : IsSound cells c k.drivers) (numbers : List ℕ)
    (numbers_are : numbers ≡ map (new_number cells c) (range_with_len 0 (length c.nets))) where
  pub number_is : (n : ℕ) → n < length c.nets → slice_index numbers n ≡ new_number cells c n
  number_is n lt = rw numbers_are (get_or-map-range_with_len (new_number cells c) 0 (length c.nets) n n 0 lt (omega arith))

  renumbered : (f : CellPin → ℕ) (ps : List CellPin) → ((p : ℕ) → p < length (map f ps) → slice_index (map f ps) p < length c.nets)
      → map (λ p. slice_index numbers (f p)) ps ≡ map (new_number cells c) (map f ps)
  renumbered f [] h = refl
  renumbered f (p ∷ ps) h =
      let here : slice_index numbers (f p) ≡ new_number cells c (f p) = number_is (f p) (h 0 (omega arith)) in
      let rest : map (λ p. slice_index numbers (f p)) ps ≡ map (new_number cells c) (map f ps) = renumbered f ps (λ q lt. h (suc q) (omega arith)) in
      rw (here, rest) refl

  inputs_are : (g : ℕ) → g < length c.insts → new_inputs cells numbers (raw_at c.insts g) ≡ map (new_number cells c) (input_nets cells (raw_at c.insts g))
  inputs_are g lt = renumbered (net_at_pin (raw_at c.insts g).links) (inputs_of (cell_of cells (raw_at c.insts g))) (λ p in_p. input_below cells c net k.drivers ok g p lt in_p)

  module _ (choices : List ℕ) (stretches : List Stretch) (are : AreChoices cells choices stretches) where
    abbrev rows : List InstRow
    rows = map (row_of cells stretches numbers) c.insts

    abbrev inputs : List (List ℕ)
    inputs = map (new_inputs cells numbers) c.insts

    abbrev names : List (List ℕ)
    names = map raw_name c.insts

    row_is : (g : ℕ) → g < length c.insts → row_at rows g ≡ row_of cells stretches numbers (raw_at c.insts g)
    row_is g lt = get_or-map (row_of cells stretches numbers) c.insts g no_raw no_row lt

    inst_at_is : (g : ℕ) → g < length c.insts → linked_inst cells c (raw_at c.insts g) ≡ inst_of choices rows inputs names g
    inst_at_is g lt =
        let i = raw_at c.insts g in
        let x = cell_number cells i.cell in
        let stretch = are.each x (ok.known g lt) in
        let name : slice_index_or names g [] ≡ i.name = get_or-map raw_name c.insts g no_raw [] lt in
        let ins : slice_index_or inputs g [] ≡ map (new_number cells c) (input_nets cells i) = get_or-map (new_inputs cells numbers) c.insts g no_raw [] lt ∙ inputs_are g lt in
        let out : (row_at rows g).output ≡ new_number cells c (output_net cells i) = ap (λ (r : InstRow). r.output) (row_is g lt) ∙ number_is (output_net cells i) (output_below cells c net k.drivers ok g lt) in
        let alts : slice_range choices (row_at rows g).from (row_at rows g).to ≡ alternatives cells x = ap (λ (r : InstRow). slice_range choices r.from r.to) (row_is g lt) ∙ stretch.alternatives_are in
        let first : (row_at rows g).first ≡ position_or_len (λ y. y == x) (alternatives cells x) = ap (λ (r : InstRow). r.first) (row_is g lt) ∙ stretch.first_is in
        same_inst (sym name) (sym alts) (sym first) (sym ins) (sym out)

    rows_many : length rows ≡ length c.insts
    rows_many = length-map c.insts (row_of cells stretches numbers)

    pub insts_are : insts_of choices rows inputs names ≡ linked_insts cells c
    insts_are = sym (fill_by_all (inst_of choices rows inputs names) (linked_insts cells c) (length rows) no_inst
        (length-map c.insts (linked_inst cells c) ∙ sym rows_many)
        (λ g lt. let in_g : g < length c.insts = omega (arith, rows_many) in get_or-map (linked_inst cells c) c.insts g no_raw no_inst in_g ∙ inst_at_is g in_g))

    pub are_insts : AreInsts choices rows inputs names
    are_insts = record {
      inputs_many = length-map c.insts (new_inputs cells numbers) ∙ sym rows_many;
      names_many = length-map c.insts raw_name ∙ sym rows_many;
      stretches = λ g lt.
          let in_g : g < length c.insts = omega (arith, rows_many) in
          let stretch = are.each (cell_number cells (raw_at c.insts g).cell) (ok.known g in_g) in
          subst (λ (r : InstRow). (r.from ≤ r.to) × (r.to ≤ length choices)) (sym (row_is g in_g)) (stretch.order, stretch.within);
    }

-- ---- nets

same_net : {name name' : List ℕ} {wire wire' load load' : ℤ} {driver driver' : Driver} {sinks sinks' : List Sink}
    → name ≡ name' → wire ≡ wire' → load ≡ load' → driver ≡ driver' → sinks ≡ sinks'
    → ◌≡◌ {A = Net} (record { name = name; wire = wire; port_load = load; driver = driver; sinks = sinks }) (record { name = name'; wire = wire'; port_load = load'; driver = driver'; sinks = sinks' })
same_net a b c d e = cc

module _ (cells : List Cell) (c : Circuit) (w : List Wire) (k : Terms) (v : Values) (given : AreGiven cells c w k v) where
  given_at : {V : Type 0} (xs : List V) (f : ℕ → V) → xs ≡ map f (range_with_len 0 (length c.nets)) → (n : ℕ) (d : V) → n < length c.nets → get_or xs n d ≡ f n
  given_at xs f e n d lt = rw e (get_or-map-range_with_len f 0 (length c.nets) n n d lt (omega arith))

  driver_is : (n : ℕ) → n < length c.nets → driver_at (input_ports c.ports) v n ≡ net_driver cells c k n
  driver_is n lt =
      rw (given_at v.delays (port_value c.nets k.inputs) given.delays n (pos 0) lt, given_at v.cells (port_driver cells c.nets k.drivers) given.cells_are n None lt, given_at v.gates (gate_of cells c) given.gates n 0 lt) refl

  abbrev used : List ℕ
  used = used_nets cells c

  abbrev net_rows : List NetRow
  net_rows = map (net_row (input_ports c.ports) v) used

  abbrev sinks : List (List Sink)
  sinks = map (pins_on (linked_insts cells c)) (range_with_len 0 (length used))

  abbrev net_names : List (List ℕ)
  net_names = map (net_name c.nets) used

  pub used_below : (j d : ℕ) → j < length used → get_or used j d < length c.nets
  used_below j d lt = kept_below (is_used (driven cells c) (read cells c)) (length c.nets) j d lt

  net_at_is : (j : ℕ) → j < length used → linked_net cells c w k (get_or used j 0) ≡ net_of net_rows sinks net_names j
  net_at_is j lt =
      let n = get_or used j 0 in
      let n_in : get_or used j 0 < length c.nets = used_below j 0 lt in
      let row : net_row_at net_rows j ≡ net_row (input_ports c.ports) v n = get_or-map (net_row (input_ports c.ports) v) used j 0 no_net_row lt in
      let name : slice_index_or net_names j [] ≡ net_name c.nets n = get_or-map (net_name c.nets) used j 0 [] lt in
      let wire : (net_row (input_ports c.ports) v n).wire ≡ wire_total c.nets w n = given_at v.wires (wire_total c.nets w) given.wires n (pos 0) n_in in
      let load : (net_row (input_ports c.ports) v n).port_load ≡ port_value c.nets k.loads n = given_at v.loads (port_value c.nets k.loads) given.loads n (pos 0) n_in in
      let number : new_number cells c n ≡ j = kept_number (is_used (driven cells c) (read cells c)) (length c.nets) j 0 lt in
      let on : slice_index_or sinks j [] ≡ pins_on (linked_insts cells c) j = get_or-map-range_with_len (pins_on (linked_insts cells c)) 0 (length used) j j [] lt (omega arith) in
      same_net (sym name) (sym (ap (λ (r : NetRow). r.wire) row ∙ wire)) (sym (ap (λ (r : NetRow). r.port_load) row ∙ load)) (sym (ap (λ (r : NetRow). r.driver) row ∙ driver_is n n_in))
      (ap (pins_on (linked_insts cells c)) number ∙ sym on)

  net_rows_many : length net_rows ≡ length used
  net_rows_many = length-map used (net_row (input_ports c.ports) v)

  pub nets_are : nets_of net_rows sinks net_names ≡ linked_nets cells c w k
  nets_are = sym (fill_by_all (net_of net_rows sinks net_names) (linked_nets cells c w k) (length net_rows) no_net
      (length-map used (linked_net cells c w k) ∙ sym net_rows_many)
      (λ j lt. let in_j : j < length used = omega (arith, net_rows_many) in get_or-map (linked_net cells c w k) used j 0 no_net in_j ∙ net_at_is j in_j))

  pub are_nets : AreNets net_rows sinks net_names
  are_nets = record {
    sinks_many = length-map-range_with_len (pins_on (linked_insts cells c)) 0 (length used) ∙ sym net_rows_many;
    names_many = length-map used (net_name c.nets) ∙ sym net_rows_many;
  }

  -- ---- endpoints

  same_on : {A : Type 0} (f g : ℕ → A) (xs : List ℕ) → ((j : ℕ) → j < length xs → f (get_or xs j 0) ≡ g (get_or xs j 0)) → map f xs ≡ map g xs
  same_on f g [] h = refl
  same_on f g (x ∷ xs) h = rw (h 0 (omega arith), same_on f g xs (λ j lt. h (suc j) (omega arith))) refl

  pub ends_are : (numbers : List ℕ) → numbers ≡ map (new_number cells c) (range_with_len 0 (length c.nets))
      → map (end_of_port numbers v.departures k.period) (filter (is_one_of (output_ports c.ports)) used) ++ map (pin_end (linked_insts cells c) k.period) (data_pins cells (linked_insts cells c)) ≡ linked_ends cells c k
  ends_are numbers e = ap (λ es. es ++ map (pin_end (linked_insts cells c) k.period) (data_pins cells (linked_insts cells c)))
      (same_on (end_of_port numbers v.departures k.period) (port_end cells c k) (filter (is_one_of (output_ports c.ports)) used)
      (λ j lt. end_is (get_or (filter (is_one_of (output_ports c.ports)) used) j 0) (All-filter (is_one_of (output_ports c.ports)) (λ n. n < length c.nets) used (λ i d i_in. used_below i d i_in) j 0 lt)))
    where
      end_is : (n : ℕ) → n < length c.nets → end_of_port numbers v.departures k.period n ≡ port_end cells c k n
      end_is n lt = rw (given_at numbers (new_number cells c) e n 0 lt, given_at v.departures (port_value c.nets k.outputs) given.departures n (pos 0) lt) refl
