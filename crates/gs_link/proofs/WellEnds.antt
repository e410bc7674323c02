-- What the endpoints of a linked design keep.

use Rattle.std.proofs.Common.{◌≡◌, ◌∙◌, ap, sym, subst, refl, ℕ, ◌+◌, ◌-◌, ◌<◌, ◌≤◌, nat_lt, List, [], ◌∷◌, ◌++◌, AllPairs, length, get_or, slice_index, map, filter, true, ℤ, ◌-ℤ◌, arith, inl, inr}
use Rattle.std.specs.Prelude.{nat_abs}
use Rattle.std.specs.List.{flat_map, range_with_len}
use Rattle.std.proofs.lemmas.Bool.{cases_lt}
use Rattle.std.proofs.lemmas.Int.{ints}
use Rattle.std.proofs.lemmas.List.{get_or-append_right, get_or-map, get_or_append_left, length-append, length-map}
use Rattle.std.proofs.lemmas.List.Concat.{flat_map-append}
use Rattle.std.proofs.lemmas.List.Elements.{All-filter, filter-append, filter_passes}
use Rattle.std.proofs.lemmas.List.FromFn.{get_or-range_with_len, length-range_with_len}
use Rattle.std.proofs.lemmas.List.Kept.{AllPairs-filter}
use Rattle.gs_amount.specs.Amount.{IsLimited}
use Rattle.gs_design.specs.Design.{AreEnds}
use Rattle.gs_design.specs.Ends.{data_pins, end_at, end_pins, input_pins, is_at_port, is_data_pin, no_end, pin_net, place_pins, port_count}
use Rattle.gs_design.specs.Insts.{Inst, inst_at}
use Rattle.gs_design.specs.declared.cell.Cell.{Cell}
use Rattle.gs_design.specs.declared.end.End.{End}
use Rattle.gs_design.specs.declared.end.EndPlace.TheVariants.{Pin as AtPin}
use Rattle.gs_design.specs.declared.sink.Sink.{Sink}
use Rattle.gs_link.specs.Linked.{linked_ends, linked_insts, linked_net, linked_nets, pin_end, port_end, port_value}
use Rattle.gs_survey.specs.Numbers.{is_one_of}
use Rattle.gs_survey.specs.Uses.{driven, is_used, new_number, output_ports, read, used_nets}
use Rattle.gs_link.proofs.WellInsts.{IsPinOf, all_pins, inputs_in, pins_few, pins_in_all}
use Rattle.gs_link.proofs.WellLists.{filter_few, is_lt, isnt_lt, number_few, number_lt, numbers_in}
use Rattle.gs_link.proofs.WellNets.{limited_zero, value_kept}
use Rattle.gs_link.proofs.WellSound.{IsSound}
use Rattle.gs_sdc.specs.Terms.{AreTerms, Terms}
use Rattle.gs_spef.specs.declared.wires.Wire.{Wire}
use Rattle.gs_verilog.specs.Circuit.{Circuit, IsNetlist}

no_sink : Sink
no_sink = record { inst = 0; pin = 0 }

numbers_rise : (n : ℕ) → AllPairs (λ x y. x < y) (range_with_len 0 n)
numbers_rise n i j d ij lt =
    let j_in : j < n = omega (arith, length-range_with_len 0 n) in
    omega (arith, get_or-range_with_len 0 n i d (omega arith), get_or-range_with_len 0 n j d j_in)

-- the difference of two magnitudes
apart_by : (a b : ℤ) → IsLimited a → IsLimited b → nat_abs (a -ℤ b) < 2199023255552
apart_by a b h g = omega (arith, ints, h.0, h.1, g.0, g.1)

own_by : (a : ℤ) → IsLimited a → nat_abs a < 2199023255552
own_by a h = omega (arith, ints, h.0, h.1)

module _ (cells : List Cell) (c : Circuit) (net : IsNetlist c) (k : Terms) (ok : IsSound cells c k.drivers) (terms : AreTerms k) where
  abbrev insts : List Inst
  insts = linked_insts cells c

  abbrev used : List ℕ
  used = used_nets cells c

  abbrev ports : List ℕ
  ports = filter (is_one_of (output_ports c.ports)) used

  abbrev pins : List Sink
  pins = data_pins cells insts

  abbrev ends : List End
  ends = linked_ends cells c k

  abbrev port_ends : List End
  port_ends = map (port_end cells c k) ports

  abbrev pin_ends : List End
  pin_ends = map (pin_end insts k.period) pins

  port_ends_many : length port_ends ≡ length ports
  port_ends_many = length-map ports (port_end cells c k)

  pin_ends_many : length pin_ends ≡ length pins
  pin_ends_many = length-map pins (pin_end insts k.period)

  ends_many : length ends ≡ length ports + length pins
  ends_many = omega (arith, length-append port_ends pin_ends, port_ends_many, pin_ends_many)

  -- an endpoint is at a port, or at a pin
  end_of_port : (e : ℕ) → e < length ports → end_at ends e ≡ port_end cells c k (slice_index ports e)
  end_of_port e lt = get_or_append_left port_ends pin_ends no_end e (omega (arith, port_ends_many)) ∙ get_or-map (port_end cells c k) ports e 0 no_end lt

  abbrev pin_at_end : ℕ → Sink
  pin_at_end e = get_or pins (e - length ports) no_sink

  end_of_pin : (e : ℕ) → length ports ≤ e → e < length ends → end_at ends e ≡ pin_end insts k.period (pin_at_end e)
  end_of_pin e le lt =
      get_or-append_right port_ends pin_ends (length ports) e no_end port_ends_many le
      ∙ get_or-map (pin_end insts k.period) pins (e - length ports) no_sink no_end (omega (arith, ends_many))

  pin_kept : (e : ℕ) → length ports ≤ e → e < length ends → IsPinOf insts (pin_at_end e)
  pin_kept e le lt = All-filter (is_data_pin cells insts) (IsPinOf insts) (input_pins insts) (all_pins insts) (e - length ports) no_sink (omega (arith, ends_many))

  -- the nets of ports
  port_used : (e : ℕ) → e < length ports → is_used (driven cells c) (read cells c) (slice_index ports e) ≡ true
  port_used e lt =
      All-filter (is_one_of (output_ports c.ports)) (λ n. is_used (driven cells c) (read cells c) n ≡ true) used (filter_passes (is_used (driven cells c) (read cells c)) (range_with_len 0 (length c.nets))) e 0 lt

  port_below : (e : ℕ) → e < length ports → slice_index ports e < length c.nets
  port_below e lt =
      All-filter (is_one_of (output_ports c.ports)) (λ n. n < length c.nets) used (All-filter (is_used (driven cells c) (read cells c)) (λ n. n < length c.nets) (range_with_len 0 (length c.nets)) (numbers_in (length c.nets))) e 0 lt

  ports_apart : AllPairs (λ x y. x < y) ports
  ports_apart =
      AllPairs-filter (λ x y. x < y) (is_one_of (output_ports c.ports)) used
      (AllPairs-filter (λ x y. x < y) (is_used (driven cells c) (read cells c)) (range_with_len 0 (length c.nets)) (numbers_rise (length c.nets)))

  -- ---- the number of those at ports

  ports_pass : (ns : List ℕ) → filter (λ (e : End). is_at_port e.place) (map (port_end cells c k) ns) ≡ map (port_end cells c k) ns
  ports_pass [] = refl
  ports_pass (n ∷ ns) = ap (λ es. port_end cells c k n ∷ es) (ports_pass ns)

  pins_pass : (ss : List Sink) → filter (λ (e : End). is_at_port e.place) (map (pin_end insts k.period) ss) ≡ []
  pins_pass [] = refl
  pins_pass (s ∷ ss) = pins_pass ss

  ports_counted : port_count ends ≡ length ports
  ports_counted =
      ap length (filter-append (λ (e : End). is_at_port e.place) port_ends pin_ends)
      ∙ length-append (filter (λ (e : End). is_at_port e.place) port_ends) (filter (λ (e : End). is_at_port e.place) pin_ends)
      ∙ omega (arith, ap length (ports_pass ports), ap length (pins_pass pins), port_ends_many)

  -- ---- the pins of those at pins

  ports_no_pins : (ns : List ℕ) → flat_map (λ (e : End). place_pins e.place) (map (port_end cells c k) ns) ≡ []
  ports_no_pins [] = refl
  ports_no_pins (n ∷ ns) = ports_no_pins ns

  pins_back : (ss : List Sink) → flat_map (λ (e : End). place_pins e.place) (map (pin_end insts k.period) ss) ≡ ss
  pins_back [] = refl
  pins_back (s ∷ ss) = ap (λ es. s ∷ es) (pins_back ss)

  pins_are : end_pins ends ≡ data_pins cells insts
  pins_are =
      flat_map-append (λ (e : End). place_pins e.place) port_ends pin_ends
      ∙ ap (λ xs. xs ++ flat_map (λ (e : End). place_pins e.place) pin_ends) (ports_no_pins ports)
      ∙ pins_back pins

  -- ---- each endpoint

  of_each : (P : End → Type 0) (e : ℕ) → e < length ends → (e < length ports → P (port_end cells c k (slice_index ports e))) → (length ports ≤ e → P (pin_end insts k.period (pin_at_end e))) → P (end_at ends e)
  of_each P e lt port pin = elim (cases_lt e (length ports)) [
    | inl low ↦ subst P (sym (end_of_port e low)) (port low)
    | inr high ↦ subst P (sym (end_of_pin e high lt)) (pin high)
  ]

  nets_in : (e : ℕ) → e < length ends → (end_at ends e).net < length used
  nets_in e lt = of_each (λ x. x.net < length used) e lt
      (λ low. number_lt (is_used (driven cells c) (read cells c)) (slice_index ports e) (length c.nets) (port_used e low) (port_below e low))
      (λ high. let is = pin_kept e high lt in inputs_in cells c net k.drivers ok (pin_at_end e).inst is.inst_in (pin_at_end e).pin 0 is.pin_in)

  ports_first : (e : ℕ) → e < length ends → is_at_port (end_at ends e).place ≡ nat_lt e (port_count ends)
  ports_first e lt = of_each (λ x. is_at_port x.place ≡ nat_lt e (port_count ends)) e lt
      (λ low. sym (is_lt e (port_count ends) (omega (arith, low, ports_counted))))
      (λ high. sym (isnt_lt e (port_count ends) (omega (arith, high, ports_counted))))

  ports_rise : (e : ℕ) → e + 1 < port_count ends → (end_at ends e).net < (end_at ends (e + 1)).net
  ports_rise e lt =
      let next : e + 1 < length ports = omega (arith, ports_counted) in
      let here : e < length ports = omega arith in
      let rise : slice_index ports e < slice_index ports (e + 1) = ports_apart e (e + 1) 0 (omega arith) next in
      let numbers : new_number cells c (slice_index ports e) < new_number cells c (slice_index ports (e + 1)) =
      number_lt (is_used (driven cells c) (read cells c)) (slice_index ports e) (slice_index ports (e + 1)) (port_used e here) rise in
      omega (arith, numbers, ap (λ (x : End). x.net) (end_of_port e here), ap (λ (x : End). x.net) (end_of_port (e + 1) next))

  -- an endpoint at a pin is one of the data pins
  at_pin : (P : Sink → End → Type 0) → ((s : Sink) → IsPinOf insts s → P s (pin_end insts k.period s)) → (e g p : ℕ) → e < length ends → (end_at ends e).place ≡ AtPin g p → P (record { inst = g; pin = p }) (end_at ends e)
  at_pin P h e g p lt is = of_each (λ x. x.place ≡ AtPin g p → P (record { inst = g; pin = p }) x) e lt
      (λ low f. absurd cc)
      (λ high f. here (pin_at_end e) (pin_kept e high lt) f) is
    where
      here : (s : Sink) → IsPinOf insts s → AtPin s.inst s.pin ≡ AtPin g p → P (record { inst = g; pin = p }) (pin_end insts k.period s)
      here s kept f =
          let inst : s.inst ≡ g = cc in
          let pin : s.pin ≡ p = cc in
          let same : s ≡ record { inst = g; pin = p } = λ i. record { inst = inst i; pin = pin i } in
          subst (λ x. P x (pin_end insts k.period s)) same (h s kept)

  pins_in : (e g p : ℕ) → e < length ends → (end_at ends e).place ≡ AtPin g p → (g < length insts) × (p < length (inst_at insts g).inputs)
  pins_in = at_pin (λ s x. (s.inst < length insts) × (s.pin < length (inst_at insts s.inst).inputs)) (λ s is. (is.inst_in, is.pin_in))

  pins_on_net : (e g p : ℕ) → e < length ends → (end_at ends e).place ≡ AtPin g p → (end_at ends e).net ≡ pin_net insts (record { inst = g; pin = p })
  pins_on_net = at_pin (λ s x. x.net ≡ pin_net insts s) (λ s is. refl)

  pub pin_bounds : (e g p : ℕ) → e < length ends → (end_at ends e).place ≡ AtPin g p → (end_at ends e).bound ≡ k.period
  pin_bounds = at_pin (λ s x. x.bound ≡ k.period) (λ s is. refl)

  bounds : (e : ℕ) → e < length ends → nat_abs (end_at ends e).bound < 2199023255552
  bounds e lt = of_each (λ x. nat_abs x.bound < 2199023255552) e lt
      (λ low. apart_by k.period (port_value c.nets k.outputs (slice_index ports e)) terms.period (value_kept IsLimited c.nets k.outputs (slice_index ports e) limited_zero terms.outputs))
      (λ high. own_by k.period terms.period)

  ends_few : length ends < 16777216
  ends_few =
      omega (
        arith,
        ends_many,
        filter_few (is_one_of (output_ports c.ports)) used,
        number_few (is_used (driven cells c) (read cells c)) (length c.nets),
        ok.few_nets,
        filter_few (is_data_pin cells insts) (input_pins insts),
        pins_few insts,
        pins_in_all cells c net k.drivers ok,
      )

  module _ (w : List Wire) where
    nets_many : length (linked_nets cells c w k) ≡ length used
    nets_many = length-map used (linked_net cells c w k)

    pub ends_kept : AreEnds cells insts (linked_nets cells c w k) ends
    ends_kept = record {
      few = ends_few;
      nets_in = λ e lt. omega (arith, nets_in e lt, nets_many);
      ports_first = ports_first;
      ports_rise = ports_rise;
      pins_are = pins_are;
      pins_in = pins_in;
      pins_on_net = pins_on_net;
      bounds = bounds;
    }
