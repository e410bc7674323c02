-- What the nets of a linked design keep.

use Rattle.std.proofs.Common.{◌≡◌, ◌∙◌, ap, sym, subst, refl, ℕ, ◌+◌, ◌<◌, ◌≤◌, ◌==◌, List, ◌++◌, All, length, get_or, slice_index, map, Bool, true, false, ◌||◌, Option, None, Some, if◌then◌else◌, ℤ, pos, negsuc, arith}
use Rattle.std.specs.Prelude.{nat_abs}
use Rattle.std.specs.List.{flat_map, range_with_len}
use Rattle.std.proofs.lemmas.Int.{ints}
use Rattle.std.proofs.lemmas.List.{get_or-append-add, get_or-map, length-append, length-map}
use Rattle.std.proofs.lemmas.List.Elements.{All-map}
use Rattle.std.proofs.lemmas.List.FromFn.{get_or-range_with_len, length-range_with_len}
use Rattle.gs_amount.specs.Amount.{IsAmount, IsLimited}
use Rattle.gs_design.specs.Cell.{is_gate}
use Rattle.gs_design.specs.Cells.{cell_at}
use Rattle.gs_design.specs.Design.{HasAllArcs, IsDriven, IsNet, IsSinkOn}
use Rattle.gs_design.specs.Ends.{input_pins, pin_net, pins_on}
use Rattle.gs_design.specs.Insts.{Inst, inst_at}
use Rattle.gs_design.specs.Nets.{Net, net_at, no_net}
use Rattle.gs_design.specs.declared.cell.Cell.{Cell}
use Rattle.gs_design.specs.declared.sink.Driven.{Driven}
use Rattle.gs_design.specs.declared.sink.Driver.{Driver}
use Rattle.gs_design.specs.declared.sink.Driver.TheVariants.{Port, Inst as OfInst}
use Rattle.gs_list.specs.Keys.{count_of}
use Rattle.gs_survey.specs.Counts.{choices_of}
use Rattle.gs_survey.specs.Instances.{cell_number}
use Rattle.gs_link.specs.Linked.{driven_by, linked_insts, linked_net, linked_nets, net_driver, port_driver, port_value, wire_total}
use Rattle.gs_survey.specs.Numbers.{given, is_one_of, net_number}
use Rattle.gs_survey.specs.Uses.{driven, input_ports, is_used, new_number, output_net, output_nets, read, used_nets}
use Rattle.gs_link.proofs.WellInsts.{inst_is, insts_many, output_at, output_below, output_counts, output_in, output_used, pins_few, pins_in_all, sinks_kept}
use Rattle.gs_link.proofs.WellLists.{count-append, count_from, each_of, filter_few, given_at, given_keeps, isnt_one, kept_at, kept_below, kept_number, kept_passes, none_one, one_of}
use Rattle.gs_link.proofs.WellSound.{IsSound, raw_at}
use Rattle.gs_sdc.specs.Terms.{AreTerms, AreValues, HasTransitions, Terms}
use Rattle.gs_sdc.specs.declared.constraints.DriverSpec.{DriverSpec}
use Rattle.gs_sdc.specs.declared.constraints.PortValue.{PortValue}
use Rattle.gs_spef.specs.Wires.{IsWires}
use Rattle.gs_spef.specs.declared.wires.Wire.{Wire}
use Rattle.gs_verilog.specs.Circuit.{Circuit, IsNetlist}

-- ---- values

-- a magnitude
pub magnitude : (z : ℤ) → IsLimited z → nat_abs z < 1099511627776
magnitude (pos n) h = omega (arith, ints, h.0, h.1)
magnitude (negsuc n) h = omega (arith, ints, h.0, h.1)

pub limited_zero : IsLimited (pos 0)
limited_zero = (omega (arith, ints), omega (arith, ints))

pub amount_zero : IsAmount (pos 0)
amount_zero = (omega (arith, ints), omega (arith, ints))

-- the value of a port is of the form that all values are of
pub value_kept : (P : ℤ → Type 0) (nets : List (List ℕ)) (vs : List PortValue) (n : ℕ) → P (pos 0) → AreValues P vs → P (port_value nets vs n)
value_kept P nets vs n start are =
    given_keeps P (map (λ (v : PortValue). net_number nets v.port) vs) (map (λ (v : PortValue). v.value) vs) (pos 0) n start
    (All-map P (λ (v : PortValue). v.value) vs (each_of (λ (v : PortValue). P v.value) vs are.numbers))

all_right : {X : Type 0} (P : X → Type 0) (xs ys : List X) → All P (xs ++ ys) → All P ys
all_right P xs ys h k d lt = subst P (get_or-append-add xs ys k d) (h (length xs + k) d (omega (arith, length-append xs ys)))

-- ---- one net

module _ (cells : List Cell) (c : Circuit) (net : IsNetlist c) (k : Terms) (ok : IsSound cells c k.drivers) where
  abbrev insts : List Inst
  insts = linked_insts cells c

  abbrev outputs : List ℕ
  outputs = output_nets cells c.insts

  abbrev ports : List ℕ
  ports = input_ports c.ports

  outputs_many : length outputs ≡ length c.insts
  outputs_many = length-map c.insts (output_net cells)

  driver_counts : (n : ℕ) → count_of (driven cells c) n ≡ count_of outputs n + count_of ports n
  driver_counts n = count-append outputs ports n

  -- a net at an output pin is driven by that instance
  driver_is : (g : ℕ) → g < length c.insts → net_driver cells c k (output_net cells (raw_at c.insts g)) ≡ OfInst g
  driver_is g lt =
      let n = output_net cells (raw_at c.insts g) in
      let once = ok.one_driver n (output_below cells c net k.drivers ok g lt) in
      let here : 1 ≤ count_of outputs n = output_counts cells c net k.drivers ok g lt in
      let no_port : is_one_of ports n ≡ false = none_one ports n (omega (arith, driver_counts n, once, here)) in
      let which : given outputs (range_with_len 0 (length c.insts)) 0 n ≡ g =
      given_at outputs (range_with_len 0 (length c.insts)) 0 n g 0 (omega (arith, outputs_many, length-range_with_len 0 (length c.insts))) (omega (arith, outputs_many)) (output_at cells c net k.drivers ok g lt)
      (omega (arith, driver_counts n, once))
      ∙ get_or-range_with_len 0 (length c.insts) g 0 lt ∙ omega arith in
      ap (λ b. if b then Port (port_value c.nets k.inputs n) (port_driver cells c.nets k.drivers n) else OfInst (given outputs (range_with_len 0 (length c.insts)) 0 n)) no_port
      ∙ ap OfInst which

  -- a net that no input port is
  driving : (n : ℕ) → n < length c.nets → is_used (driven cells c) (read cells c) n ≡ true → is_one_of ports n ≡ false → (g : ℕ) × (g < length c.insts) × (output_net cells (raw_at c.insts g) ≡ n)
  driving n lt used none = found (count_from outputs n (omega (arith, driver_counts n, isnt_one ports n none, driven_once (is_one_of (driven cells c) n) refl used)))
    where
      driven_once : (b : Bool) → is_one_of (driven cells c) n ≡ b → (b || is_one_of (read cells c) n) ≡ true → 1 ≤ count_of (driven cells c) n
      driven_once true e h = one_of (driven cells c) n e
      driven_once false e h = ok.some_driver n lt (one_of (read cells c) n h)

      found : (i : ℕ) × (i < length outputs) × (slice_index outputs i ≡ n) → (g : ℕ) × (g < length c.insts) × (output_net cells (raw_at c.insts g) ≡ n)
      found r =
          let in_outputs : r.0 < length outputs = r.1 in
          let within : r.0 < length c.insts = omega (arith, in_outputs, outputs_many) in
          (r.0, within, sym (output_at cells c net k.drivers ok r.0 within) ∙ r.2)

  module _ (terms : AreTerms k) where
    driven_kept : (n : ℕ) (d : Driven) → port_driver cells c.nets k.drivers n ≡ Some d → IsDriven cells d
    driven_kept n d e =
        given_keeps (λ o. (x : Driven) → o ≡ Some x → IsDriven cells x) (map (λ (s : DriverSpec). net_number c.nets s.port) k.drivers) (map (driven_by cells) k.drivers) None n
        (λ x h. absurd cc) (All-map (λ o. (x : Driven) → o ≡ Some x → IsDriven cells x) (driven_by cells) k.drivers each) d e
      where
        each : All (λ s. (x : Driven) → driven_by cells s ≡ Some x → IsDriven cells x) k.drivers
        each j s0 lt x h =
            let s = get_or k.drivers j s0 in
            let is : record { cell = cell_number cells s.cell; rise = s.rise; fall = s.fall } ≡ x = cc in
            let gate = ok.gates j s0 lt in
            let trans : HasTransitions s = each_of HasTransitions k.drivers terms.drivers.numbers j s0 lt in
            let arcs : is_gate (cell_at cells (cell_number cells s.cell)).kind ≡ true → HasAllArcs (cell_at cells (cell_number cells s.cell)) =
            subst (λ y. is_gate (cell_at cells y).kind ≡ true → HasAllArcs (cell_at cells y)) (get_or-map (λ (t : DriverSpec). cell_number cells t.cell) k.drivers j s0 0 lt)
            (all_right (λ y. is_gate (cell_at cells y).kind ≡ true → HasAllArcs (cell_at cells y)) (flat_map (choices_of cells) c.insts) (map (λ (t : DriverSpec). cell_number cells t.cell) k.drivers) ok.arcs j 0
            (omega (arith, lt, length-map k.drivers (λ (t : DriverSpec). cell_number cells t.cell)))) in
            subst (IsDriven cells) is (record { cell_in = gate.cell_in; gate = gate.gate; arcs = arcs gate.gate; rise_in = trans.0; fall_in = trans.1 })

    module _ (w : List Wire) (wires : IsWires w) where
      abbrev nets : List Net
      nets = linked_nets cells c w k

      abbrev used : List ℕ
      used = used_nets cells c

      nets_many : length nets ≡ length used
      nets_many = length-map used (linked_net cells c w k)

      net_is : (j : ℕ) → j < length used → net_at nets j ≡ linked_net cells c w k (slice_index used j)
      net_is j lt = get_or-map (linked_net cells c w k) used j 0 no_net lt

      -- each instance drives the net at its output
      pub drives : (g : ℕ) → g < length insts → (net_at nets (inst_at insts g).output).driver ≡ OfInst g
      drives g lt =
          let in_g : g < length c.insts = omega (arith, lt, insts_many cells c) in
          let n = output_net cells (raw_at c.insts g) in
          ap (λ i. (net_at nets i.output).driver) (inst_is cells c g in_g)
          ∙ ap (λ (x : Net). x.driver) (net_is (new_number cells c n) (subst (λ i. i.output < length used) (inst_is cells c g in_g) (output_in cells c net k.drivers ok g lt)))
          ∙ ap (net_driver cells c k) (kept_at (is_used (driven cells c) (read cells c)) n (length c.nets) 0 (output_used cells c net k.drivers ok g in_g) (output_below cells c net k.drivers ok g in_g))
          ∙ driver_is g in_g

      pub wire_kept : (n : ℕ) → IsAmount (wire_total c.nets w n)
      wire_kept n =
          given_keeps IsAmount (map (λ (x : Wire). net_number c.nets x.net) w) (map (λ (x : Wire). x.total) w) (pos 0) n amount_zero
          (All-map IsAmount (λ (x : Wire). x.total) w (each_of (λ (x : Wire). IsAmount x.total) w wires.amounts))

      module _ (j : ℕ) (lt : j < length used) where
        abbrev old : ℕ
        old = slice_index used j

        old_below : old < length c.nets
        old_below = kept_below (is_used (driven cells c) (read cells c)) (length c.nets) j 0 lt

        old_used : is_used (driven cells c) (read cells c) old ≡ true
        old_used = kept_passes (is_used (driven cells c) (read cells c)) (length c.nets) j 0 lt

        pub old_number : new_number cells c old ≡ j
        old_number = kept_number (is_used (driven cells c) (read cells c)) (length c.nets) j 0 lt

        abbrev driver_by : Bool → Driver
        driver_by b = if b then Port (port_value c.nets k.inputs old) (port_driver cells c.nets k.drivers old) else OfInst (given outputs (range_with_len 0 (length c.insts)) 0 old)

        -- which instance drives it, where one does
        which : (g : ℕ) (b : Bool) → is_one_of ports old ≡ b → driver_by b ≡ OfInst g → (g < length c.insts) × (output_net cells (raw_at c.insts g) ≡ old)
        which g true e h = absurd cc
        which g false e h = of_place (driving old old_below old_used e)
          where
            of_place : (i : ℕ) × (i < length c.insts) × (output_net cells (raw_at c.insts i) ≡ old) → (g < length c.insts) × (output_net cells (raw_at c.insts g) ≡ old)
            of_place r =
                let own : OfInst r.0 ≡ OfInst g = sym (driver_is r.0 r.1) ∙ ap (net_driver cells c k) r.2 ∙ ap driver_by e ∙ h in
                let same : r.0 ≡ g = cc in
                subst (λ x. (x < length c.insts) × (output_net cells (raw_at c.insts x) ≡ old)) same (r.1, r.2)

        of_inst : (g : ℕ) → net_driver cells c k old ≡ OfInst g → (g < length c.insts) × (output_net cells (raw_at c.insts g) ≡ old)
        of_inst g h = which g (is_one_of ports old) refl h

        -- what a port that drives it has
        at_port : (delay : ℤ) (cell : Option Driven) (b : Bool) → driver_by b ≡ Port delay cell → (port_value c.nets k.inputs old ≡ delay) × (port_driver cells c.nets k.drivers old ≡ cell)
        at_port delay cell true h =
            let value : port_value c.nets k.inputs old ≡ delay = cc in
            let spec : port_driver cells c.nets k.drivers old ≡ cell = cc in
            (value, spec)
        at_port delay cell false h = absurd cc

        abbrev linked : Net
        linked = linked_net cells c w k old

        delay_kept : (delay : ℤ) (cell : Option Driven) → linked.driver ≡ Port delay cell → nat_abs delay < 1099511627776
        delay_kept delay cell h =
            subst (λ z. nat_abs z < 1099511627776) (at_port delay cell (is_one_of ports old) h).0
            (magnitude (port_value c.nets k.inputs old) (value_kept IsLimited c.nets k.inputs old limited_zero terms.inputs))

        inst_drives : (g : ℕ) → linked.driver ≡ OfInst g → (inst_at insts g).output ≡ j
        inst_drives g h =
            let r = of_inst g h in
            ap (λ (i : Inst). i.output) (inst_is cells c g r.0) ∙ ap (new_number cells c) r.1 ∙ old_number

        net_kept_linked : IsNet cells insts j linked
        net_kept_linked = record {
          inst_in = λ g h. omega (arith, (of_inst g h).0, insts_many cells c);
          inst_drives = inst_drives;
          delay_in = delay_kept;
          driven = λ delay d h. driven_kept old d (at_port delay (Some d) (is_one_of ports old) h).1;
          sinks_are = ap (pins_on insts) old_number;
          sinks_in = subst (λ n. All (IsSinkOn insts j) (pins_on insts n)) (sym old_number) (sinks_kept insts j);
          few_sinks = omega (arith, filter_few (λ s. pin_net insts s == new_number cells c old) (input_pins insts), pins_few insts, pins_in_all cells c net k.drivers ok);
          wire_in = wire_kept old;
          port_load_in = value_kept IsAmount c.nets k.loads old amount_zero terms.loads;
        }

        pub net_kept : IsNet cells insts j (net_at nets j)
        net_kept = subst (IsNet cells insts j) (sym (net_is j lt)) net_kept_linked
