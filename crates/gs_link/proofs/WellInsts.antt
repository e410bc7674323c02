-- What the instances of a linked design keep.

use Rattle.std.proofs.Common.{◌≡◌, ◌≢◌, ◌∙◌, ap, sym, subst, refl, ℕ, zero, suc, ◌+◌, ◌<◌, ◌≤◌, ◌==◌, List, [], ◌∷◌, ◌++◌, All, AllPairs, length, get_or, slice_index, map, take, Bool, true, false, ◌||◌, sum_by, if◌then◌else◌, arith}
use Rattle.std.specs.List.{AllByRecursion, flat_map, range_with_len}
use Rattle.std.specs.Str.{bytes_eq}
use Rattle.std.proofs.lemmas.Bool.{eqb-true}
use Rattle.std.proofs.lemmas.List.{get_or-map, get_or_default, get_or-take, length-append, length-map, length-take-le, map-id, take_all}
use Rattle.std.proofs.lemmas.List.Concat.{flat_map-append}
use Rattle.std.proofs.lemmas.List.Elements.{All-filter, All-map, filter_passes}
use Rattle.std.proofs.lemmas.List.FromFn.{get_or-range_with_len, length-map-range_with_len, length-range_with_len, map-range_with_len_more}
use Rattle.std.proofs.lemmas.List.Sums.{sum_by-cons, sum_by_more}
use Rattle.std.proofs.lemmas.Map.Made.{AllPairs-from_IsDistinct}
use Rattle.std.proofs.lemmas.Slice.Eq.{bytes_eq-Decides}
use Rattle.gs_text.specs.Pieces.{IsUnbroken}
use Rattle.gs_design.specs.Alternatives.{alternatives}
use Rattle.gs_design.specs.Cell.{is_gate, no_pin, output_place, pin_at}
use Rattle.gs_design.specs.Cells.{cell_at}
use Rattle.gs_design.specs.Class.{AreAlternativesOf}
use Rattle.gs_design.specs.Design.{AreAlternatives, HasAllArcs, IsSinkOn}
use Rattle.gs_design.specs.Ends.{input_pins, pin_net, pins_of_inst, pins_on}
use Rattle.gs_design.specs.Insts.{Inst, inst_at, inst_name, no_inst}
use Rattle.gs_design.specs.Load.{output_pin}
use Rattle.gs_design.specs.declared.cell.Cell.{Cell}
use Rattle.gs_design.specs.declared.sink.Sink.{Sink}
use Rattle.gs_list.specs.Keys.{count_of}
use Rattle.gs_survey.specs.Counts.{choices_of, pin_count}
use Rattle.gs_survey.specs.Instances.{cell_number, cell_of, is_connected}
use Rattle.gs_link.specs.Linked.{linked_inst, linked_insts}
use Rattle.gs_survey.specs.Numbers.{is_one_of}
use Rattle.gs_survey.specs.Uses.{all_input_nets, driven, input_nets, input_ports, inputs_of, is_used, net_at_pin, net_in, new_number, output_net, output_nets, output_ports, read, used_nets}
use Rattle.gs_link.proofs.WellClass.{are_alternatives}
use Rattle.gs_link.proofs.WellLists.{all_flat, all_left, all_piece, count-append, count_at, count_flat, each_of, is_one, number_lt}
use Rattle.gs_link.proofs.WellSound.{IsSound, no_raw, raw_at}
use Rattle.gs_sdc.specs.declared.constraints.DriverSpec.{DriverSpec}
use Rattle.gs_verilog.specs.Circuit.{Circuit, IsNetlist, LinksInside, inst_name as raw_name}
use Rattle.gs_verilog.specs.declared.parts.Link.{Link}
use Rattle.gs_verilog.specs.declared.parts.RawInst.{RawInst}

-- ---- the nets at the pins of an instance

-- a connected pin is on one of so many nets
net_below : (links : List Link) (pin : List ℕ) (n : ℕ) → AllByRecursion (λ l. l.net < n) links → is_connected links pin ≡ true → net_in links pin < n
net_below [] pin n h e = let never : false ≡ true = e in absurd cc
net_below (k ∷ links) pin n h e = by_test (bytes_eq pin k.pin) e (λ g. net_below links pin n h.1 g)
  where
    by_test : (b : Bool) → (b || is_connected links pin) ≡ true → (is_connected links pin ≡ true → net_in links pin < n) → (if b then k.net else net_in links pin) < n
    by_test true g rest = h.0
    by_test false g rest = rest g

or_second : (a b : Bool) → b ≡ true → (a || b) ≡ true
or_second true b e = refl
or_second false b e = e

or_one : (a b : Bool) → a ≡ true → (a || b) ≡ true
or_one true b e = refl
or_one false b e = let never : false ≡ true = e in absurd cc

-- as many input nets as its cell has inputs
pub inputs_many : (cells : List Cell) (i : RawInst) → length (input_nets cells i) + 1 ≡ length (cell_of cells i).pins
inputs_many cells i =
    omega (arith, length-map (inputs_of (cell_of cells i)) (net_at_pin i.links), length-take-le (output_place (cell_of cells i).pins) (cell_of cells i).pins (omega arith), (cell_of cells i).well.some_inputs)

input_is : (cells : List Cell) (i : RawInst) (p : ℕ) → p < length (input_nets cells i) → slice_index (input_nets cells i) p ≡ net_in i.links (pin_at (cell_of cells i).pins p).name
input_is cells i p lt =
    let pins = (cell_of cells i).pins in
    let many : length (inputs_of (cell_of cells i)) ≡ output_place pins = length-take-le (output_place pins) pins (omega arith) in
    let in_p : p < length (inputs_of (cell_of cells i)) = omega (arith, length-map (inputs_of (cell_of cells i)) (net_at_pin i.links)) in
    get_or-map (net_at_pin i.links) (inputs_of (cell_of cells i)) p no_pin 0 in_p
    ∙ ap (net_at_pin i.links) (get_or-take (output_place pins) pins p no_pin (omega arith))

range_more : (n : ℕ) → range_with_len 0 (n + 1) ≡ range_with_len 0 n ++ n ∷ []
range_more n =
    sym (map-id (range_with_len 0 (n + 1)))
    ∙ map-range_with_len_more (λ x. x) 0 n n (omega arith)
    ∙ ap (λ xs. xs ++ n ∷ []) (map-id (range_with_len 0 n))

-- ---- the input pins of instances

pub record IsPinOf (insts : List Inst) (s : Sink) : Type 0 where
  pub inst_in : s.inst < length insts
  pub pin_in : s.pin < length (inst_at insts s.inst).inputs

module _ (insts : List Inst) where
  piece_many : (g : ℕ) → length (pins_of_inst insts g) ≡ length (inst_at insts g).inputs
  piece_many g = omega (arith, length-map-range_with_len {X = Sink} (λ p. record { inst = g; pin = p }) 0 (length (inst_at insts g).inputs))

  piece_pins : (g : ℕ) → g < length insts → All (IsPinOf insts) (pins_of_inst insts g)
  piece_pins g lt =
      All-map (IsPinOf insts) (λ p. record { inst = g; pin = p }) (range_with_len 0 (length (inst_at insts g).inputs))
      (λ k d kt. record { inst_in = lt; pin_in = omega (arith, kt, length-range_with_len 0 (length (inst_at insts g).inputs), get_or-range_with_len 0 (length (inst_at insts g).inputs) k d (omega (arith, kt, length-range_with_len 0 (length (inst_at insts g).inputs)))) })

  pub all_pins : All (IsPinOf insts) (input_pins insts)
  all_pins = all_flat (IsPinOf insts) (pins_of_inst insts) (range_with_len 0 (length insts))
      (λ k d kt. piece_pins (get_or (range_with_len 0 (length insts)) k d) (omega (arith, kt, length-range_with_len 0 (length insts), get_or-range_with_len 0 (length insts) k d (omega (arith, kt, length-range_with_len 0 (length insts))))))

  pub sinks_kept : (n : ℕ) → All (IsSinkOn insts n) (pins_on insts n)
  sinks_kept n k d lt =
      let is : IsPinOf insts (get_or (pins_on insts n) k d) = All-filter (λ s. pin_net insts s == n) (IsPinOf insts) (input_pins insts) all_pins k d lt in
      let on : (pin_net insts (get_or (pins_on insts n) k d) == n) ≡ true = filter_passes (λ s. pin_net insts s == n) (input_pins insts) k d lt in
      record { inst_in = is.inst_in; pin_in = is.pin_in; on = eqb-true (pin_net insts (get_or (pins_on insts n) k d)) n on }

  -- how many there are
  pins_to : (n : ℕ) → n ≤ length insts → length (flat_map (pins_of_inst insts) (range_with_len 0 n)) + n ≡ sum_by (λ i. length i.inputs + 1) (take n insts)
  pins_to zero h = refl
  pins_to (suc n) h =
      let one : suc n ≡ n + 1 = omega arith in
      let parts : flat_map (pins_of_inst insts) (range_with_len 0 (n + 1)) ≡ flat_map (pins_of_inst insts) (range_with_len 0 n) ++ flat_map (pins_of_inst insts) (n ∷ []) =
      ap (flat_map (pins_of_inst insts)) (range_more n) ∙ flat_map-append (pins_of_inst insts) (range_with_len 0 n) (n ∷ []) in
      let last : length (flat_map (pins_of_inst insts) (n ∷ [])) ≡ length (inst_at insts n).inputs =
      omega (arith, length-append (pins_of_inst insts n) [], piece_many n) in
      let before = pins_to n (omega arith) in
      let more : sum_by (λ i. length i.inputs + 1) (take (n + 1) insts) ≡ sum_by (λ i. length i.inputs + 1) (take n insts) + (length (inst_at insts n).inputs + 1) = sum_by_more (λ i. length i.inputs + 1) insts n no_inst (omega arith) in
      ap (λ m. length (flat_map (pins_of_inst insts) (range_with_len 0 m)) + m) one
      ∙ omega (arith, before, more, last, ap length parts, length-append (flat_map (pins_of_inst insts) (range_with_len 0 n)) (flat_map (pins_of_inst insts) (n ∷ [])))
      ∙ ap (λ m. sum_by (λ i. length i.inputs + 1) (take m insts)) (sym one)

  pub pins_few : length (input_pins insts) ≤ sum_by (λ i. length i.inputs + 1) insts
  pins_few = omega (arith, pins_to (length insts) (omega arith), ap (sum_by (λ i. length i.inputs + 1)) (take_all (length insts) insts (omega arith)))

-- ---- the instances of a linked design

module _ (cells : List Cell) (c : Circuit) where
  abbrev insts : List Inst
  insts = linked_insts cells c

  pub insts_many : length insts ≡ length c.insts
  insts_many = length-map c.insts (linked_inst cells c)

  pub inst_is : (g : ℕ) → g < length c.insts → inst_at insts g ≡ linked_inst cells c (raw_at c.insts g)
  inst_is g lt = get_or-map (linked_inst cells c) c.insts g no_raw no_inst lt

  sums : (is : List RawInst) → sum_by (λ i. length i.inputs + 1) (map (linked_inst cells c) is) ≡ pin_count cells is
  sums [] = refl
  sums (i ∷ is) =
      sum_by-cons (λ j. length j.inputs + 1) (linked_inst cells c i) (map (linked_inst cells c) is)
      ∙ omega (arith, sums is, inputs_many cells i, length-map (input_nets cells i) (new_number cells c))
      ∙ sym (sum_by-cons (λ j. length (cell_of cells j).pins) i is)

  pub pins_sum : sum_by (λ i. length i.inputs + 1) insts ≡ pin_count cells c.insts
  pins_sum = sums c.insts

  names_are : (is : List RawInst) → map inst_name (map (linked_inst cells c) is) ≡ map raw_name is
  names_are [] = refl
  names_are (i ∷ is) = ap (λ ns. i.name ∷ ns) (names_are is)

  module _ (net : IsNetlist c) where
    pub names_differ : AllPairs (λ x y. x ≢ y) (map inst_name insts)
    names_differ = subst (AllPairs (λ x y. x ≢ y)) (sym (names_are c.insts)) (AllPairs-from_IsDistinct bytes_eq-Decides (map raw_name c.insts) net.names.insts)

    pub named : All (λ i. IsUnbroken i.name) insts
    named = All-map (λ i. IsUnbroken i.name) (linked_inst cells c) c.insts (each_of (λ i. IsUnbroken i.name) c.insts net.clean)

    module _ (drivers : List DriverSpec) (ok : IsSound cells c drivers) where
      links_in : (g : ℕ) → g < length c.insts → LinksInside (length c.nets) (raw_at c.insts g)
      links_in g lt = each_of (LinksInside (length c.nets)) c.insts net.nets.links g no_raw lt

      pub input_below : (g p : ℕ) → g < length c.insts → p < length (input_nets cells (raw_at c.insts g)) → slice_index (input_nets cells (raw_at c.insts g)) p < length c.nets
      input_below g p lt in_p =
          let i = raw_at c.insts g in
          let within : p < length (cell_of cells i).pins = omega (arith, inputs_many cells i) in
          subst (λ n. n < length c.nets) (sym (input_is cells i p in_p))
          (net_below i.links (pin_at (cell_of cells i).pins p).name (length c.nets) (links_in g lt) (ok.connected g p lt within))

      pub input_used : (g p : ℕ) → g < length c.insts → p < length (input_nets cells (raw_at c.insts g)) → is_used (driven cells c) (read cells c) (slice_index (input_nets cells (raw_at c.insts g)) p) ≡ true
      input_used g p lt in_p =
          let n = slice_index (input_nets cells (raw_at c.insts g)) p in
          let some : 1 ≤ count_of (all_input_nets cells c.insts) n = count_flat (input_nets cells) c.insts g p no_raw n lt in_p refl in
          or_second (is_one_of (driven cells c) n) (is_one_of (read cells c) n)
          (is_one (read cells c) n (omega (arith, some, count-append (all_input_nets cells c.insts) (output_ports c.ports) n)))

      pub output_below : (g : ℕ) → g < length c.insts → output_net cells (raw_at c.insts g) < length c.nets
      output_below g lt =
          let i = raw_at c.insts g in
          let within : output_place (cell_of cells i).pins < length (cell_of cells i).pins = omega (arith, (cell_of cells i).well.some_inputs) in
          net_below i.links (output_pin (cell_of cells i)).name (length c.nets) (links_in g lt) (ok.connected g (output_place (cell_of cells i).pins) lt within)

      pub output_at : (g : ℕ) → g < length c.insts → slice_index (output_nets cells c.insts) g ≡ output_net cells (raw_at c.insts g)
      output_at g lt = get_or-map (output_net cells) c.insts g no_raw 0 lt

      pub output_counts : (g : ℕ) → g < length c.insts → 1 ≤ count_of (output_nets cells c.insts) (output_net cells (raw_at c.insts g))
      output_counts g lt = count_at (output_nets cells c.insts) g (output_net cells (raw_at c.insts g)) (omega (arith, lt, length-map c.insts (output_net cells))) (output_at g lt)

      pub output_used : (g : ℕ) → g < length c.insts → is_used (driven cells c) (read cells c) (output_net cells (raw_at c.insts g)) ≡ true
      output_used g lt =
          let n = output_net cells (raw_at c.insts g) in
          or_one (is_one_of (driven cells c) n) (is_one_of (read cells c) n)
          (is_one (driven cells c) n (omega (arith, output_counts g lt, count-append (output_nets cells c.insts) (input_ports c.ports) n)))

      -- the new number of a net that is used
      pub new_below : (n : ℕ) → n < length c.nets → is_used (driven cells c) (read cells c) n ≡ true → new_number cells c n < length (used_nets cells c)
      new_below n lt e = number_lt (is_used (driven cells c) (read cells c)) n (length c.nets) e lt

      pub inputs_in : (g : ℕ) → g < length insts → All (λ m. m < length (used_nets cells c)) (inst_at insts g).inputs
      inputs_in g lt =
          let in_g : g < length c.insts = omega (arith, lt, insts_many) in
          subst (λ i. All (λ m. m < length (used_nets cells c)) i.inputs) (sym (inst_is g in_g))
          (All-map (λ m. m < length (used_nets cells c)) (new_number cells c) (input_nets cells (raw_at c.insts g))
          (λ p d in_p. subst (λ n. new_number cells c n < length (used_nets cells c)) (same p d in_p) (new_below (slice_index (input_nets cells (raw_at c.insts g)) p) (input_below g p in_g in_p) (input_used g p in_g in_p))))
        where
          same : (p d : ℕ) → p < length (input_nets cells (raw_at c.insts g)) → slice_index (input_nets cells (raw_at c.insts g)) p ≡ get_or (input_nets cells (raw_at c.insts g)) p d
          same p d in_p = get_or_default (input_nets cells (raw_at c.insts g)) p 0 d in_p

      pub output_in : (g : ℕ) → g < length insts → (inst_at insts g).output < length (used_nets cells c)
      output_in g lt =
          let in_g : g < length c.insts = omega (arith, lt, insts_many) in
          subst (λ i. i.output < length (used_nets cells c)) (sym (inst_is g in_g)) (new_below (output_net cells (raw_at c.insts g)) (output_below g in_g) (output_used g in_g))

      pub insts_few : length insts < 2097152
      insts_few = omega (arith, insts_many, ok.few_insts)

      pub pins_in_all : sum_by (λ i. length i.inputs + 1) insts < 8388608
      pins_in_all = omega (arith, pins_sum, ok.few_pins)

      pub alts_kept : ((x : ℕ) → x < length cells → AreAlternativesOf cells x (alternatives cells x)) → (g : ℕ) → g < length insts → AreAlternatives cells (inst_at insts g)
      alts_kept kept g lt =
          let in_g : g < length c.insts = omega (arith, lt, insts_many) in
          let i = raw_at c.insts g in
          let x = cell_number cells i.cell in
          subst (AreAlternatives cells) (sym (inst_is g in_g))
          (are_alternatives cells x (kept x (ok.known g in_g)) (linked_inst cells c i) refl refl
          (omega (arith, length-map (input_nets cells i) (new_number cells c), inputs_many cells i))
          (all_piece (λ y. is_gate (cell_at cells y).kind ≡ true → HasAllArcs (cell_at cells y)) (choices_of cells) c.insts g no_raw in_g
          (all_left (λ y. is_gate (cell_at cells y).kind ≡ true → HasAllArcs (cell_at cells y)) (flat_map (choices_of cells) c.insts) (map (λ (d : DriverSpec). cell_number cells d.cell) drivers) ok.arcs)))
