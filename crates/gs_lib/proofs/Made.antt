-- The cell of a draft is a whole cell.

use Rattle.std.specs.Prelude.{not, All}
use Rattle.std.proofs.Common.{◌≡◌, ◌∙◌, ap, sym, subst, refl, ℕ, ◌+◌, ◌<◌, ◌≤◌, ◌==◌, nat_lt, List, [], ◌∷◌, ◌++◌, codes, length, get_or, map, filter, Bool, true, false, ◌||◌, ◌&&◌, Option, None, Some, arith}
use Rattle.std.specs.Cmp.Lexicographic.{slice_cmp}
use Rattle.std.specs.List.{flat_map, list_any}
use Rattle.std.specs.List.Sorted.{IsStrictlySortedBy}
use Rattle.std.specs.Ordering.{nat_cmp}
use Rattle.std.specs.Str.{bytes_eq}
use Rattle.std.proofs.lemmas.Bool.Decides.{nat_tests}
use Rattle.std.proofs.lemmas.Cmp.{nat_list_eq_equiv}
use Rattle.std.proofs.lemmas.List.{length-map}
use Rattle.std.proofs.lemmas.List.Elements.{All-filter, All-head}
use Rattle.gs_design.specs.Cell as cells
use Rattle.gs_design.specs.Cell.{IsCell, IsPin, is_launch}
use Rattle.gs_design.specs.declared.arc.TimingArc.{TimingArc}
use Rattle.gs_design.specs.declared.kind.CellKind.{CellKind}
use Rattle.gs_design.specs.declared.kind.CellKind.TheVariants.{Flop}
use Rattle.gs_design.specs.declared.pin.CellPin.{CellPin}
use Rattle.gs_lib.specs.Draft.{ArcLists, DraftLists, amount_missing, amount_or_zero, arc_lists, arcs_of, cap_missing, draft_missing, draft_of, input_pins, output_pin, pins_of_draft, timing_missing}
use Rattle.gs_lib.specs.Faults.{first_some, or_else}
use Rattle.gs_lib.specs.Profile.{has_edge, has_foreign_group, has_mixed_twins, has_odd_count, has_odd_direction, has_odd_form, has_pin, has_twins, inputs_in_order, is_broken, is_flop, is_output, is_twin_of, kind_by, kind_of, output_items}
use Rattle.gs_lib.specs.declared.error.What.{What}
use Rattle.gs_lib.specs.declared.error.What.TheVariants.{Leakage}
use Rattle.gs_libcell.specs.Attribute.{label_of}
use Rattle.gs_libcell.specs.Number.{amount_in}
use Rattle.gs_libcell.specs.Pin.{name_of, pins_in}
use Rattle.gs_libcell.specs.Template.{Frame}
use Rattle.gs_libcell.specs.Timing.{timings_in}
use Rattle.gs_libcell.specs.declared.pin.NamedPin.{NamedPin}
use Rattle.gs_libtree.specs.declared.tree.Node.{Node}
use Rattle.gs_lib.proofs.Well.{IsRanged, all_pins, amount_ranged, apart, input_at, inputs_ranged, length-input_pins, or_zero, output_ranged, pins_ranged, rising, roles, whole_length}
use Rattle.gs_lib.proofs.Whole.{IsArc, IsOne, all_arcs, all_timed, all_under, and_false, any_filter, any_none, filter_passes, flop_has_edge, kind_if, kind_is_flop, not_false, one_of, or_first, or_none_second, or_second, some_arc, some_timing}

module _ (lib : Frame) (cell : Node) (kind : CellKind) (pins : List NamedPin) (kind_is : kind_of cell pins ≡ Some kind) where
  abbrev pub inputs : List NamedPin
  inputs = inputs_in_order pins

  abbrev pub d : DraftLists
  d = draft_of lib cell pins kind

  abbrev flop : Bool
  flop = is_flop cell.items

  abbrev count : Bool
  count = has_odd_count pins inputs

  abbrev mixed : Bool
  mixed = has_mixed_twins pins inputs || has_twins pins

  pub form : has_odd_form cell pins inputs ≡ false
  form = (kind_if (has_odd_form cell pins inputs) (kind_by flop inputs (output_items cell.items)) kind kind_is).0

  kinds : kind_by flop inputs (output_items cell.items) ≡ Some kind
  kinds = (kind_if (has_odd_form cell pins inputs) (kind_by flop inputs (output_items cell.items)) kind kind_is).1

  pub solid : is_broken (label_of cell) ≡ false
  solid = or_first (is_broken (label_of cell)) (has_foreign_group cell.items || (has_odd_direction pins || (count || mixed))) form

  after_name : (has_foreign_group cell.items || (has_odd_direction pins || (count || mixed))) ≡ false
  after_name = or_second (is_broken (label_of cell)) (has_foreign_group cell.items || (has_odd_direction pins || (count || mixed))) form

  after_groups : (has_odd_direction pins || (count || mixed)) ≡ false
  after_groups = or_second (has_foreign_group cell.items) (has_odd_direction pins || (count || mixed)) after_name

  after_directions : (count || mixed) ≡ false
  after_directions = or_second (has_odd_direction pins) (count || mixed) after_groups

  even_count : count ≡ false
  even_count = or_first count mixed after_directions

  no_mixed : has_mixed_twins pins inputs ≡ false
  no_mixed = or_first (has_mixed_twins pins inputs) (has_twins pins) (or_second count mixed after_directions)

  abbrev outs : List NamedPin
  outs = filter is_output pins

  abbrev rest_count : Bool
  rest_count = nat_lt 6 (length inputs) || not (length outs == 1)

  some_input : 0 < length inputs
  some_input =
      let e : (length inputs == 0) ≡ false = or_first (length inputs == 0) rest_count even_count in
      grind (arith, nat_tests)

  pub few_inputs : length inputs ≤ 6
  few_inputs =
      let e : nat_lt 6 (length inputs) ≡ false = or_first (nat_lt 6 (length inputs)) (not (length outs == 1)) (or_second (length inputs == 0) rest_count even_count) in
      grind (arith, nat_tests)

  one : IsOne outs
  one = one_of outs (not_false (length outs == 1) (or_second (nat_lt 6 (length inputs)) (not (length outs == 1)) (or_second (length inputs == 0) rest_count even_count)))

  abbrev out : CellPin
  out = output_pin one.only

  abbrev ins : List CellPin
  ins = input_pins flop d.timings 0 inputs

  pins_whole : pins_of_draft d ≡ ins ++ out ∷ []
  pins_whole = ap (λ os. ins ++ map output_pin os) one.is

  is_out : is_output one.only ≡ true
  is_out = All-head (λ p. is_output p ≡ true) one.only [] (subst (All (λ p. is_output p ≡ true)) one.is (filter_passes is_output pins))

  own_name : has_pin one.only.name inputs ≡ false
  own_name =
      let kept : list_any (is_twin_of inputs) outs ≡ false = any_filter (is_twin_of inputs) is_output pins no_mixed in
      let alone : is_twin_of inputs one.only || false ≡ false = ap (list_any (is_twin_of inputs)) (sym one.is) ∙ kept in
      and_false (is_output one.only) (has_pin one.only.name inputs) is_out (or_first (is_twin_of inputs one.only) false alone)

  differ : (k : ℕ) → k < length inputs → bytes_eq (get_or inputs k one.only).name one.only.name ≡ false
  differ k lt =
      nat_list_eq_equiv.symm (get_or inputs k one.only).name one.only.name
      ∙ any_none (λ (q : NamedPin). bytes_eq one.only.name q.name) inputs k one.only own_name lt

  same : length ins ≡ length inputs
  same = length-input_pins flop d.timings 0 inputs

  module _ (pins_are : pins ≡ pins_in lib.units cell.items) (sorted : IsStrictlySortedBy (slice_cmp nat_cmp) (map name_of inputs))
      (complete : draft_missing d ≡ None) (arcs : List TimingArc) (arcs_are : map arc_lists arcs ≡ flat_map arcs_of d.timings) where
    ranged : All IsRanged pins
    ranged = subst (All IsRanged) (sym pins_are) (pins_ranged lib.units cell.items)

    out_ranged : IsPin out
    out_ranged = output_ranged one.only (All-head IsRanged one.only [] (subst (All IsRanged) one.is (All-filter is_output IsRanged pins ranged)))

    timings_whole : first_some timing_missing d.timings ≡ None
    timings_whole =
        or_none_second (first_some cap_missing pins) (first_some timing_missing d.timings)
        (or_none_second (amount_missing Leakage d.leakage) (or_else (first_some cap_missing pins) (first_some timing_missing d.timings)) complete)

    arcs_good : All (λ a. IsArc (length inputs) flop (arc_lists a)) arcs
    arcs_good =
        all_under (IsArc (length inputs) flop) arc_lists arcs
        (subst (All (IsArc (length inputs) flop)) (sym arcs_are) (all_arcs (length inputs) flop d.timings (all_timed lib flop inputs (output_items cell.items))))

    length_is : length (ins ++ out ∷ []) ≡ length inputs + 1
    length_is = whole_length ins out ∙ ap (λ n. n + 1) same

    launched : kind ≡ Flop → 0 < length arcs
    launched e =
        let edge = flop_has_edge flop inputs (output_items cell.items) kind kinds e in
        let timed : 0 < length (timings_in lib true inputs (output_items cell.items)) = some_timing lib inputs (output_items cell.items) edge.1 in
        let here : 0 < length d.timings = subst (λ f. 0 < length (timings_in lib f inputs (output_items cell.items))) (sym edge.0) timed in
        let made : 0 < length (flat_map arcs_of d.timings) = some_arc d.timings here timings_whole in
        omega (arith, length-map arcs arc_lists, ap length arcs_are, made)

    whole_cell : IsCell (amount_or_zero d.leakage) (amount_or_zero d.area) kind (ins ++ out ∷ []) arcs
    whole_cell = record {
      some_inputs = omega (arith, length_is, some_input);
      few_inputs = omega (arith, length_is, few_inputs);
      roles = roles ins out inputs one.only same (λ k lt. input_at flop d.timings 0 inputs k one.only lt) refl;
      rising = rising ins out inputs one.only same (λ k lt. input_at flop d.timings 0 inputs k one.only lt) refl sorted;
      output_apart = apart ins out inputs one.only same (λ k lt. input_at flop d.timings 0 inputs k one.only lt) refl differ;
      arc_pins = λ k e lt. let a = arcs_good k e lt in omega (arith, length_is, a.inside);
      launches = λ k e lt. (arcs_good k e lt).launches ∙ sym (kind_is_flop flop inputs (output_items cell.items) kind kinds);
      some_launch = launched;
      leakage_in = or_zero d.leakage (amount_ranged (codes "cell_leakage_power") 0 cell.items);
      area_in = or_zero d.area (amount_ranged (codes "area") 0 cell.items);
      pins_in = all_pins ins out inputs one.only same (λ k lt. input_at flop d.timings 0 inputs k one.only lt) refl (inputs_ranged pins ranged) out_ranged;
    }

    pub well : IsCell (amount_or_zero d.leakage) (amount_or_zero d.area) kind (pins_of_draft d) arcs
    well = subst (λ ps. IsCell (amount_or_zero d.leakage) (amount_or_zero d.area) kind ps arcs) (sym pins_whole) whole_cell
