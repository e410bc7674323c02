-- What a cell that is made from a draft keeps.

use Rattle.std.proofs.Common.{◌≡◌, ◌≢◌, ◌∙◌, ap, sym, subst, refl, ℕ, zero, suc, ◌+◌, ◌-◌, ◌<◌, ◌≤◌, ◌==◌, nat_lt, List, [], ◌∷◌, ◌++◌, codes, length, get_or, map, filter, Bool, true, false, cond, ◌||◌, ◌&&◌, Option, None, Some, ℤ, pos, negsuc, ◌≤ℤ◌, ◌<ℤ◌, arith, if◌then◌else◌, eqb}
use Rattle.std.specs.Prelude.{not, All, fold, int_lt, slice_index_or}
use Rattle.std.specs.BTreeMap.{insert_entry}
use Rattle.std.specs.Cmp.Lexicographic.{slice_cmp}
use Rattle.std.specs.List.{flat_map, filter_map, list_any, position}
use Rattle.std.specs.List.Sorted.{IsStrictlySortedBy}
use Rattle.std.specs.Map.{values_of}
use Rattle.std.specs.Ordering.{nat_cmp}
use Rattle.std.specs.Str.{bytes_eq}
use Rattle.std.specs.declared.cmp.Ordering.TheVariants.{Less}
use Rattle.std.proofs.lemmas.Bool.Decides.{nat_tests}
use Rattle.std.proofs.lemmas.Int.{ints}
use Rattle.std.proofs.lemmas.List.{get_or_append_left, get_or-append_right, get_or-map, length-append, length-map}
use Rattle.std.proofs.lemmas.List.Elements.{All-append, All-cons, All-filter, All-from_get_or, All-get_or, All-head, All-map, All-nil, All-push, All-tail}
use Rattle.std.proofs.lemmas.Map.Keys.{Less-from_sorted}
use Rattle.std.proofs.lemmas.Map.Views.{All-values-insert_entry}
use Rattle.gs_design.specs.Amounts.{IsAmount, IsAmountIfGiven, IsCapacitance}
use Rattle.gs_design.specs.Cell.{IsCell, IsPin, is_output, is_flop, is_launch, no_pin, output_place, pin_at}
use Rattle.gs_design.specs.declared.arc.Sense.{Sense}
use Rattle.gs_design.specs.declared.arc.TimingArc.{TimingArc}
use Rattle.gs_design.specs.declared.kind.CellKind.{CellKind}
use Rattle.gs_design.specs.declared.kind.CellKind.TheVariants.{Gate, Flop}
use Rattle.gs_design.specs.declared.pin.CellPin.{CellPin}
use Rattle.gs_design.specs.declared.pin.Role.{Role}
use Rattle.gs_design.specs.declared.pin.Role.TheVariants as role
use Rattle.gs_lib.specs.Draft.{ArcLists, DraftLists, amount_or_zero, arc_lists, arc_of, arcs_of, given_amount, input_pin, input_pins, is_related, output_pin, role_of}
use Rattle.gs_lib.specs.Profile as profile
use Rattle.gs_libcell.specs.Attribute.{group_in, last_simple}
use Rattle.gs_libcell.specs.Number.{amount_by, amount_in, amount_of, amount_read, in_range, narrow, number_of}
use Rattle.gs_libcell.specs.Pin.{facts_of, is_named, name_of, named, pins_by, pins_in, pins_of}
use Rattle.gs_libcell.specs.Timing.{TimingLists}
use Rattle.gs_libcell.specs.Unit.{Tens}
use Rattle.gs_libcell.specs.declared.number.Amount.{Amount}
use Rattle.gs_libcell.specs.declared.number.Amount.TheVariants as amount
use Rattle.gs_libcell.specs.declared.pin.NamedPin.{NamedPin}
use Rattle.gs_libcell.specs.declared.pin.PinFacts.{PinFacts}
use Rattle.gs_libtree.specs.declared.tree.Item.{Item}
use Rattle.gs_libtree.specs.declared.tree.Node.{Node}

-- ---- the ranges of amounts

pub at_least : (m : ℤ) → int_lt m (pos 0) ≡ false → pos 0 ≤ℤ m
at_least (pos n) h = omega (arith, ints)
at_least (negsuc n) h = cc

pub below : (m : ℤ) (k : ℕ) → int_lt m (pos k) ≡ true → m <ℤ pos k
below (pos n) k h =
    let lt : n < k = grind (arith, nat_tests) in
    omega (arith, ints)
below (negsuc n) k h = omega (arith, ints)

pub some_same : {X : Type 0} (x y : X) → Some x ≡ Some y → x ≡ y
some_same x y e = cc

pub none_some : {X : Type 0} (x : X) → None ≡ Some x → ⊥
none_some x e = cc

pub ranged_by : (m : ℤ) (a b : Bool) → int_lt m (pos 0) ≡ a → int_lt m (pos 1099511627776) ≡ b
    → IsAmountIfGiven (given_amount (amount_read (if a then None else if b then Some m else None)))
ranged_by m true b e f z h = absurd (none_some z h)
ranged_by m false true e f z h = subst IsAmount (some_same m z h) (at_least m e, below m 1099511627776 f)
ranged_by m false false e f z h = absurd (none_some z h)

pub ranged : (o : Option ℤ) → IsAmountIfGiven (given_amount (amount_read (in_range o)))
ranged None z h = absurd (none_some z h)
ranged (Some m) z h = ranged_by m (int_lt m (pos 0)) (int_lt m (pos 1099511627776)) refl refl z h

pub given_by : (tens : ℕ) (o : Option (List ℕ)) → IsAmountIfGiven (given_amount (amount_by tens o))
given_by tens None z h = absurd (none_some z h)
given_by tens (Some text) z h = ranged (number_of tens text) z h

pub amount_ranged : (name : List ℕ) (tens : ℕ) (items : List Item) → IsAmountIfGiven (given_amount (amount_in name tens items))
amount_ranged name tens items = given_by tens (last_simple name items)

-- a missing amount counts as 0
pub or_zero : (a : Amount) → IsAmountIfGiven (given_amount a) → IsAmount (amount_or_zero a)
or_zero amount.Absent h = (omega (arith, ints), omega (arith, ints))
or_zero amount.Bad h = (omega (arith, ints), omega (arith, ints))
or_zero (amount.Is m) h = h m refl

abbrev pub IsSmallCap : Amount → Type 0
IsSmallCap a = IsCapacitance (amount_or_zero a)

pub narrow_by : (m : ℤ) (b : Bool) → int_lt m (pos 17179869184) ≡ b → pos 0 ≤ℤ m → IsSmallCap (if b then amount.Is m else amount.Bad)
narrow_by m true e h = (h, below m 17179869184 e)
narrow_by m false e h = (omega (arith, ints), omega (arith, ints))

pub narrowed : (a : Amount) → IsAmountIfGiven (given_amount a) → IsSmallCap (narrow a)
narrowed amount.Absent h = (omega (arith, ints), omega (arith, ints))
narrowed amount.Bad h = (omega (arith, ints), omega (arith, ints))
narrowed (amount.Is m) h = let r : IsAmount m = h m refl in narrow_by m (int_lt m (pos 17179869184)) refl r.0

-- ---- the ranges of a pin's numbers

pub record HasRanges (f : PinFacts) : Type 0 where
  pub cap : IsSmallCap f.cap
  pub max_cap : IsAmountIfGiven (given_amount f.max_cap)
  pub max_transition : IsAmountIfGiven (given_amount f.max_transition)

abbrev pub IsRanged : NamedPin → Type 0
IsRanged p = HasRanges p.facts

pub facts_ranged : (units : Tens) (items : List Item) → HasRanges (facts_of units items)
facts_ranged units items = record {
  cap = narrowed (amount_in (codes "capacitance") units.load items) (amount_ranged (codes "capacitance") units.load items);
  max_cap = amount_ranged (codes "max_capacitance") units.load items;
  max_transition = amount_ranged (codes "max_transition") units.time items;
}

pub group_ranged : (units : Tens) (o : Option Node) → All IsRanged (pins_by units o)
group_ranged units None = All-nil IsRanged
group_ranged units (Some g) = All-map IsRanged (named (facts_of units g.items)) g.args (λ k d lt. facts_ranged units g.items)

pub pins_ranged : (units : Tens) (items : List Item) → All IsRanged (pins_in units items)
pins_ranged units [] = All-nil IsRanged
pins_ranged units (i ∷ is) = All-append IsRanged (pins_by units (group_in (codes "pin") i)) (pins_in units is) (group_ranged units (group_in (codes "pin") i)) (pins_ranged units is)

pub entries_ranged : (done : List (List ℕ × PinFacts)) (ps : List NamedPin) → All HasRanges (values_of done) → All IsRanged ps
    → All HasRanges (values_of (fold (λ es p. insert_entry (slice_cmp nat_cmp) es p.name p.facts) done ps))
entries_ranged done [] h a = h
entries_ranged done (p ∷ ps) h a =
    entries_ranged (insert_entry (slice_cmp nat_cmp) done p.name p.facts) ps
    (All-values-insert_entry (slice_cmp nat_cmp) p.name p.facts HasRanges done h (All-head IsRanged p ps a))
    (All-tail IsRanged p ps a)

pub from_values : (es : List (List ℕ × PinFacts)) → All HasRanges (values_of es) → All IsRanged (map profile.pin_of_entry es)
from_values [] h = All-nil IsRanged
from_values (e ∷ es) h = All-cons IsRanged (profile.pin_of_entry e) (map profile.pin_of_entry es) (All-head HasRanges e.1 (values_of es) h) (from_values es (All-tail HasRanges e.1 (values_of es) h))

pub inputs_ranged : (pins : List NamedPin) → All IsRanged pins → All IsRanged (profile.inputs_in_order pins)
inputs_ranged pins a =
    from_values (profile.entries_in_order (filter profile.is_input pins))
    (entries_ranged [] (filter profile.is_input pins) (All-nil HasRanges) (All-filter profile.is_input IsRanged pins a))

-- ---- input pins

pub plain_role_by : (b : Bool) → is_output (if b then role.Clock else role.Input) ≡ false
plain_role_by true = refl
plain_role_by false = refl

-- what an input's pin has of its own
pub record IsInputOf (c : CellPin) (p : NamedPin) : Type 0 where
  pub name : c.name ≡ p.name
  pub role : is_output c.role ≡ false
  pub ranges : IsRanged p → IsPin c

pub input_like : (r : Role) (p : NamedPin) → is_output r ≡ false → IsInputOf (input_pin r p) p
input_like r p e = record {
  name = refl;
  role = e;
  ranges = λ h. record { cap = h.cap; slew_bound = h.max_transition; load_bound = λ z n. absurd (none_some z n) };
}

pub output_ranged : (p : NamedPin) → IsRanged p → IsPin (output_pin p)
output_ranged p h = record { cap = (omega (arith, ints), omega (arith, ints)); slew_bound = h.max_transition; load_bound = h.max_cap }

pub input_at : (flop : Bool) (ts : List TimingLists) (i : ℕ) (ps : List NamedPin) (k : ℕ) (d : NamedPin) → k < length ps → IsInputOf (pin_at (input_pins flop ts i ps) k) (get_or ps k d)
input_at flop ts i [] k d lt = absurd (omega arith)
input_at flop ts i (p ∷ ps) zero d lt = input_like (role_of flop ts i p) p (plain_role_by (flop && (p.facts.clock || is_related i ts)))
input_at flop ts i (p ∷ ps) (suc k) d lt = input_at flop ts (i + 1) ps k d (omega arith)

pub length-input_pins : (flop : Bool) (ts : List TimingLists) (i : ℕ) (ps : List NamedPin) → length (input_pins flop ts i ps) ≡ length ps
length-input_pins flop ts i [] = refl
length-input_pins flop ts i (p ∷ ps) = ap suc (length-input_pins flop ts (i + 1) ps)

-- ---- a cell of inputs and one output

module _ (ins : List CellPin) (o : CellPin) where
  abbrev pub whole : List CellPin
  whole = ins ++ o ∷ []

  pub whole_length : length whole ≡ length ins + 1
  whole_length = length-append ins (o ∷ [])

  pub left_at : (k : ℕ) → k < length ins → pin_at whole k ≡ pin_at ins k
  left_at k lt = get_or_append_left ins (o ∷ []) no_pin k lt

  pub last_at : pin_at whole (length ins) ≡ o
  last_at =
      let le : length ins ≤ length ins = omega arith in
      let none : length ins - length ins ≡ 0 = omega arith in
      get_or-append_right ins (o ∷ []) (length ins) (length ins) no_pin refl le ∙ ap (λ j. get_or (o ∷ []) j no_pin) none

  module _ (inputs : List NamedPin) (d : NamedPin) (same : length ins ≡ length inputs)
      (like : (k : ℕ) → k < length inputs → IsInputOf (pin_at ins k) (get_or inputs k d))
      (is_out : is_output o.role ≡ true) where
    pub role_by : (k : ℕ) (b : Bool) → k < length whole → nat_lt k (length ins) ≡ b → is_output (pin_at whole k).role ≡ (k + 1 == length whole)
    role_by k true lt e =
        let inside : k < length ins = grind (arith, nat_tests) in
        let other : (k + 1 == length whole) ≡ false = grind (arith, nat_tests, whole_length) in
        ap (λ (c : CellPin). is_output c.role) (left_at k inside) ∙ (like k (omega (arith, same))).role ∙ sym other
    role_by k false lt e =
        let ge : length ins ≤ k = grind (arith, nat_tests) in
        let here : k ≡ length ins = omega (arith, whole_length) in
        let equal : (k + 1 == length whole) ≡ true = grind (arith, nat_tests, whole_length) in
        ap (λ (c : CellPin). is_output c.role) (ap (pin_at whole) here ∙ last_at) ∙ is_out ∙ sym equal

    pub roles : (k : ℕ) → k < length whole → is_output (pin_at whole k).role ≡ (k + 1 == length whole)
    roles k lt = role_by k (nat_lt k (length ins)) lt refl

    pub name_at : (k : ℕ) → k < length inputs → (pin_at whole k).name ≡ (get_or inputs k d).name
    name_at k lt = ap (λ (c : CellPin). c.name) (left_at k (omega (arith, same))) ∙ (like k lt).name

    pub rising : IsStrictlySortedBy (slice_cmp nat_cmp) (map name_of inputs) → (k : ℕ) → k + 2 < length whole → slice_cmp nat_cmp (pin_at whole k).name (pin_at whole (k + 1)).name ≡ Less
    rising sorted k lt =
        let a : k < length inputs = omega (arith, same, whole_length) in
        let b : k + 1 < length inputs = omega (arith, same, whole_length) in
        let c : k + 1 < length (map name_of inputs) = omega (arith, b, length-map inputs name_of) in
        let less = Less-from_sorted (slice_cmp nat_cmp) (map name_of inputs) k (k + 1) d.name sorted (omega arith) c in
        ap (λ n. slice_cmp nat_cmp n (pin_at whole (k + 1)).name) (name_at k a ∙ sym (get_or-map name_of inputs k d d.name a))
        ∙ ap (slice_cmp nat_cmp (get_or (map name_of inputs) k d.name)) (name_at (k + 1) b ∙ sym (get_or-map name_of inputs (k + 1) d d.name b))
        ∙ less

    pub apart : ((k : ℕ) → k < length inputs → bytes_eq (get_or inputs k d).name o.name ≡ false)
        → (k : ℕ) → k + 1 < length whole → bytes_eq (pin_at whole k).name (pin_at whole (output_place whole)).name ≡ false
    apart differ k lt =
        let a : k < length inputs = omega (arith, same, whole_length) in
        let place : output_place whole ≡ length ins = omega (arith, whole_length) in
        ap (λ n. bytes_eq n (pin_at whole (output_place whole)).name) (name_at k a)
        ∙ ap (λ (c : CellPin). bytes_eq (get_or inputs k d).name c.name) (ap (pin_at whole) place ∙ last_at)
        ∙ differ k a

    pub all_pins : All IsRanged inputs → IsPin o → All IsPin whole
    all_pins ranged out =
        All-push IsPin ins o
        (All-from_get_or IsPin ins no_pin (λ k lt. (like k (omega (arith, same))).ranges (All-get_or IsRanged inputs k d (omega (arith, same)) ranged)))
        out
