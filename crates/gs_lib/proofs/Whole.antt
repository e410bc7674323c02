-- A cell of the profile in which nothing is missing or bad makes a whole cell.

use Rattle.std.specs.Prelude.{not, All}
use Rattle.std.proofs.Common.{◌≡◌, ◌∙◌, ap, sym, subst, refl, ℕ, zero, suc, ◌+◌, ◌<◌, ◌≤◌, ◌==◌, nat_lt, List, [], ◌∷◌, ◌++◌, codes, length, get_or, map, filter, Bool, true, false, ◌||◌, ◌&&◌, Option, None, Some, ℤ, arith, if◌then◌else◌}
use Rattle.std.specs.Cmp.Lexicographic.{slice_cmp}
use Rattle.std.specs.List.{flat_map, filter_map, list_any, position, position_or_len}
use Rattle.std.specs.List.Sorted.{IsStrictlySortedBy}
use Rattle.std.specs.Ordering.{nat_cmp}
use Rattle.std.specs.Str.{bytes_eq}
use Rattle.std.proofs.lemmas.Bool.Decides.{Decides-eqb, nat_tests}
use Rattle.std.proofs.lemmas.Cmp.{nat_list_eq_equiv}
use Rattle.std.proofs.lemmas.List.{length-append, length-map}
use Rattle.std.proofs.lemmas.List.Elements.{All-append, All-cons, All-filter, All-head, All-map, All-nil, All-tail}
use Rattle.gs_design.specs.Amounts.{IsAmount}
use Rattle.gs_design.specs.Cell as cells
use Rattle.gs_design.specs.Cell.{IsCell, IsPin, is_launch}
use Rattle.gs_design.specs.declared.arc.Sense.{Sense}
use Rattle.gs_design.specs.declared.arc.Sense.TheVariants as sense
use Rattle.gs_design.specs.declared.arc.TimingArc.{TimingArc}
use Rattle.gs_design.specs.declared.kind.CellKind.{CellKind}
use Rattle.gs_design.specs.declared.kind.CellKind.TheVariants.{Gate, Flop}
use Rattle.gs_design.specs.declared.pin.CellPin.{CellPin}
use Rattle.gs_lib.specs.Draft.{ArcLists, DraftLists, amount_missing, amount_or_zero, arc_lists, arc_of, arcs_of, bad_table, bad_table_in, draft_missing, draft_of, further, grid_is_bad, grid_is_given, has_tables, input_pins, output_pin, pins_of_draft, related_missing, table_missing, tables_missing, timing_missing}
use Rattle.gs_lib.specs.Faults.{first_some, or_else}
use Rattle.gs_lib.specs.Profile.{gate_by, has_edge, has_mixed_twins, has_odd_count, has_odd_form, has_pin, inputs_in_order, is_edge_by, is_flop, is_output, is_twin_of, kind_by, kind_of, output_items, table_of}
use Rattle.gs_lib.specs.declared.error.What.{What}
use Rattle.gs_lib.specs.declared.error.What.TheVariants.{CellRise, CellFall, RiseTransition, FallTransition}
use Rattle.gs_libcell.specs.Attribute.{group_in, last_simple}
use Rattle.gs_libcell.specs.Grid.{GridLists, absent, bad, given}
use Rattle.gs_libcell.specs.Number.{amount_in}
use Rattle.gs_libcell.specs.Pin.{is_named, name_of, pins_in}
use Rattle.gs_libcell.specs.Template.{Frame}
use Rattle.gs_libcell.specs.Text.{words_of}
use Rattle.gs_libcell.specs.Timing.{TimingLists, is_read, related_by, sense_by, timing_lists, timing_of, timings_by, timings_in}
use Rattle.gs_libcell.specs.declared.grid.Lists.{Lists}
use Rattle.gs_libcell.specs.declared.pin.NamedPin.{NamedPin}
use Rattle.gs_libcell.specs.declared.timing.Timing.{Timing}
use Rattle.gs_libtree.specs.declared.tree.Item.{Item}
use Rattle.gs_libtree.specs.declared.tree.Node.{Node}
use Rattle.gs_lib.proofs.Well.{IsRanged, amount_ranged, all_pins, apart, input_at, inputs_ranged, length-input_pins, or_zero, output_ranged, pins_ranged, rising, roles, whole_length}

-- ---- tests

pub or_first : (a b : Bool) → a || b ≡ false → a ≡ false
or_first true b h = h
or_first false b h = refl

pub or_second : (a b : Bool) → a || b ≡ false → b ≡ false
or_second true b h = let never : true ≡ false = h in cc
or_second false b h = h

pub not_false : (b : Bool) → not b ≡ false → b ≡ true
not_false true h = refl
not_false false h = let never : true ≡ false = h in cc

pub and_false : (a b : Bool) → a ≡ true → a && b ≡ false → b ≡ false
and_false true b e h = h
and_false false b e h = let never : false ≡ true = e in cc

pub both_true : (a b : Bool) → a ≡ true → b ≡ true → a && b ≡ true
both_true true true e f = refl
both_true true false e f = f
both_true false b e f = e

pub any_none : {X : Type 0} (f : X → Bool) (xs : List X) (k : ℕ) (d : X) → list_any f xs ≡ false → k < length xs → f (get_or xs k d) ≡ false
any_none f [] k d h lt = absurd (omega arith)
any_none f (x ∷ xs) zero d h lt = or_first (f x) (list_any f xs) h
any_none f (x ∷ xs) (suc k) d h lt = any_none f xs k d (or_second (f x) (list_any f xs) h) (omega arith)

pub kept_none : {X : Type 0} (f p : X → Bool) (x : X) (xs : List X) (b : Bool) → p x ≡ b → f x ≡ false → list_any f (filter p xs) ≡ false → list_any f (filter p (x ∷ xs)) ≡ false
kept_none f p x xs true e g h = rw (e, g) h
kept_none f p x xs false e g h = rw e h

pub any_filter : {X : Type 0} (f p : X → Bool) (xs : List X) → list_any f xs ≡ false → list_any f (filter p xs) ≡ false
any_filter f p [] h = refl
any_filter f p (x ∷ xs) h = kept_none f p x xs (p x) refl (or_first (f x) (list_any f xs) h) (any_filter f p xs (or_second (f x) (list_any f xs) h))

pub passes_by : {X : Type 0} (p : X → Bool) (x : X) (xs : List X) (b : Bool) → p x ≡ b → All (λ y. p y ≡ true) (filter p xs) → All (λ y. p y ≡ true) (filter p (x ∷ xs))
passes_by p x xs true e h = rw e (All-cons (λ y. p y ≡ true) x (filter p xs) e h)
passes_by p x xs false e h = rw e h

pub filter_passes : {X : Type 0} (p : X → Bool) (xs : List X) → All (λ y. p y ≡ true) (filter p xs)
filter_passes p [] = All-nil (λ y. p y ≡ true)
filter_passes p (x ∷ xs) = passes_by p x xs (p x) refl (filter_passes p xs)

pub record IsOne {X : Type 0} (xs : List X) : Type 0 where
  pub only : X
  pub is : xs ≡ only ∷ []

pub one_of : {X : Type 0} (xs : List X) → (length xs == 1) ≡ true → IsOne xs
one_of [] h = let never : false ≡ true = h in cc
one_of (x ∷ []) h = record { only = x; is = refl }
one_of (x ∷ y ∷ zs) h =
    let never : length (x ∷ y ∷ zs) ≡ 1 = (Decides-eqb (length (x ∷ y ∷ zs)) 1).0 h in
    absurd (omega (arith, never))

-- ---- what is there

pub or_none_first : {F : Type 0} (a b : Option F) → or_else a b ≡ None → a ≡ None
or_none_first None b h = refl
or_none_first (Some x) b h = h

pub or_none_second : {F : Type 0} (a b : Option F) → or_else a b ≡ None → b ≡ None
or_none_second None b h = h
or_none_second (Some x) b h = let never : Some x ≡ None = h in cc

pub grid_given : (w : What) (g : GridLists) → table_missing w g ≡ None → grid_is_bad g ≡ false → grid_is_given g ≡ true
grid_given w absent m b = let never : Some w ≡ None = m in cc
grid_given w bad m b = let never : true ≡ false = b in cc
grid_given w (given l) m b = refl

pub record NoneBad (a b c d : Bool) : Type 0 where
  pub first : a ≡ false
  pub second : b ≡ false
  pub third : c ≡ false
  pub fourth : d ≡ false

pub none_bad : (a b c d : Bool) (i j k l : ℕ) → (if a then Some i else if b then Some j else if c then Some k else if d then Some l else None) ≡ None → NoneBad a b c d
none_bad true b c d i j k l h = let never : Some i ≡ None = h in cc
none_bad false true c d i j k l h = let never : Some j ≡ None = h in cc
none_bad false false true d i j k l h = let never : Some k ≡ None = h in cc
none_bad false false false true i j k l h = let never : Some l ≡ None = h in cc
none_bad false false false false i j k l h = record { first = refl; second = refl; third = refl; fourth = refl }

pub tables_there : (i : ℕ) (t : TimingLists) → timing_missing t ≡ None → bad_table_in i t ≡ None → has_tables t ≡ true
tables_there i t m b =
    let n = none_bad (grid_is_bad t.cell_rise) (grid_is_bad t.cell_fall) (grid_is_bad t.rise_transition) (grid_is_bad t.fall_transition) i (further i 1) (further i 2) (further i 3) b in
    let lasts : Option What = or_else (table_missing RiseTransition t.rise_transition) (table_missing FallTransition t.fall_transition) in
    let m1 : or_else (table_missing CellRise t.cell_rise) (or_else (table_missing CellFall t.cell_fall) lasts) ≡ None = or_none_second (related_missing t.related) (tables_missing t) m in
    let m2 : or_else (table_missing CellFall t.cell_fall) lasts ≡ None = or_none_second (table_missing CellRise t.cell_rise) (or_else (table_missing CellFall t.cell_fall) lasts) m1 in
    let m3 : lasts ≡ None = or_none_second (table_missing CellFall t.cell_fall) lasts m2 in
    both_true (grid_is_given t.cell_rise && grid_is_given t.cell_fall) (grid_is_given t.rise_transition && grid_is_given t.fall_transition)
    (both_true (grid_is_given t.cell_rise) (grid_is_given t.cell_fall)
    (grid_given CellRise t.cell_rise (or_none_first (table_missing CellRise t.cell_rise) (or_else (table_missing CellFall t.cell_fall) lasts) m1) n.first)
    (grid_given CellFall t.cell_fall (or_none_first (table_missing CellFall t.cell_fall) lasts m2) n.second))
    (both_true (grid_is_given t.rise_transition) (grid_is_given t.fall_transition)
    (grid_given RiseTransition t.rise_transition (or_none_first (table_missing RiseTransition t.rise_transition) (table_missing FallTransition t.fall_transition) m3) n.third)
    (grid_given FallTransition t.fall_transition (or_none_second (table_missing RiseTransition t.rise_transition) (table_missing FallTransition t.fall_transition) m3) n.fourth))

abbrev pub HasTables : TimingLists → Type 0
HasTables t = has_tables t ≡ true

pub all_tables : (i : ℕ) (ts : List TimingLists) → first_some timing_missing ts ≡ None → bad_table i ts ≡ None → All HasTables ts
all_tables i [] m b = All-nil HasTables
all_tables i (t ∷ ts) m b =
    All-cons HasTables t ts
    (tables_there i t (or_none_first (timing_missing t) (first_some timing_missing ts) m) (or_none_first (bad_table_in i t) (bad_table (further i 4) ts) b))
    (all_tables (further i 4) ts (or_none_second (timing_missing t) (first_some timing_missing ts) m) (or_none_second (bad_table_in i t) (bad_table (further i 4) ts) b))

-- of a list's images, and so of the list
pub all_under : {X Y : Type 0} (P : Y → Type 0) (f : X → Y) (xs : List X) → All P (map f xs) → All (λ x. P (f x)) xs
all_under P f [] h = All-nil (λ x. P (f x))
all_under P f (x ∷ xs) h = All-cons (λ x'. P (f x')) x xs (All-head P (f x) (map f xs) h) (all_under P f xs (All-tail P (f x) (map f xs) h))

-- ---- arcs

module _ (n : ℕ) (flop : Bool) where
  -- a group names inputs, and its sense is that of its cell's kind
  pub record IsTimed (t : TimingLists) : Type 0 where
    pub inside : All (λ p. p < n) t.related
    pub launches : is_launch t.sense ≡ flop

  pub record IsArc (a : ArcLists) : Type 0 where
    pub inside : a.pin < n
    pub launches : is_launch a.sense ≡ flop

  pub timed_arcs : (t : TimingLists) → IsTimed t → All IsArc (arcs_of t)
  timed_arcs t h = All-map IsArc (arc_of t) t.related (λ k d lt. record { inside = h.inside k d lt; launches = h.launches })

  pub all_arcs : (ts : List TimingLists) → All IsTimed ts → All IsArc (flat_map arcs_of ts)
  all_arcs [] h = All-nil IsArc
  all_arcs (t ∷ ts) h = All-append IsArc (arcs_of t) (flat_map arcs_of ts) (timed_arcs t (All-head IsTimed t ts h)) (all_arcs ts (All-tail IsTimed t ts h))

pub place_by : (n m : ℕ) (k : ℕ) (b : Bool) → nat_lt n m ≡ b → (if b then Some n else None) ≡ Some k → k < m
place_by n m k true e h =
    let same : n ≡ k = cc in
    let lt : n < m = grind (arith, nat_tests) in
    omega arith
place_by n m k false e h = let never : None ≡ Some k = h in cc

pub within : (inputs : List NamedPin) (word : List ℕ) (k : ℕ) → position (is_named word) inputs ≡ Some k → k < length inputs
within inputs word k h = place_by (position_or_len (is_named word) inputs) (length inputs) k (nat_lt (position_or_len (is_named word) inputs) (length inputs)) refl h

module _ (f : List ℕ → Option ℕ) (n : ℕ) (inside : (w : List ℕ) (k : ℕ) → f w ≡ Some k → k < n) where
  pub words_by : (w : List ℕ) (ws : List (List ℕ)) (o : Option ℕ) → f w ≡ o → All (λ p. p < n) (filter_map f ws) → All (λ p. p < n) (filter_map f (w ∷ ws))
  words_by w ws None e h = rw e h
  words_by w ws (Some k) e h = rw e (All-cons (λ p. p < n) k (filter_map f ws) (inside w k e) h)

  pub words_under : (ws : List (List ℕ)) → All (λ p. p < n) (filter_map f ws)
  words_under [] = All-nil (λ p. p < n)
  words_under (w ∷ ws) = words_by w ws (f w) refl (words_under ws)

pub words_inside : (inputs : List NamedPin) (ws : List (List ℕ)) → All (λ p. p < length inputs) (filter_map (λ word. position (is_named word) inputs) ws)
words_inside inputs ws = words_under (λ word. position (is_named word) inputs) (length inputs) (λ w k e. within inputs w k e) ws

pub related_inside : (inputs : List NamedPin) (o : Option (List ℕ)) → All (λ p. p < length inputs) (related_by inputs o)
related_inside inputs None = All-nil (λ p. p < length inputs)
related_inside inputs (Some text) = words_inside inputs (words_of text)

pub sense_if : (a b : Bool) → is_launch (if a then sense.Same else if b then sense.Other else sense.Both) ≡ false
sense_if true b = refl
sense_if false true = refl
sense_if false false = refl

pub sense_launches : (flop : Bool) (o : Option (List ℕ)) → is_launch (sense_by flop o) ≡ flop
sense_launches true o = refl
sense_launches false None = refl
sense_launches false (Some text) = sense_if (bytes_eq (codes "positive_unate") text) (bytes_eq (codes "negative_unate") text)

module _ (lib : Frame) (flop : Bool) (inputs : List NamedPin) where
  pub one_timed : (items : List Item) → IsTimed (length inputs) flop (timing_of lib flop inputs items)
  one_timed items = record {
    inside = related_inside inputs (last_simple (codes "related_pin") items);
    launches = sense_launches flop (last_simple (codes "timing_sense") items);
  }

  pub read_by : (g : Node) (b : Bool) → All (IsTimed (length inputs) flop) (if b then timing_of lib flop inputs g.items ∷ [] else [])
  read_by g true = All-cons (IsTimed (length inputs) flop) (timing_of lib flop inputs g.items) [] (one_timed g.items) (All-nil (IsTimed (length inputs) flop))
  read_by g false = All-nil (IsTimed (length inputs) flop)

  pub group_timed : (o : Option Node) → All (IsTimed (length inputs) flop) (timings_by lib flop inputs o)
  group_timed None = All-nil (IsTimed (length inputs) flop)
  group_timed (Some g) = read_by g (is_read flop g)

  pub all_timed : (items : List Item) → All (IsTimed (length inputs) flop) (timings_in lib flop inputs items)
  all_timed [] = All-nil (IsTimed (length inputs) flop)
  all_timed (i ∷ is) =
      All-append (IsTimed (length inputs) flop) (timings_by lib flop inputs (group_in (codes "timing") i)) (timings_in lib flop inputs is)
      (group_timed (group_in (codes "timing") i)) (all_timed is)

-- ---- a flip-flop has an arc

module _ (lib : Frame) (inputs : List NamedPin) where
  pub edge_read : (o : Option Node) → is_edge_by o ≡ true → 0 < length (timings_by lib true inputs o)
  edge_read None h = let never : false ≡ true = h in cc
  edge_read (Some g) h = rw h (omega arith)

  pub edge_by : (i : Item) (is : List Item) (b : Bool) → is_edge_by (group_in (codes "timing") i) ≡ b → (has_edge is ≡ true → 0 < length (timings_in lib true inputs is))
      → b || has_edge is ≡ true → 0 < length (timings_by lib true inputs (group_in (codes "timing") i) ++ timings_in lib true inputs is)
  edge_by i is true e more h =
      omega (arith, length-append (timings_by lib true inputs (group_in (codes "timing") i)) (timings_in lib true inputs is), edge_read (group_in (codes "timing") i) e)
  edge_by i is false e more h =
      omega (arith, length-append (timings_by lib true inputs (group_in (codes "timing") i)) (timings_in lib true inputs is), more h)

  pub some_timing : (items : List Item) → has_edge items ≡ true → 0 < length (timings_in lib true inputs items)
  some_timing [] h = let never : false ≡ true = h in cc
  some_timing (i ∷ is) h = edge_by i is (is_edge_by (group_in (codes "timing") i)) refl (some_timing is) h

pub related_some : (t : TimingLists) (related : List ℕ) → related_missing related ≡ None → 0 < length (map (arc_of t) related)
related_some t [] h = cc
related_some t (p ∷ ps) h = omega arith

pub some_arc : (ts : List TimingLists) → 0 < length ts → first_some timing_missing ts ≡ None → 0 < length (flat_map arcs_of ts)
some_arc [] lt h = absurd (omega arith)
some_arc (t ∷ ts) lt h =
    let first : timing_missing t ≡ None = or_none_first (timing_missing t) (first_some timing_missing ts) h in
    let sum : length (arcs_of t ++ flat_map arcs_of ts) ≡ length (arcs_of t) + length (flat_map arcs_of ts) = length-append (arcs_of t) (flat_map arcs_of ts) in
    let some : 0 < length (arcs_of t ++ flat_map arcs_of ts) = omega (arith, sum, related_some t t.related (or_none_first (related_missing t.related) (tables_missing t) first)) in
    some

-- ---- the kind

pub kind_flop_by : (b : Bool) (kind : CellKind) → (if b then Some Flop else None) ≡ Some kind → (kind ≡ Flop) × (b ≡ true)
kind_flop_by true kind h = let same : Flop ≡ kind = cc in (sym same, refl)
kind_flop_by false kind h = let never : None ≡ Some kind = h in cc

pub kind_gate_by : (o : Option ℕ) (kind : CellKind) → gate_by o ≡ Some kind → cells.is_flop kind ≡ false
kind_gate_by None kind h = let never : None ≡ Some kind = h in cc
kind_gate_by (Some t) kind h = let same : Gate t ≡ kind = cc in ap cells.is_flop (sym same)

pub kind_is_flop : (flop : Bool) (inputs : List NamedPin) (output : List Item) (kind : CellKind) → kind_by flop inputs output ≡ Some kind → cells.is_flop kind ≡ flop
kind_is_flop true inputs output kind h = ap cells.is_flop (kind_flop_by (has_edge output) kind h).0
kind_is_flop false inputs output kind h = kind_gate_by (table_of inputs output) kind h

pub flop_has_edge : (flop : Bool) (inputs : List NamedPin) (output : List Item) (kind : CellKind) → kind_by flop inputs output ≡ Some kind → kind ≡ Flop → (flop ≡ true) × (has_edge output ≡ true)
flop_has_edge true inputs output kind h e = (refl, (kind_flop_by (has_edge output) kind h).1)
flop_has_edge false inputs output kind h e =
    let gate : cells.is_flop kind ≡ false = kind_gate_by (table_of inputs output) kind h in
    let never : true ≡ false = sym (ap cells.is_flop e) ∙ gate in
    cc

pub kind_if : (b : Bool) (o : Option CellKind) (kind : CellKind) → (if b then None else o) ≡ Some kind → (b ≡ false) × (o ≡ Some kind)
kind_if true o kind h = let never : None ≡ Some kind = h in cc
kind_if false o kind h = (refl, h)
