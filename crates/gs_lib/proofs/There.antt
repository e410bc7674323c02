-- A tree without a fault has a library: its tables, its arcs, its cells and the library itself are there.

use Rattle.std.specs.Prelude.{All, AllPairs}
use Rattle.std.proofs.Common.{◌≡◌, ◌≢◌, ◌∙◌, ℤ, pos, ap, sym, subst, refl, ℕ, ◌+◌, ◌≤◌, List, [], ◌∷◌, ◌++◌, codes, map, Bool, true, false, ◌&&◌, Option, None, Some, unwrap_or, arith, if◌then◌else◌}
use Rattle.std.specs.List.{IsDistinct, flat_map, filter_map, list_any}
use Rattle.std.specs.Option.{option_and_then, option_map}
use Rattle.std.specs.Ordering.{int_eq}
use Rattle.std.specs.Str.{bytes_eq, str_eq_ignore_ascii_case}
use Rattle.std.proofs.lemmas.Cmp.{nat_list_eq_equiv}
use Rattle.std.proofs.lemmas.List.{append-nil, append_assoc, map-append}
use Rattle.std.proofs.lemmas.List.Elements.{All-append, All-cons, All-head, All-nil, All-tail}
use Rattle.std.proofs.lemmas.Map.Keys.{IsDistinct-push}
use Rattle.std.proofs.lemmas.Map.Made.{AllPairs-from_IsDistinct}
use Rattle.std.proofs.lemmas.Slice.Eq.{bytes_eq-Decides}
use Rattle.gs_design.specs.Cells.{cell_name}
use Rattle.gs_design.specs.declared.arc.TimingArc.{TimingArc}
use Rattle.gs_design.specs.declared.cell.Cell.{Cell}
use Rattle.gs_design.specs.declared.kind.CellKind.{CellKind}
use Rattle.gs_design.specs.declared.library.Library.{Library}
use Rattle.gs_design.specs.declared.units.Units.{Units}
use Rattle.gs_quantity.specs.Lookup.{IsTable}
use Rattle.gs_quantity.specs.TableFault.{table_fault}
use Rattle.gs_quantity.specs.declared.lookup.fault.TableErr.{TableErr}
use Rattle.gs_quantity.specs.declared.lookup.table.Table.{Table}
use Rattle.gs_text.specs.Pieces.{IsUnbroken}
use Rattle.gs_libcell.specs.Attribute.{group_in, label_of, last_complex, last_group, last_simple}
use Rattle.gs_libcell.specs.Grid.{GridLists, absent, bad, given, checked, checked_by, grid_by, grid_in, lists_of, table_lists}
use Rattle.gs_libcell.specs.Number.{number_of}
use Rattle.gs_libcell.specs.Pin.{pins_in}
use Rattle.gs_libcell.specs.Template.{Frame}
use Rattle.gs_libcell.specs.Timing.{TimingLists, is_read, timing_of, timings_by, timings_in}
use Rattle.gs_libcell.specs.Unit.{both, farad_tens, load_tens, tens_equal, time_tens}
use Rattle.gs_libcell.specs.declared.grid.Lists.{Lists}
use Rattle.gs_libcell.specs.declared.pin.NamedPin.{NamedPin}
use Rattle.gs_libtree.specs.declared.tree.Item.{Item}
use Rattle.gs_libtree.specs.declared.tree.Node.{Node}
use Rattle.gs_lib.specs.Draft.{ArcLists, CellLists, DraftLists, amount_or_zero, arc_lists, arc_of, arcs_of, cell_lists, cell_of, draft_of, grid_is_given, has_tables, lists_given, pins_of_draft}
use Rattle.gs_lib.specs.Faults.{or_else}
use Rattle.gs_lib.specs.Library.{IsLibraryOf, count_fault, draft_by, draft_fault, drafts_fault, drafts_in, first_fault, frame_of, header_fault, leak_unit, load_unit, part_fault, slew_default, tens_of_items, time_unit, when}
use Rattle.gs_lib.specs.Profile.{inputs_in_order, is_flop, kind_of, output_items}
use Rattle.gs_lib.specs.declared.error.LibErr.{LibErr}
use Rattle.gs_lib.specs.declared.error.LibErr.TheVariants as errors
use Rattle.gs_lib.proofs.Cells.{complete, tables}
use Rattle.gs_lib.proofs.Kept.{unbroken}
use Rattle.gs_lib.proofs.Made.{solid, well}
use Rattle.gs_lib.proofs.Reading.{keeps_of}
use Rattle.gs_lib.proofs.Sorted.{inputs_sorted}
use Rattle.gs_lib.proofs.Tables.{table_of}
use Rattle.gs_lib.proofs.Whole.{HasTables, or_none_first, or_none_second}

-- ---- tables

-- lists that are given make a table
abbrev pub IsGrid : GridLists → Type 0
IsGrid absent = Unit {0}
IsGrid bad = Unit {0}
IsGrid (given l) = IsTable l.xs l.ys l.zs

checked_grid : (l : Lists) (o : Option TableErr) → table_fault l.xs l.ys l.zs ≡ o → IsGrid (checked_by l o)
checked_grid l None h = table_of l.xs l.ys l.zs h
checked_grid l (Some e) h = tt

lists_grid : (o : Option Lists) → IsGrid (checked o)
lists_grid None = tt
lists_grid (Some l) = checked_grid l (table_fault l.xs l.ys l.zs) refl

group_grid : (lib : Frame) (o : Option Node) → IsGrid (grid_by lib o)
group_grid lib None = tt
group_grid lib (Some g) = lists_grid (lists_of lib g)

pub record HasGrids (t : TimingLists) : Type 0 where
  pub cell_rise : IsGrid t.cell_rise
  pub cell_fall : IsGrid t.cell_fall
  pub rise_transition : IsGrid t.rise_transition
  pub fall_transition : IsGrid t.fall_transition

module _ (lib : Frame) (flop : Bool) (inputs : List NamedPin) where
  one_grids : (items : List Item) → HasGrids (timing_of lib flop inputs items)
  one_grids items = record {
    cell_rise = group_grid lib (last_group (codes "cell_rise") items);
    cell_fall = group_grid lib (last_group (codes "cell_fall") items);
    rise_transition = group_grid lib (last_group (codes "rise_transition") items);
    fall_transition = group_grid lib (last_group (codes "fall_transition") items);
  }

  read_grids : (g : Node) (b : Bool) → All HasGrids (if b then timing_of lib flop inputs g.items ∷ [] else [])
  read_grids g true = All-cons HasGrids (timing_of lib flop inputs g.items) [] (one_grids g.items) (All-nil HasGrids)
  read_grids g false = All-nil HasGrids

  group_grids : (o : Option Node) → All HasGrids (timings_by lib flop inputs o)
  group_grids None = All-nil HasGrids
  group_grids (Some g) = read_grids g (is_read flop g)

  all_grids : (items : List Item) → All HasGrids (timings_in lib flop inputs items)
  all_grids [] = All-nil HasGrids
  all_grids (i ∷ is) =
      All-append HasGrids (timings_by lib flop inputs (group_in (codes "timing") i)) (timings_in lib flop inputs is) (group_grids (group_in (codes "timing") i)) (all_grids is)

-- ---- arcs

pub record HasTable (l : Lists) : Type 0 where
  pub table : Table
  pub lists : table_lists table ≡ l

table_there : (g : GridLists) → IsGrid g → grid_is_given g ≡ true → HasTable (lists_given g)
table_there absent w h = let never : false ≡ true = h in absurd cc
table_there bad w h = let never : false ≡ true = h in absurd cc
table_there (given l) w h = record { table = record { xs = l.xs; ys = l.ys; zs = l.zs; well = w }; lists = refl }

and_first : (a b : Bool) → a && b ≡ true → a ≡ true
and_first true b h = refl
and_first false b h = h

and_second : (a b : Bool) → a && b ≡ true → b ≡ true
and_second true b h = h
and_second false b h = let never : false ≡ true = h in cc

pub record HasArcs (ls : List ArcLists) : Type 0 where
  pub arcs : List TimingArc
  pub lists : map arc_lists arcs ≡ ls

module _ (t : TimingLists) (grids : HasGrids t) (there : has_tables t ≡ true) where
  abbrev delays : Bool
  delays = grid_is_given t.cell_rise && grid_is_given t.cell_fall

  abbrev slews : Bool
  slews = grid_is_given t.rise_transition && grid_is_given t.fall_transition

  cell_rise : HasTable (lists_given t.cell_rise)
  cell_rise = table_there t.cell_rise grids.cell_rise (and_first (grid_is_given t.cell_rise) (grid_is_given t.cell_fall) (and_first delays slews there))

  cell_fall : HasTable (lists_given t.cell_fall)
  cell_fall = table_there t.cell_fall grids.cell_fall (and_second (grid_is_given t.cell_rise) (grid_is_given t.cell_fall) (and_first delays slews there))

  rise_transition : HasTable (lists_given t.rise_transition)
  rise_transition = table_there t.rise_transition grids.rise_transition (and_first (grid_is_given t.rise_transition) (grid_is_given t.fall_transition) (and_second delays slews there))

  fall_transition : HasTable (lists_given t.fall_transition)
  fall_transition = table_there t.fall_transition grids.fall_transition (and_second (grid_is_given t.rise_transition) (grid_is_given t.fall_transition) (and_second delays slews there))

  arc_at : ℕ → TimingArc
  arc_at p = record {
    pin = p;
    sense = t.sense;
    cell_rise = cell_rise.table;
    cell_fall = cell_fall.table;
    rise_transition = rise_transition.table;
    fall_transition = fall_transition.table;
  }

  arc_lists_at : (p : ℕ) → arc_lists (arc_at p) ≡ arc_of t p
  unfolding arc_at
  arc_lists_at p = λ i. record {
    pin = p;
    sense = t.sense;
    cell_rise = cell_rise.lists i;
    cell_fall = cell_fall.lists i;
    rise_transition = rise_transition.lists i;
    fall_transition = fall_transition.lists i;
  }

  some_arcs : (ps : List ℕ) → HasArcs (map (arc_of t) ps)
  some_arcs [] = record { arcs = []; lists = refl }
  some_arcs (p ∷ ps) = let rest = some_arcs ps in record { arcs = arc_at p ∷ rest.arcs; lists = λ i. arc_lists_at p i ∷ rest.lists i }

pub arcs_there : (ts : List TimingLists) → All HasGrids ts → All HasTables ts → HasArcs (flat_map arcs_of ts)
arcs_there [] g h = record { arcs = []; lists = refl }
arcs_there (t ∷ ts) g h =
    let first : HasArcs (arcs_of t) = some_arcs t (All-head HasGrids t ts g) (All-head HasTables t ts h) t.related in
    let rest = arcs_there ts (All-tail HasGrids t ts g) (All-tail HasTables t ts h) in
    record { arcs = first.arcs ++ rest.arcs; lists = map-append arc_lists first.arcs rest.arcs ∙ λ i. first.lists i ++ rest.lists i }

-- ---- cells

abbrev pub draft_name : DraftLists → List ℕ
draft_name d = d.name

pub record HasCell (d : DraftLists) : Type 0 where
  pub cell : Cell
  pub lists : cell_lists cell ≡ cell_of d
  pub name : cell_name cell ≡ d.name
  pub solid : IsUnbroken cell.name

pub record HasCells (ds : List DraftLists) : Type 0 where
  pub cells : List Cell
  pub lists : map cell_lists cells ≡ map cell_of ds
  pub names : map cell_name cells ≡ map draft_name ds
  pub named : All (λ (c : Cell). IsUnbroken c.name) cells

module _ (lib : Frame) where
  module _ (cell : Node) (kind : CellKind) (kind_is : kind_of cell (pins_in lib.units cell.items) ≡ Some kind)
      (whole : part_fault (draft_of lib cell (pins_in lib.units cell.items) kind) ≡ None) where
    abbrev d : DraftLists
    d = draft_of lib cell (pins_in lib.units cell.items) kind

    arcs_made : HasArcs (flat_map arcs_of d.timings)
    arcs_made = arcs_there d.timings (all_grids lib (is_flop cell.items) (inputs_in_order (pins_in lib.units cell.items)) (output_items cell.items)) (tables d whole)

    cell_made : HasCell d
    cell_made = record {
      cell = record {
        name = d.name;
        footprint = d.footprint;
        leakage = amount_or_zero d.leakage;
        area = amount_or_zero d.area;
        marked = d.marked;
        kind = kind;
        pins = pins_of_draft d;
        arcs = arcs_made.arcs;
        well = well lib cell kind (pins_in lib.units cell.items) kind_is refl (inputs_sorted (pins_in lib.units cell.items)) (complete d whole) arcs_made.arcs arcs_made.lists;
      };
      lists = λ i. record {
        name = d.name;
        footprint = d.footprint;
        leakage = amount_or_zero d.leakage;
        area = amount_or_zero d.area;
        marked = d.marked;
        kind = kind;
        pins = pins_of_draft d;
        arcs = arcs_made.lists i;
      };
      name = refl;
      solid = unbroken (label_of cell) (solid lib cell kind (pins_in lib.units cell.items) kind_is);
    }

  cell_with : (cell : Node) (o : Option CellKind) → kind_of cell (pins_in lib.units cell.items) ≡ o → (d : DraftLists)
      → option_map (draft_of lib cell (pins_in lib.units cell.items)) o ≡ Some d → part_fault d ≡ None → HasCell d
  cell_with cell None k d e w = let never : None ≡ Some d = e in absurd cc
  cell_with cell (Some kind) k d e w =
      let is : Some (draft_of lib cell (pins_in lib.units cell.items) kind) ≡ Some d = e in
      let same : draft_of lib cell (pins_in lib.units cell.items) kind ≡ d = cc in
      subst HasCell same (cell_made cell kind k (ap part_fault same ∙ w))

  cell_by : (g : Option Node) (d : DraftLists) → draft_by lib g ≡ Some d → part_fault d ≡ None → HasCell d
  cell_by None d e w = let never : None ≡ Some d = e in absurd cc
  cell_by (Some cell) d e w = cell_with cell (kind_of cell (pins_in lib.units cell.items)) refl d e w

  one_more : (d : DraftLists) (ds : List DraftLists) → HasCell d → HasCells ds → HasCells (d ∷ ds)
  one_more d ds c cs = record {
    cells = c.cell ∷ cs.cells;
    lists = λ i. c.lists i ∷ cs.lists i;
    names = λ i. c.name i ∷ cs.names i;
    named = All-cons (λ (x : Cell). IsUnbroken x.name) c.cell cs.cells c.solid cs.named;
  }

  drafted : (seen : List (List ℕ)) (d : DraftLists) → draft_fault seen d ≡ None → part_fault d ≡ None
  drafted seen d h = or_none_second (when (list_any (bytes_eq d.name) seen) (errors.TwoCells d.name)) (part_fault d) h

  cells_more : (i : Item) (is : List Item) (o : Option DraftLists) → draft_by lib (group_in (codes "cell") i) ≡ o → (seen : List (List ℕ))
      → drafts_fault seen (drafts_in lib (i ∷ is)) ≡ None
      → ((next : List (List ℕ)) → drafts_fault next (drafts_in lib is) ≡ None → HasCells (drafts_in lib is)) → HasCells (drafts_in lib (i ∷ is))
  cells_more i is None e seen h rest = let g = rw e at h in rw e (rest seen g)
  cells_more i is (Some d) e seen h rest =
      let g : or_else (draft_fault seen d) (drafts_fault (seen ++ d.name ∷ []) (drafts_in lib is)) ≡ None = rw e at h in
      let this : draft_fault seen d ≡ None = or_none_first (draft_fault seen d) (drafts_fault (seen ++ d.name ∷ []) (drafts_in lib is)) g in
      let others = or_none_second (draft_fault seen d) (drafts_fault (seen ++ d.name ∷ []) (drafts_in lib is)) g in
      rw e (one_more d (drafts_in lib is) (cell_by (group_in (codes "cell") i) d e (drafted seen d this)) (rest (seen ++ d.name ∷ []) others))

  cells_there : (items : List Item) (seen : List (List ℕ)) → drafts_fault seen (drafts_in lib items) ≡ None → HasCells (drafts_in lib items)
  cells_there [] seen h = record { cells = []; lists = refl; names = refl; named = All-nil (λ (x : Cell). IsUnbroken x.name) }
  cells_there (i ∷ is) seen h = cells_more i is (draft_by lib (group_in (codes "cell") i)) refl seen h (λ next k. cells_there is next k)

-- ---- the names differ

when_false : (b : Bool) (e : LibErr) → when b e ≡ None → b ≡ false
when_false true e h = let never : Some e ≡ None = h in cc
when_false false e h = refl

names_differ : (seen : List (List ℕ)) (ds : List DraftLists) → IsDistinct bytes_eq seen → drafts_fault seen ds ≡ None → IsDistinct bytes_eq (seen ++ map draft_name ds)
names_differ seen [] h none = subst (IsDistinct bytes_eq) (sym (append-nil seen)) h
names_differ seen (d ∷ ds) h none =
    let this : draft_fault seen d ≡ None = or_none_first (draft_fault seen d) (drafts_fault (seen ++ d.name ∷ []) ds) none in
    let fresh : list_any (bytes_eq d.name) seen ≡ false =
    when_false (list_any (bytes_eq d.name) seen) (errors.TwoCells d.name) (or_none_first (when (list_any (bytes_eq d.name) seen) (errors.TwoCells d.name)) (part_fault d) this) in
    let more : IsDistinct bytes_eq (seen ++ d.name ∷ []) = IsDistinct-push nat_list_eq_equiv seen d.name h fresh in
    subst (IsDistinct bytes_eq) (append_assoc seen (d.name ∷ []) (map draft_name ds))
    (names_differ (seen ++ d.name ∷ []) ds more (or_none_second (draft_fault seen d) (drafts_fault (seen ++ d.name ∷ []) ds) none))

no_names : IsDistinct bytes_eq []
unfolding IsDistinct
no_names = tt

-- ---- units

time_by : (a b c d : Bool) → unwrap_or (if a then Some 0 else if b then Some 1 else if c then Some 2 else if d then Some 3 else None) 0 ≤ 9
time_by true b c d = omega arith
time_by false true c d = omega arith
time_by false false true d = omega arith
time_by false false false true = omega arith
time_by false false false false = omega arith

time_small : (o : Option (List ℕ)) → unwrap_or (option_and_then time_tens o) 0 ≤ 9
time_small None = omega arith
time_small (Some text) = time_by (bytes_eq (codes "1ps") text) (bytes_eq (codes "10ps") text) (bytes_eq (codes "100ps") text) (bytes_eq (codes "1ns") text)

abbrev Within : ℕ → Option ℕ → Type 0
Within n None = Unit {0}
Within n (Some x) = x ≤ n

count_by : (a b c : Bool) → Within 2 (if a then Some 0 else if b then Some 1 else if c then Some 2 else None)
count_by true b c = omega arith
count_by false true c = omega arith
count_by false false true = omega arith
count_by false false false = tt

count_small : (o : Option ℤ) → Within 2 (tens_equal o)
count_small None = tt
count_small (Some m) = count_by (int_eq m (pos 1000000)) (int_eq m (pos 10000000)) (int_eq m (pos 100000000))

farad_by : (a b : Bool) → Within 3 (if a then Some 0 else if b then Some 3 else None)
farad_by true b = omega arith
farad_by false true = omega arith
farad_by false false = tt

both_small : (a b : Option ℕ) → Within 2 a → Within 3 b → unwrap_or (both a b) 0 ≤ 9
both_small None b h k = omega arith
both_small (Some x) None h k = omega arith
both_small (Some x) (Some y) h k = let small : x ≤ 2 = h in let few : y ≤ 3 = k in omega (arith, small, few)

load_by : (values : List (List ℕ)) → unwrap_or (load_tens values) 0 ≤ 9
load_by [] = omega arith
load_by (count ∷ []) = omega arith
load_by (count ∷ unit ∷ []) =
    both_small (tens_equal (number_of 0 count)) (farad_tens unit) (count_small (number_of 0 count))
    (farad_by (str_eq_ignore_ascii_case unit (codes "ff")) (str_eq_ignore_ascii_case unit (codes "pf")))
load_by (count ∷ unit ∷ other ∷ more) = omega arith

load_small : (o : Option (List (List ℕ))) → unwrap_or (option_and_then load_tens o) 0 ≤ 9
load_small None = omega arith
load_small (Some values) = load_by values

units_of : (items : List Item) → Units
units_of items = record {
  time_tens = unwrap_or (time_unit items) 0;
  load_tens = unwrap_or (load_unit items) 0;
  time_small = time_small (last_simple (codes "time_unit") items);
  load_small = load_small (last_complex (codes "capacitive_load_unit") items);
}

-- ---- the library

pub record HasLibrary (root : Node) : Type 0 where
  pub library : Library
  pub is : IsLibraryOf root library

module _ (root : Node) (none : first_fault root ≡ None) where
  abbrev lib : Frame
  lib = frame_of root.items

  abbrev drafts : List DraftLists
  drafts = drafts_in lib root.items

  after_header : or_else (drafts_fault [] drafts) (count_fault (map cell_of drafts)) ≡ None
  after_header = or_none_second (header_fault root) (or_else (drafts_fault [] drafts) (count_fault (map cell_of drafts))) none

  no_draft : drafts_fault [] drafts ≡ None
  no_draft = or_none_first (drafts_fault [] drafts) (count_fault (map cell_of drafts)) after_header

  made : HasCells drafts
  made = cells_there lib root.items [] no_draft

  no_count : count_fault (map cell_lists made.cells) ≡ None
  no_count = ap count_fault made.lists ∙ or_none_second (drafts_fault [] drafts) (count_fault (map cell_of drafts)) after_header

  differ : AllPairs (λ x y. x ≢ y) (map cell_name made.cells)
  differ = subst (AllPairs (λ x y. x ≢ y)) (sym made.names) (AllPairs-from_IsDistinct bytes_eq-Decides (map draft_name drafts) (names_differ [] drafts no_names no_draft))

  pub library_there : HasLibrary root
  unfolding units_of
  library_there = record {
    library = record {
      units = units_of root.items;
      leak_unit = leak_unit root.items;
      slew_default = slew_default root.items;
      cells = made.cells;
      well = keeps_of made.cells no_count root.items (slew_default root.items) refl differ made.named;
    };
    is = record { faultless = none; units = refl; leak = refl; slew = refl; cells = made.lists };
  }
