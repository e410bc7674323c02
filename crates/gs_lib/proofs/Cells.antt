-- What is said of a cell makes a cell.

use Rattle.std.specs.Prelude.{All}
use Rattle.std.proofs.Common.{◌≡◌, ◌∙◌, ap, sym, subst, refl, ℕ, List, map, Bool, true, false, Option, None, Some}
use Rattle.std.specs.Cmp.Lexicographic.{slice_cmp}
use Rattle.std.specs.List.{flat_map}
use Rattle.std.specs.List.Sorted.{IsStrictlySortedBy}
use Rattle.std.specs.Option.{option_map}
use Rattle.std.specs.Ordering.{nat_cmp}
use Rattle.gs_design.specs.Cell.{IsCell}
use Rattle.gs_design.specs.declared.arc.TimingArc.{TimingArc}
use Rattle.gs_lib.specs.Draft.{ArcLists, DraftLists, amount_or_zero, arc_lists, arcs_of, bad_table, draft_is_bad, draft_lists, draft_missing, draft_of, pins_of_draft, amount_missing, cap_missing, timing_missing}
use Rattle.gs_lib.specs.Faults.{first_some, or_else}
use Rattle.gs_lib.specs.Index.{IsOfCell}
use Rattle.gs_lib.specs.Library.{part_fault, when}
use Rattle.gs_lib.specs.Profile.{inputs_in_order, is_broken}
use Rattle.gs_lib.specs.declared.draft.Draft.{Draft}
use Rattle.gs_lib.specs.declared.error.LibErr.{LibErr}
use Rattle.gs_lib.specs.declared.error.LibErr.TheVariants as errors
use Rattle.gs_lib.specs.declared.error.What.TheVariants.{Leakage}
use Rattle.gs_libcell.specs.Attribute.{label_of}
use Rattle.gs_libcell.specs.Pin.{name_of, pins_in}
use Rattle.gs_libcell.specs.Template.{Frame}
use Rattle.gs_libcell.specs.Timing.{timing_lists}
use Rattle.gs_libcell.specs.declared.timing.Timing.{Timing}
use Rattle.gs_libtree.specs.declared.tree.Node.{Node}
use Rattle.gs_lib.proofs.Made.{solid, well}
use Rattle.gs_lib.proofs.Whole.{HasTables, all_tables, all_under, or_none_first, or_none_second}

none_under : {A B : Type 0} (f : A → B) (o : Option A) → option_map f o ≡ None → o ≡ None
none_under f None h = refl
none_under f (Some x) h = let never : Some (f x) ≡ None = h in cc

module _ (d : DraftLists) (whole : part_fault d ≡ None) where
  abbrev later : Option LibErr
  later = or_else (when (draft_is_bad d) (errors.BadNumber d.name)) (option_map (errors.BadTable d.name) (bad_table 0 d.timings))

  pub complete : draft_missing d ≡ None
  complete = none_under (errors.Missing d.name) (draft_missing d) (or_none_first (option_map (errors.Missing d.name) (draft_missing d)) later whole)

  pub tabled : bad_table 0 d.timings ≡ None
  tabled =
      none_under (errors.BadTable d.name) (bad_table 0 d.timings)
      (or_none_second (when (draft_is_bad d) (errors.BadNumber d.name)) (option_map (errors.BadTable d.name) (bad_table 0 d.timings))
      (or_none_second (option_map (errors.Missing d.name) (draft_missing d)) later whole))

  timed : first_some timing_missing d.timings ≡ None
  timed =
      or_none_second (first_some cap_missing d.pins) (first_some timing_missing d.timings)
      (or_none_second (amount_missing Leakage d.leakage) (or_else (first_some cap_missing d.pins) (first_some timing_missing d.timings)) complete)

  pub tables : All HasTables d.timings
  tables = all_tables 0 d.timings timed tabled

module _ (lib : Frame) (cell : Node) (d : Draft) (of_cell : IsOfCell lib cell d) (whole : part_fault (draft_lists d) ≡ None) where
  pub draft_tables : All (λ (t : Timing). HasTables (timing_lists t)) d.timings
  draft_tables = all_under HasTables timing_lists d.timings (tables (draft_lists d) whole)

  abbrev IsWell : List TimingArc → DraftLists → Type 0
  IsWell arcs x = IsCell (amount_or_zero x.leakage) (amount_or_zero x.area) x.kind (pins_of_draft x) arcs

  pub draft_well : (arcs : List TimingArc) → map arc_lists arcs ≡ flat_map arcs_of (map timing_lists d.timings)
      → IsCell (amount_or_zero d.leakage) (amount_or_zero d.area) d.kind (pins_of_draft (draft_lists d)) arcs
  draft_well arcs arcs_are =
      let inputs : d.inputs ≡ inputs_in_order (pins_in lib.units cell.items) = ap (λ (x : DraftLists). x.inputs) of_cell.lists in
      let sorted : IsStrictlySortedBy (slice_cmp nat_cmp) (map name_of (inputs_in_order (pins_in lib.units cell.items))) =
      subst (λ ins. IsStrictlySortedBy (slice_cmp nat_cmp) (map name_of ins)) inputs of_cell.sorted in
      let all : draft_missing (draft_of lib cell (pins_in lib.units cell.items) d.kind) ≡ None =
      ap draft_missing (sym of_cell.lists) ∙ complete (draft_lists d) whole in
      let arcs_made : map arc_lists arcs ≡ flat_map arcs_of (draft_of lib cell (pins_in lib.units cell.items) d.kind).timings =
      arcs_are ∙ ap (λ (x : DraftLists). flat_map arcs_of x.timings) of_cell.lists in
      subst (IsWell arcs) (sym of_cell.lists)
      (well lib cell d.kind (pins_in lib.units cell.items) of_cell.kind_is refl sorted all arcs arcs_made)

  pub draft_solid : is_broken d.name ≡ false
  draft_solid =
      let name : d.name ≡ label_of cell = ap (λ (x : DraftLists). x.name) of_cell.lists in
      ap is_broken name ∙ solid lib cell d.kind (pins_in lib.units cell.items) of_cell.kind_is
