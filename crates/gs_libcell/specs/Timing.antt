-- Groups `timing` of a cell's output.

use Rattle.std.specs.Prelude.{ℕ, Bool, true, false, List, [], ◌∷◌, codes, Option, None, Some, if◌then◌else◌}
use Rattle.std.specs.List.{filter_map, flat_map, position}
use Rattle.std.specs.Str.{bytes_eq}
use Rattle.gs_design.specs.declared.arc.Sense.{Sense}
use Rattle.gs_design.specs.declared.arc.Sense.TheVariants as sense
use Rattle.gs_libtree.specs.declared.tree.Item.{Item}
use Rattle.gs_libtree.specs.declared.tree.Node.{Node}
use Rattle.gs_libcell.specs.Attribute.{group_in, last_simple}
use Rattle.gs_libcell.specs.Grid.{GridLists, grid_in, grid_lists}
use Rattle.gs_libcell.specs.Pin.{is_named}
use Rattle.gs_libcell.specs.Template.{Frame}
use Rattle.gs_libcell.specs.Text.{words_of}
use Rattle.gs_libcell.specs.declared.pin.NamedPin.{NamedPin}
use Rattle.gs_libcell.specs.declared.timing.Timing.{Timing}

-- which types of `timing` groups are read: of a flip-flop the rising edges, of a gate the combinational ones
abbrev pub is_read_type : (flop : Bool) → Option (List ℕ) → Bool
is_read_type false None = true
is_read_type false (Some type) = bytes_eq (codes "combinational") type
is_read_type true None = false
is_read_type true (Some type) = bytes_eq (codes "rising_edge") type

abbrev pub is_read : (flop : Bool) → Node → Bool
is_read flop g = is_read_type flop (last_simple (codes "timing_type") g.items)

-- the sense of the arcs
abbrev pub sense_by : (flop : Bool) → Option (List ℕ) → Sense
sense_by true text = sense.Launch
sense_by false None = sense.Both
sense_by false (Some text) =
    if bytes_eq (codes "positive_unate") text then sense.Same
    else if bytes_eq (codes "negative_unate") text then sense.Other
    else sense.Both

-- the inputs that the words of `related_pin` name, as places among the inputs; other words name none
abbrev pub related_by : (inputs : List NamedPin) → Option (List ℕ) → List ℕ
related_by inputs None = []
related_by inputs (Some text) = filter_map (λ word. position (is_named word) inputs) (words_of text)

-- what a `timing` group says
pub record TimingLists : Type 0 where
  pub related : List ℕ
  pub sense : Sense
  pub cell_rise : GridLists
  pub cell_fall : GridLists
  pub rise_transition : GridLists
  pub fall_transition : GridLists

abbrev pub timing_lists : Timing → TimingLists
timing_lists t = record {
  related = t.related;
  sense = t.sense;
  cell_rise = grid_lists t.cell_rise;
  cell_fall = grid_lists t.cell_fall;
  rise_transition = grid_lists t.rise_transition;
  fall_transition = grid_lists t.fall_transition;
}

abbrev pub timing_of : Frame → (flop : Bool) → (inputs : List NamedPin) → List Item → TimingLists
timing_of lib flop inputs items = record {
  related = related_by inputs (last_simple (codes "related_pin") items);
  sense = sense_by flop (last_simple (codes "timing_sense") items);
  cell_rise = grid_in lib (codes "cell_rise") items;
  cell_fall = grid_in lib (codes "cell_fall") items;
  rise_transition = grid_in lib (codes "rise_transition") items;
  fall_transition = grid_in lib (codes "fall_transition") items;
}

-- what a group says that isn't passed over
abbrev pub timings_by : Frame → (flop : Bool) → (inputs : List NamedPin) → Option Node → List TimingLists
timings_by lib flop inputs None = []
timings_by lib flop inputs (Some g) = if is_read flop g then timing_of lib flop inputs g.items ∷ [] else []

-- what the `timing` groups among the items say that aren't passed over, in the order of the file
abbrev pub timings_in : Frame → (flop : Bool) → (inputs : List NamedPin) → List Item → List TimingLists
timings_in lib flop inputs items = flat_map (λ i. timings_by lib flop inputs (group_in (codes "timing") i)) items
