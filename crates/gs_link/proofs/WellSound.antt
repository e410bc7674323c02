-- What it says of each place that nothing is refused.

use Rattle.std.proofs.Common.{◌≡◌, ◌∙◌, ap, sym, refl, ℕ, ◌<◌, ◌≤◌, List, [], All, length, get_or, slice_index_or, Bool, true, false, ◌&&◌, not, nat_lt, Option, None, if◌then◌else◌, arith}
use Rattle.std.specs.List.{range_with_len}
use Rattle.std.proofs.lemmas.List.FromFn.{get_or-range_with_len, length-range_with_len}
use Rattle.gs_design.specs.Cell.{is_gate, no_pin, output_place, pin_at}
use Rattle.gs_design.specs.Cells.{cell_at}
use Rattle.gs_design.specs.Design.{HasAllArcs, has_arc}
use Rattle.gs_design.specs.declared.cell.Cell.{Cell}
use Rattle.gs_design.specs.declared.library.Library.{Library}
use Rattle.gs_list.specs.Keys.{count_of}
use Rattle.gs_survey.specs.Counts.{arc_fault, count_fault, no_arc, no_arc_at, pin_count, size_fault, too_many, used_cells}
use Rattle.gs_survey.specs.First.{first_some, or_else}
use Rattle.gs_survey.specs.Instances.{cell_named, cell_number, cell_of, has_cell, inst_fault, is_connected, open_at, open_pin, unknown_cell, unknown_driving_cell, unknown_driving_pin, unknown_pin}
use Rattle.gs_survey.specs.Limits.{limit_fault}
use Rattle.gs_survey.specs.Fault.{first_fault}
use Rattle.gs_survey.specs.Numbers.{is_one_of, net_name}
use Rattle.gs_survey.specs.Uses.{driven, net_fault, read, two_drivers, undriven}
use Rattle.gs_survey.specs.declared.error.Counted.{Counted}
use Rattle.gs_survey.specs.declared.error.Counted.TheVariants.{Instances, Nets, Pins}
use Rattle.gs_survey.specs.declared.error.LinkErr.{LinkErr}
use Rattle.gs_survey.specs.declared.error.LinkErr.TheVariants as errors
use Rattle.gs_link.proofs.WellLists.{is_one, lt_is, none_at, not_lt, one_of, or_first, or_later, unless, where_not}
use Rattle.gs_sdc.specs.Terms.{Terms}
use Rattle.gs_sdc.specs.declared.constraints.DriverSpec.{DriverSpec}
use Rattle.gs_spef.specs.declared.wires.Wire.{Wire}
use Rattle.gs_verilog.specs.Circuit.{Circuit}
use Rattle.gs_verilog.specs.declared.parts.RawInst.{RawInst}

abbrev pub no_raw : RawInst
no_raw = record { name = []; cell = []; links = [] }

abbrev pub raw_at : List RawInst → ℕ → RawInst
raw_at insts g = slice_index_or insts g no_raw

-- a driving cell is a gate of the library
pub record IsGateOf (cells : List Cell) (x : ℕ) : Type 0 where
  pub cell_in : x < length cells
  pub gate : is_gate (cell_at cells x).kind ≡ true

-- what no refusal says
pub record IsSound (cells : List Cell) (c : Circuit) (drivers : List DriverSpec) : Type 0 where
  pub known : (g : ℕ) → g < length c.insts → cell_number cells (raw_at c.insts g).cell < length cells
  pub connected : (g p : ℕ) → g < length c.insts → p < length (cell_of cells (raw_at c.insts g)).pins → is_connected (raw_at c.insts g).links (pin_at (cell_of cells (raw_at c.insts g)).pins p).name ≡ true
  pub gates : All (λ d. IsGateOf cells (cell_number cells d.cell)) drivers
  pub one_driver : (n : ℕ) → n < length c.nets → count_of (driven cells c) n ≤ 1
  pub some_driver : (n : ℕ) → n < length c.nets → 1 ≤ count_of (read cells c) n → 1 ≤ count_of (driven cells c) n
  pub arcs : All (λ x. is_gate (cell_at cells x).kind ≡ true → HasAllArcs (cell_at cells x)) (used_cells cells c.insts drivers)
  pub few_insts : length c.insts < 2097152
  pub few_nets : length c.nets < 4194304
  pub few_pins : pin_count cells c.insts < 8388608

both_first : (a b : Bool) → (a && b) ≡ true → a ≡ true
both_first true b h = refl
both_first false b h = h

both_second : (a b : Bool) → (a && b) ≡ true → b ≡ true
both_second true b h = h
both_second false b h = let never : false ≡ true = h in absurd cc

either : (a b : Bool) → (a && not b) ≡ false → a ≡ true → b ≡ true
either true true h e = refl
either true false h e = let never : true ≡ false = h in absurd cc
either false b h e = let never : false ≡ true = e in absurd cc

fewer : (what : Counted) (limit count : ℕ) → too_many what limit count ≡ None → count < limit
fewer what limit count e = lt_is count limit (unless (nat_lt count limit) (errors.TooMany what count) e)

-- over numbers
none_of : (f : ℕ → Option LinkErr) (count n : ℕ) → first_some f (range_with_len 0 count) ≡ None → n < count → f n ≡ None
none_of f count n e lt =
    ap f (sym (get_or-range_with_len 0 count n 0 lt ∙ omega arith)) ∙ none_at f (range_with_len 0 count) n 0 e (omega (arith, length-range_with_len 0 count))

-- a gate without a missing arc
arcs_by : (c : Cell) (b : Bool) → (if b then first_some (no_arc_at c) (range_with_len 0 (output_place c.pins)) else None) ≡ None → b ≡ true → HasAllArcs c
arcs_by c true e h p lt = unless (has_arc c.arcs p) (errors.NoArc c.name (pin_at c.pins p).name) (none_of (no_arc_at c) (output_place c.pins) p e (omega arith))
arcs_by c false e h p lt = absurd cc

module _ (cells : List Cell) (c : Circuit) (drivers : List DriverSpec) (insts_none : inst_fault cells c.insts drivers ≡ None) (nets_none : net_fault cells c ≡ None)
    (arcs_none : arc_fault cells c.insts drivers ≡ None) (counts_none : count_fault cells c ≡ None) where
  abbrev cells_none : Option LinkErr
  cells_none = first_some (unknown_cell cells) c.insts

  abbrev gates_none : Option LinkErr
  gates_none = first_some (unknown_driving_cell cells) drivers

  abbrev pins_none : Option LinkErr
  pins_none = first_some (unknown_pin cells) c.insts

  abbrev outputs_none : Option LinkErr
  outputs_none = first_some (unknown_driving_pin cells) drivers

  abbrev open_none : Option LinkErr
  open_none = first_some (open_pin cells) c.insts

  after_cells : or_else gates_none (or_else pins_none (or_else outputs_none open_none)) ≡ None
  after_cells = or_later cells_none (or_else gates_none (or_else pins_none (or_else outputs_none open_none))) insts_none

  after_gates : or_else pins_none (or_else outputs_none open_none) ≡ None
  after_gates = or_later gates_none (or_else pins_none (or_else outputs_none open_none)) after_cells

  none_open : open_none ≡ None
  none_open = or_later outputs_none open_none (or_later pins_none (or_else outputs_none open_none) after_gates)

  sound_known : (g : ℕ) → g < length c.insts → cell_number cells (raw_at c.insts g).cell < length cells
  sound_known g lt =
      let here : unknown_cell cells (raw_at c.insts g) ≡ None = none_at (unknown_cell cells) c.insts g no_raw (or_first cells_none (or_else gates_none (or_else pins_none (or_else outputs_none open_none))) insts_none) lt in
      lt_is (cell_number cells (raw_at c.insts g).cell) (length cells) (unless (has_cell cells (raw_at c.insts g).cell) (errors.UnknownCell (raw_at c.insts g).name) here)

  sound_connected : (g p : ℕ) → g < length c.insts → p < length (cell_of cells (raw_at c.insts g)).pins → is_connected (raw_at c.insts g).links (pin_at (cell_of cells (raw_at c.insts g)).pins p).name ≡ true
  sound_connected g p lt in_p =
      let i = raw_at c.insts g in
      let pins : open_pin cells i ≡ None = none_at (open_pin cells) c.insts g no_raw none_open lt in
      let here : open_at i (pin_at (cell_of cells i).pins p) ≡ None = none_at (open_at i) (cell_of cells i).pins p no_pin pins in_p in
      unless (is_connected i.links (pin_at (cell_of cells i).pins p).name) (errors.OpenPin i.name (pin_at (cell_of cells i).pins p).name) here

  sound_gates : All (λ d. IsGateOf cells (cell_number cells d.cell)) drivers
  sound_gates j d lt =
      let s = get_or drivers j d in
      let here : unknown_driving_cell cells s ≡ None = none_at (unknown_driving_cell cells) drivers j d (or_first gates_none (or_else pins_none (or_else outputs_none open_none)) after_cells) lt in
      let both : has_cell cells s.cell && is_gate (cell_named cells s.cell).kind ≡ true = unless (has_cell cells s.cell && is_gate (cell_named cells s.cell).kind) (errors.UnknownCell s.port) here in
      record {
        cell_in = lt_is (cell_number cells s.cell) (length cells) (both_first (has_cell cells s.cell) (is_gate (cell_named cells s.cell).kind) both);
        gate = both_second (has_cell cells s.cell) (is_gate (cell_named cells s.cell).kind) both;
      }

  abbrev two_none : Option LinkErr
  two_none = first_some (two_drivers c.nets (driven cells c)) (range_with_len 0 (length c.nets))

  abbrev undriven_none : Option LinkErr
  undriven_none = first_some (undriven c.nets (driven cells c) (read cells c)) (range_with_len 0 (length c.nets))

  sound_one : (n : ℕ) → n < length c.nets → count_of (driven cells c) n ≤ 1
  sound_one n lt =
      not_lt 1 (count_of (driven cells c) n)
      (where_not (nat_lt 1 (count_of (driven cells c) n)) (errors.TwoDrivers (net_name c.nets n)) (none_of (two_drivers c.nets (driven cells c)) (length c.nets) n (or_first two_none undriven_none nets_none) lt))

  sound_some : (n : ℕ) → n < length c.nets → 1 ≤ count_of (read cells c) n → 1 ≤ count_of (driven cells c) n
  sound_some n lt h =
      one_of (driven cells c) n (either (is_one_of (read cells c) n) (is_one_of (driven cells c) n)
      (where_not (is_one_of (read cells c) n && not (is_one_of (driven cells c) n)) (errors.Undriven (net_name c.nets n))
      (none_of (undriven c.nets (driven cells c) (read cells c)) (length c.nets) n (or_later two_none undriven_none nets_none) lt)) (is_one (read cells c) n h))

  sound_arcs : All (λ x. is_gate (cell_at cells x).kind ≡ true → HasAllArcs (cell_at cells x)) (used_cells cells c.insts drivers)
  sound_arcs j d lt = λ gate.
      let x = get_or (used_cells cells c.insts drivers) j d in
      arcs_by (cell_at cells x) (is_gate (cell_at cells x).kind) (none_at (λ y. no_arc (cell_at cells y)) (used_cells cells c.insts drivers) j d arcs_none lt) gate

  abbrev inst_count : Option LinkErr
  inst_count = too_many Instances 2097152 (length c.insts)

  abbrev net_count : Option LinkErr
  net_count = too_many Nets 4194304 (length c.nets)

  abbrev pins_count : Option LinkErr
  pins_count = too_many Pins 8388608 (pin_count cells c.insts)

  sound_from : IsSound cells c drivers
  sound_from = record {
    known = sound_known;
    connected = sound_connected;
    gates = sound_gates;
    one_driver = sound_one;
    some_driver = sound_some;
    arcs = sound_arcs;
    few_insts = fewer Instances 2097152 (length c.insts) (or_first inst_count (or_else net_count pins_count) counts_none);
    few_nets = fewer Nets 4194304 (length c.nets) (or_first net_count pins_count (or_later inst_count (or_else net_count pins_count) counts_none));
    few_pins = fewer Pins 8388608 (pin_count cells c.insts) (or_later net_count pins_count (or_later inst_count (or_else net_count pins_count) counts_none));
  }

pub sound : (c : Circuit) (l : Library) (w : List Wire) (k : Terms) → first_fault c l w k ≡ None → IsSound l.cells c k.drivers
sound c l w k e =
    let insts = inst_fault l.cells c.insts k.drivers in
    let nets = net_fault l.cells c in
    let limits = limit_fault c w k in
    let sizes = size_fault l.cells c k in
    let second : or_else nets (or_else limits sizes) ≡ None = or_later insts (or_else nets (or_else limits sizes)) e in
    let last : sizes ≡ None = or_later limits sizes (or_later nets (or_else limits sizes) second) in
    sound_from l.cells c k.drivers (or_first insts (or_else nets (or_else limits sizes)) e) (or_first nets (or_else limits sizes) second)
    (or_first (arc_fault l.cells c.insts k.drivers) (count_fault l.cells c) last)
    (or_later (arc_fault l.cells c.insts k.drivers) (count_fault l.cells c) last)
