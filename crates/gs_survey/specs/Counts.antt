-- The arcs of the cells that a design uses, and how much it may have of each kind.

use Rattle.std.specs.Prelude.{ℕ, List, ◌++◌, map, flat_map, length, sum_by, nat_lt, Option, None, Some, if◌then◌else◌}
use Rattle.std.specs.List.{range_with_len}
use Rattle.gs_design.specs.Alternatives.{alternatives}
use Rattle.gs_design.specs.Cell.{is_gate, output_place, pin_at}
use Rattle.gs_design.specs.Cells.{cell_at}
use Rattle.gs_design.specs.Design.{has_arc}
use Rattle.gs_design.specs.declared.cell.Cell.{Cell}
use Rattle.gs_survey.specs.First.{first_some, or_else}
use Rattle.gs_survey.specs.Instances.{cell_number, cell_of}
use Rattle.gs_survey.specs.declared.error.Counted.{Counted}
use Rattle.gs_survey.specs.declared.error.Counted.TheVariants.{Instances, Nets, Pins}
use Rattle.gs_survey.specs.declared.error.LinkErr.{LinkErr}
use Rattle.gs_survey.specs.declared.error.LinkErr.TheVariants as errors
use Rattle.gs_sdc.specs.Terms.{Terms}
use Rattle.gs_sdc.specs.declared.constraints.DriverSpec.{DriverSpec}
use Rattle.gs_verilog.specs.Circuit.{Circuit}
use Rattle.gs_verilog.specs.declared.parts.RawInst.{RawInst}

-- The cell has no arc from the input at this place.
abbrev pub no_arc_at : Cell → ℕ → Option LinkErr
no_arc_at c p = if has_arc c.arcs p then None else Some (errors.NoArc c.name (pin_at c.pins p).name)

-- The cell is a gate with an input without an arc.
abbrev pub no_arc : Cell → Option LinkErr
no_arc c = if is_gate c.kind then first_some (no_arc_at c) (range_with_len 0 (output_place c.pins)) else None

-- the cells that an instance may take, by number
abbrev pub choices_of : List Cell → RawInst → List ℕ
choices_of cells i = alternatives cells (cell_number cells i.cell)

-- the cells that are used: by instance and then by place among its alternatives, and the driving cells last
abbrev pub used_cells : List Cell → List RawInst → List DriverSpec → List ℕ
used_cells cells insts drivers = flat_map (choices_of cells) insts ++ map (λ d. cell_number cells d.cell) drivers

abbrev pub arc_fault : List Cell → List RawInst → List DriverSpec → Option LinkErr
arc_fault cells insts drivers = first_some (λ x. no_arc (cell_at cells x)) (used_cells cells insts drivers)

-- There aren't fewer of them than the limit.
abbrev pub too_many : Counted → (limit count : ℕ) → Option LinkErr
too_many what limit count = if nat_lt count limit then None else Some (errors.TooMany what count)

-- how many pins are connected: those of the cell of each instance
abbrev pub pin_count : List Cell → List RawInst → ℕ
pin_count cells insts = sum_by (λ i. length (cell_of cells i).pins) insts

-- fewer than 2 ^ 21 instances, 2 ^ 22 nets and 2 ^ 23 connected pins
abbrev pub count_fault : List Cell → Circuit → Option LinkErr
count_fault cells c =
    or_else (too_many Instances 2097152 (length c.insts))
    (or_else (too_many Nets 4194304 (length c.nets))
    (too_many Pins 8388608 (pin_count cells c.insts)))

-- The first refusal of arcs, and then of counts.
abbrev pub size_fault : List Cell → Circuit → Terms → Option LinkErr
size_fault cells c k = or_else (arc_fault cells c.insts k.drivers) (count_fault cells c)
