-- The parts of a design.

use Rattle.gs_design.specs.declared.design.Design.{Design}
use Rattle.gs_design.specs.declared.parts.Parts.{Parts}

abbrev pub parts_of : Design → Parts
parts_of d = record {
  cells = d.cells;
  slew_default = d.slew_default;
  leak_unit = d.leak_unit;
  insts = d.insts;
  nets = d.nets;
  ends = d.ends;
  order = d.order;
  ranks = d.ranks;
  period = d.period;
  area_bound = d.area_bound;
}
