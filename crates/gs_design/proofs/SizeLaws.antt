-- The sizes of the netlist fit.

use Rattle.std.proofs.Common.{◌≡◌, ℕ, ◌<◌, map, length, slice_index, sym, ◌∙◌, ap, subst}
use Rattle.std.proofs.lemmas.List.{length-map}
use Rattle.std.proofs.Math.ListN.{get_or-map}
use Rattle.gs_design.specs.Insts.{inst_at, inst_first, no_inst}
use Rattle.gs_design.specs.Sizes.{FitSizes, netlist_sizes}
use Rattle.gs_design.specs.declared.design.Design.{Design}

pub netlist_fits : (d : Design) → FitSizes d (netlist_sizes d)
netlist_fits d = record {
  as_many = length-map d.insts inst_first;
  places_in = λ g lt. rw (get_or-map inst_first d.insts g no_inst) (d.well.alts g lt).first_in;
}
