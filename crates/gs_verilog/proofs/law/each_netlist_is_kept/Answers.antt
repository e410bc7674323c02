use Rattle.gs_verilog.proofs.Solid.{netlist_kept}
use Rattle.gs_verilog.proofs.law.each_netlist_is_kept.Goals as goal

pub returns : goal.returns
returns c bytes circuit read = netlist_kept c.each_text_is_cut_alone.ensures bytes circuit read
