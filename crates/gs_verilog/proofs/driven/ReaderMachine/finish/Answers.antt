use Rattle.gs_verilog.specs.Index.{state_of}
use Rattle.gs_verilog.proofs.Reading.{read_kept}
use Rattle.gs_verilog.proofs.driven.ReaderMachine.finish.Goals as goal

pub into_netlist-requires : goal.into_netlist-requires
into_netlist-requires c = read_kept (state_of c.args.self) c.requires.read
