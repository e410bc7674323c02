use Rattle.std.proofs.Common.{refl}
use Rattle.gs_verilog.specs.Refusal.{IsVerilog, HasCause}
use Rattle.gs_verilog.specs.declared.error.VerilogErr.TheVariants.{Mem}
use Rattle.gs_top.specs.Refusal.{verilog_status}
use Rattle.gs_top.proofs.Readers.{read_ok, read_err, verilog_split}
use Rattle.gs_top.proofs.netlist.read_text.Goals as goal

pub returns-in-Ok : goal.returns-in-Ok
returns-in-Ok c =
    read_ok Mem verilog_status (IsVerilog c.args.bytes.now) (HasCause c.args.bytes.now) c.in-Ok.netlist c.in-Ok.ensures.ok c.in-Ok.ensures.only c.in-Ok.ensures.exact

pub returns-in-Err : goal.returns-in-Err
returns-in-Err c =
    read_err Mem verilog_status (IsVerilog c.args.bytes.now) (HasCause c.args.bytes.now) c.in-Err.error c.verilog_status.result c.verilog_status.ensures c.in-Err.ensures.exact refl (verilog_split c.in-Err.error) c.in-Err.ensures.err c.in-Err.ensures.only
