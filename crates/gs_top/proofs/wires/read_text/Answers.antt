use Rattle.std.proofs.Common.{refl}
use Rattle.gs_spef.specs.Refusal.{HasCause}
use Rattle.gs_spef.specs.Spef.{IsSpef}
use Rattle.gs_spef.specs.declared.error.SpefErr.TheVariants.{Mem}
use Rattle.gs_top.specs.Refusal.{spef_status}
use Rattle.gs_top.proofs.Readers.{read_ok, read_err, spef_split}
use Rattle.gs_top.proofs.wires.read_text.Goals as goal

pub returns-in-Ok : goal.returns-in-Ok
returns-in-Ok c =
    read_ok Mem spef_status (IsSpef c.args.bytes.now) (HasCause c.args.bytes.now) c.in-Ok.wires c.in-Ok.ensures.ok c.in-Ok.ensures.only c.in-Ok.ensures.exact

pub returns-in-Err : goal.returns-in-Err
returns-in-Err c =
    read_err Mem spef_status (IsSpef c.args.bytes.now) (HasCause c.args.bytes.now) c.in-Err.error c.spef_status.result c.spef_status.ensures c.in-Err.ensures.exact refl (spef_split c.in-Err.error) c.in-Err.ensures.err c.in-Err.ensures.only
