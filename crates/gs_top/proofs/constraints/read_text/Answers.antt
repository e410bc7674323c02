use Rattle.std.proofs.Common.{refl}
use Rattle.gs_sdc.specs.Sdc.{HasCause, IsSdc}
use Rattle.gs_sdc.specs.declared.error.SdcErr.TheVariants.{Mem}
use Rattle.gs_top.specs.Refusal.{sdc_status}
use Rattle.gs_top.proofs.Readers.{read_ok, read_err, sdc_split}
use Rattle.gs_top.proofs.constraints.read_text.Goals as goal

pub returns-in-Ok : goal.returns-in-Ok
returns-in-Ok c =
    read_ok Mem sdc_status (IsSdc c.args.units c.args.bytes.now) (HasCause c.args.units c.args.bytes.now) c.in-Ok.constraints c.in-Ok.ensures.ok c.in-Ok.ensures.only c.in-Ok.ensures.exact

pub returns-in-Err : goal.returns-in-Err
returns-in-Err c =
    read_err Mem sdc_status (IsSdc c.args.units c.args.bytes.now) (HasCause c.args.units c.args.bytes.now) c.in-Err.error c.sdc_status.result c.sdc_status.ensures c.in-Err.ensures.exact refl (sdc_split c.in-Err.error) c.in-Err.ensures.err c.in-Err.ensures.only
