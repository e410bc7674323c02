use Rattle.std.proofs.Common.{refl}
use Rattle.gs_design.specs.Parts.{parts_of}
use Rattle.gs_sizes.specs.Refusal.{HasCause}
use Rattle.gs_sizes.specs.Sizes.{IsSizes}
use Rattle.gs_sizes.specs.declared.error.SizesErr.TheVariants.{Mem}
use Rattle.gs_top.specs.Refusal.{sizes_status}
use Rattle.gs_top.proofs.Readers.{read_ok, read_err, sizes_split}
use Rattle.gs_top.proofs.from.read_text.Goals as goal

pub returns-in-Ok-clause-settled : goal.returns-in-Ok-clause-settled
returns-in-Ok-clause-settled c =
    let p = parts_of c.args.design.now in
    read_ok Mem sizes_status (IsSizes p c.args.bytes.now) (HasCause p c.args.bytes.now) c.in-Ok.sizes c.in-Ok.ensures.ok c.in-Ok.ensures.only c.in-Ok.ensures.exact

pub returns-in-Err-clause-settled : goal.returns-in-Err-clause-settled
returns-in-Err-clause-settled c =
    let p = parts_of c.args.design.now in
    read_err Mem sizes_status (IsSizes p c.args.bytes.now) (HasCause p c.args.bytes.now) c.in-Err.error c.sizes_status.result c.sizes_status.ensures c.in-Err.ensures.exact refl (sizes_split c.in-Err.error) c.in-Err.ensures.err c.in-Err.ensures.only
