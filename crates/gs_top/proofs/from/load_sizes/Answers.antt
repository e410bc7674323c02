use Rattle.gs_design.specs.Parts.{parts_of}
use Rattle.gs_sizes.specs.Sizes.{IsSizes}
use Rattle.gs_top.specs.Start.{SizesCause}
use Rattle.gs_top.proofs.Stages.{goes_on, settled_on, stops}
use Rattle.gs_top.proofs.from.load_sizes.Goals as goal

pub returns-in-Ok-clause-work : goal.returns-in-Ok-clause-work
returns-in-Ok-clause-work g c =
    let p = parts_of c.args.design.now in
    goes_on c.in-Ok.ensures.work (settled_on (IsSizes p) (SizesCause p) c.as_slice.ensures c.read_text.ensures.settled)

pub returns-in-Err-clause-work : goal.returns-in-Err-clause-work
returns-in-Err-clause-work g c = stops c.in-Err.ensures.work
