use Rattle.std.proofs.Common.{sym, subst}
use Rattle.gs_top.specs.Job.{output_of}
use Rattle.gs_top.specs.Plan.{AllDiffer}
use Rattle.gs_top.proofs.Forms.{outputs_differ}
use Rattle.gs_top.proofs.Acting.{stored, stopped}
use Rattle.gs_top.specs.declared.job.Job.TheVariants.{Size}
use Rattle.gs_top.proofs.program.act_size.Goals as goal

pub returns-in-Ok : goal.returns-in-Ok
returns-in-Ok g c =
    stored g.H.Shelf.tells (Size c.args.job.now) _ _ c.store_plan.result _ c.in-Ok.plan c.in-Ok.ensures c.store_plan.ensures

pub returns-in-Err : goal.returns-in-Err
returns-in-Err g c = stopped g.H.Shelf.tells (Size c.args.job.now) _ _ c.in-Err.status c.in-Err.ensures

pub store_plan-requires : goal.store_plan-requires
store_plan-requires g c =
    subst (AllDiffer (output_of (Size c.args.job.now))) (sym c.in-Ok.ensures.answer.1.outputs) (outputs_differ c.args.job.now c.requires)
