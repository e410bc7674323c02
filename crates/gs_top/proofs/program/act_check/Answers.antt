use Rattle.std.proofs.Common.{sym, subst}
use Rattle.gs_top.specs.Job.{output_of}
use Rattle.gs_top.specs.Plan.{AllDiffer}
use Rattle.gs_top.proofs.Forms.{report_differs}
use Rattle.gs_top.proofs.Acting.{stored, stopped}
use Rattle.gs_top.specs.declared.job.Job.TheVariants.{Check}
use Rattle.gs_top.proofs.program.act_check.Goals as goal

pub returns-in-Ok : goal.returns-in-Ok
returns-in-Ok g c =
    stored g.H.Shelf.tells (Check c.args.job.now) _ _ c.store_plan.result _ c.in-Ok.plan c.in-Ok.ensures c.store_plan.ensures

pub returns-in-Err : goal.returns-in-Err
returns-in-Err g c = stopped g.H.Shelf.tells (Check c.args.job.now) _ _ c.in-Err.status c.in-Err.ensures

pub store_plan-requires : goal.store_plan-requires
store_plan-requires g c =
    subst (AllDiffer (output_of (Check c.args.job.now))) (sym c.in-Ok.ensures.answer.1.outputs) (report_differs c.args.job.now)
