use Rattle.std.proofs.Common.{List, ℕ, subst}
use Rattle.std.specs.Prelude.{IfOk}
use Rattle.gs_top.specs.Command.{SizePlans}
use Rattle.gs_top.proofs.size.plan_job.Goals as goal

pub returns : goal.returns
returns g c =
    subst (λ (s : List ℕ). IfOk c.plan_size.result (SizePlans c.args.job.now c.args.design s)) c.in_ok-start.ensures.value c.plan_size.ensures
