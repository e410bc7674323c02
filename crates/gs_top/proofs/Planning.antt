-- From the stages of a command to its plan.
use Rattle.std.proofs.Common.{◌≡◌, refl, ℕ, List, Option, Ok, Err, ap}
use Rattle.gs_top.specs.Answer.{Seen, ByMemory, Works}
use Rattle.gs_top.specs.Command.{Command, Prepares, check, check_plan, size, size_plan}
use Rattle.gs_top.specs.Plan.{outputs_in}
use Rattle.gs_design.specs.declared.design.Design.{Design}
use Rattle.gs_design.specs.declared.time.NetTime.{NetTime}
use Rattle.gs_report.specs.declared.run.Log.{Log}
use Rattle.gs_top.specs.declared.job.SizeJob.{SizeJob}
use Rattle.gs_top.specs.declared.plan.Plan.{Plan}
use Rattle.gs_top.specs.declared.status.Input.{Input}
use Rattle.gs_top.specs.declared.status.Status.{Status}
use Rattle.gs_top.specs.declared.status.Status.TheVariants.{OutOfMemory}

-- the outputs and the success of a plan are the command's, whatever it was made of
pub record Allowed (c : Command) (plan : Plan) : Type 0 where
  pub outputs : outputs_in plan.texts ≡ c.outputs
  pub success : c.succeeds plan.success

module _ {tells : Type 0} {names : Input → List ℕ} {old new : Seen} (c : Command) where
  pub plans : {made : c.Made} (plan : Plan) → Allowed c plan → Works tells c.work names old new (Ok made) → c.plans made plan → Prepares tells c names old new (Ok plan)
  plans {made = made} plan a h is = record {
    stay = h.stay;
    said = h.said;
    later = h.later;
    answer =
        (h.answer.0, record { outputs = a.outputs; success = a.success; plan_of = λ t. record { made = made; is = h.answer.1 t; allowed = is } });
  }

  -- the stages stopped
  pub no_plan : {s : Status} → Works tells c.work names old new (Err s) → Prepares tells c names old new (Err s)
  no_plan h = record { stay = h.stay; said = h.said; later = h.later; answer = h.answer }

  -- there is no memory for the texts
  pub no_room : {made : c.Made} → Works tells c.work names old new (Ok made) → Prepares tells c names old new (Err OutOfMemory)
  no_room h = record { stay = h.stay; said = h.said; later = h.later; answer = ByMemory refl h.answer.0 }

pub size_allows : (j : SizeJob) (d : Design) (s : List ℕ) (l : Log) (plan : Plan) → plan ≡ size_plan d s j.workers l → Allowed (size j) plan
size_allows j d s l plan is = record {
  outputs = ap (λ p. outputs_in p.texts) is;
  success = (_, _, _, _, ap (λ p. p.success) is);
}

pub check_allows : (from : Option (List ℕ)) (d : Design) (s : List ℕ) (t : List NetTime) (plan : Plan) → plan ≡ check_plan d s t → Allowed (check from) plan
check_allows from d s t plan is = record {
  outputs = ap (λ p. outputs_in p.texts) is;
  success = (_, _, ap (λ p. p.success) is);
}
