use Rattle.std.proofs.Common.{refl}
use Rattle.gs_design.specs.Parts.{parts_of}
use Rattle.gs_top.specs.Command.{size}
use Rattle.gs_top.specs.Design.{design}
use Rattle.gs_top.specs.Stage.{and_then, give}
use Rattle.gs_top.specs.Start.{begun, sized, start_in}
use Rattle.gs_top.proofs.Forms.{no_workers}
use Rattle.gs_top.proofs.Planning.{plans, no_plan, no_room, size_allows}
use Rattle.gs_top.proofs.Stages.{given, goes_on, stops}
use Rattle.gs_top.proofs.size.prepare_size.Goals as goal

pub returns-in-Err : goal.returns-in-Err
returns-in-Err g c =
    let from = c.args.job.now.from in
    no_plan (size c.args.job.now) (stops {a = design} {next = λ p. and_then (start_in from p) (λ s. give (sized p s))} c.in-Err.ensures)

pub returns-in-Err-load_start : goal.returns-in-Err-load_start
returns-in-Err-load_start g c =
    let from = c.args.job.now.from in
    let p = parts_of c.in-Ok.design in
    no_plan (size c.args.job.now) (goes_on {a = design} {next = λ p. and_then (start_in from p) (λ s. give (sized p s))} {v = p} c.in-Ok.ensures
    (stops {a = start_in from p} {next = λ s. give (sized p s)} c.in-Err-load_start.ensures.work))

pub returns-in-Ok-plan_job : goal.returns-in-Ok-plan_job
returns-in-Ok-plan_job g c =
    let from = c.args.job.now.from in
    let p = parts_of c.in-Ok.design in
    let s = c.in-Ok-load_start.start in
    let of = c.in-Ok-plan_job.ensures in
    plans (size c.args.job.now) c.in-Ok-plan_job.plan (size_allows c.args.job.now c.in-Ok.design (begun from c.args.job.now.passes c.in-Ok.design s) of.0 c.in-Ok-plan_job.plan of.2)
    (goes_on {a = design} {next = λ p. and_then (start_in from p) (λ s. give (sized p s))} {v = p} c.in-Ok.ensures
    (goes_on {a = start_in from p} {next = λ s. give (sized p s)} {v = s} c.in-Ok-load_start.ensures.work (given (sized p s))))
    (c.in-Ok.design, refl, of)

pub returns-in-Err-plan_job : goal.returns-in-Err-plan_job
returns-in-Err-plan_job g c =
    let from = c.args.job.now.from in
    let p = parts_of c.in-Ok.design in
    let s = c.in-Ok-load_start.start in
    no_room (size c.args.job.now)
    (goes_on {a = design} {next = λ p. and_then (start_in from p) (λ s. give (sized p s))} {v = p} c.in-Ok.ensures
    (goes_on {a = start_in from p} {next = λ s. give (sized p s)} {v = s} c.in-Ok-load_start.ensures.work (given (sized p s))))

pub plan_job-requires-clause-workers : goal.plan_job-requires-clause-workers
plan_job-requires-clause-workers g c κs within = no_workers c.args.job.now c.requires
