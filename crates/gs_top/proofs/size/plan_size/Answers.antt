use Rattle.std.proofs.Common.{◌≡◌, ◌∙◌, sym, subst}
use Rattle.gs_design.specs.Timing.{timing_of}
use Rattle.gs_move.specs.State.{sizes_now}
use Rattle.gs_top.specs.Command.{run_done, run_texts}
use Rattle.gs_top.specs.Recovery.{IsRecovery, budget_of}
use Rattle.gs_top.proofs.size.plan_size.Goals as goal

pub returns : goal.returns
returns g c =
    let log = c.in_ok-book.log in
    let job = c.args.job.now in
    let d = c.in_ok-book.ensures.design in
    let start = c.in_ok-book.ensures.start in
    let es = c.in_ok-book.ensures.entries in
    let texts =
    c.in_ok-texts.ensures ∙ (λ i. run_texts (d i) (sizes_now (start i) (es i)) (timing_of (d i) (sizes_now (start i) (es i))) job.workers log)
    in
    let success =
    c.in_ok-success.ensures ∙ (λ i. run_done (d i) (sizes_now (start i) (es i)) (timing_of (d i) (sizes_now (start i) (es i))) log)
    in
    (log, subst (λ w. IsRecovery c.args.design c.args.start (budget_of job.budget c.args.design) w log) (sym c.requires.workers) c.in_ok-book.ensures.log, λ i. record { texts = texts i; success = success i })
