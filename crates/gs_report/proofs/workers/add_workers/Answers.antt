use Rattle.std.proofs.Common.{◌≡◌, ◌+◌, ◌++◌, map, ◌∙◌, ap, arith}
use Rattle.std.specs.List.{flat_map, range_with_len}
use Rattle.gs_move.specs.Entries.{worker_commits}
use Rattle.gs_report.specs.Report.{worker_line, worker_text}
use Rattle.gs_report.proofs.Counts.{count_at, count_many}
use Rattle.gs_report.proofs.Texts.{numbered_more}
use Rattle.gs_report.proofs.workers.add_workers.Goals as goal

pub loop-worker-preserved : goal.loop-worker-preserved
loop-worker-preserved c =
    let es = c.args.entries.now in
    let counts : c.deref-commits-items.result.now ≡ map (worker_commits c.args.entries.now) (range_with_len 0 (c.args.workers + 1)) = c.deref-commits-items.ensures.value ∙ c.in_ok-counts.ensures in
    numbered_more (worker_line es) c.args.text.now.items c.loop-worker.text.items c.add_worker.new.text.items c.loop-worker.worker c.loop-worker.invariant
    (c.in_ok-add_worker.ensures ∙ ap (λ n. c.loop-worker.text.items ++ worker_text c.loop-worker.worker n) (count_at es c.deref-commits-items.result.now (c.args.workers + 1) c.loop-worker.worker counts c.loop-worker-test.true))

pub returns : goal.returns
returns c =
    let counts : c.deref-commits-items.result.now ≡ map (worker_commits c.args.entries.now) (range_with_len 0 (c.args.workers + 1)) = c.deref-commits-items.ensures.value ∙ c.in_ok-counts.ensures in
    let all : c.loop-worker.worker ≡ c.args.workers + 1 = omega (arith, count_many c.args.entries.now c.deref-commits-items.result.now (c.args.workers + 1) counts, c.loop-worker-test.false, c.loop-worker.auto.worker-end) in
    c.loop-worker.invariant ∙ ap (λ n. c.args.text.now.items ++ flat_map (worker_line c.args.entries.now) (range_with_len 0 n)) all
