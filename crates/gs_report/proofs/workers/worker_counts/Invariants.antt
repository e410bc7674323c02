use Rattle.std.proofs.Common.{◌≡◌, ℕ, ◌+◌, ◌<◌, length, slice_index, take}
use Rattle.gs_move.specs.Entries.{worker_commits}
use Rattle.gs_report.proofs.workers.worker_counts.Given as goal

abbrev pub invariant-loop-entry : goal.invariant-loop-entry
invariant-loop-entry l = record {
  many : length l.counts.items ≡ l.workers + 1;
  each : (w : ℕ) → w < l.workers + 1 → slice_index l.counts.items w ≡ worker_commits (take l.entry-index l.entries) w;
}
