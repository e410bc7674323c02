use Rattle.std.proofs.Common.{◌≡◌, ℕ, get_or, length, min, take}
use Rattle.gs_list.specs.Keys.{count_of}
use Rattle.gs_survey.proofs.tally.counts_of.Given as goal

abbrev pub invariant-loop-i : goal.invariant-loop-i
invariant-loop-i l = record {
  many : length l.counts.items ≡ l.limit;
  each : (n : ℕ) → get_or l.counts.items n 0 ≡ min 255 (count_of (take l.i l.numbers) n);
}
