use Rattle.std.proofs.Common.{◌≡◌, ℕ, None, drop, get_or, length, slice_range}
use Rattle.gs_survey.specs.First.{first_some}
use Rattle.gs_survey.specs.Arcs.{no_arc_among, no_arc_of}
use Rattle.gs_survey.proofs.counts.check_used.Given as goal

abbrev pub invariant-loop-i : goal.invariant-loop-i
invariant-loop-i l = record {
  so_far : first_some (no_arc_among l.cells) (drop l.i l.found) ≡ first_some (no_arc_among l.cells) l.found;
  many : length l.ends.items ≡ length l.choices;
  judged : (n : ℕ) → first_some (no_arc_of l.cells) (slice_range l.choices n (get_or l.ends.items n 0)) ≡ None;
}
