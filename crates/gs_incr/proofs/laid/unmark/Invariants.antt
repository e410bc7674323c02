use Rattle.std.proofs.Common.{◌≡◌, ◌<◌, ℕ, length, slice_index}
use Rattle.gs_incr.proofs.laid.unmark.Given as goal

abbrev pub invariant-loop-i : goal.invariant-loop-i
invariant-loop-i l = (length l.marks.items ≡ length l.initial.marks.items) × ((n : ℕ) → n < l.i → slice_index l.marks.items n ≡ 0)
