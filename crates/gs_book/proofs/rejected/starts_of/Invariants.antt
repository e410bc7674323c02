use Rattle.std.proofs.Common.{◌≡◌, ◌<◌, ◌≤◌, ◌*◌, ℕ, length, slice_index}
use Rattle.gs_book.specs.Noted.{alts_before}
use Rattle.gs_book.proofs.rejected.starts_of.Given as goal

abbrev pub invariant-loop-number : goal.invariant-loop-number
invariant-loop-number l =
    (l.number ≤ l.count) × (l.start ≡ alts_before l.design.insts l.number) × (l.start ≤ 1024 * l.number) × (length l.starts.items ≡ l.number)
    × ((g : ℕ) → g < l.number → slice_index l.starts.items g ≡ alts_before l.design.insts g)
