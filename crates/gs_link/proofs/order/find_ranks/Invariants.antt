use Rattle.std.proofs.Common.{◌≡◌, ◌==◌, ◌+◌, ◌-◌, ◌<◌, ℕ, drop, get_or, length}
use Rattle.std.specs.List.{position_or_len}
use Rattle.gs_link.proofs.order.find_ranks.Given as goal

abbrev pub invariant-loop-i : goal.invariant-loop-i
invariant-loop-i l = record {
  many : length l.ranks.items ≡ length l.order;
  each : (n : ℕ) → n < length l.order → get_or l.ranks.items n 0 ≡ position_or_len (λ m. m == n) (drop (length l.order - l.i) l.order) + (length l.order - l.i);
}
