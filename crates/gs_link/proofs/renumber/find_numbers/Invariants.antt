use Rattle.std.proofs.Common.{◌≡◌, ◌≤◌, length, map}
use Rattle.std.specs.List.{range_with_len}
use Rattle.gs_survey.specs.Uses.{kept}
use Rattle.gs_link.proofs.renumber.find_numbers.Given as goal

abbrev pub invariant-loop-net : goal.invariant-loop-net
invariant-loop-net l = record {
  so_far : l.numbers.items ≡ map (λ n. length (kept l.driven l.read n)) (range_with_len 0 l.net);
  next : l.number ≡ length (kept l.driven l.read l.net);
  few : l.number ≤ l.net;
}
