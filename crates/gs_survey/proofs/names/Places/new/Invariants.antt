use Rattle.std.proofs.Common.{◌≡◌, ◌≤◌, ℕ, List, drop, length}
use Rattle.std.specs.List.{position_from}
use Rattle.std.specs.Str.{bytes_eq}
use Rattle.gs_names.specs.Names.{HasBuckets, find}
use Rattle.gs_survey.proofs.names.Places.new.Given as goal

abbrev pub invariant-loop-i : goal.invariant-loop-i
invariant-loop-i g l = record {
  within : l.i ≤ length l.items;
  buckets : HasBuckets l.map;
  finds : (q : List ℕ) → find l.map q ≡ position_from (λ x. bytes_eq q (g.T.Named.name x)) l.i (drop l.i l.items);
}
