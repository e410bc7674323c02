use Rattle.std.proofs.Common.{◌≡◌, length}
use Rattle.std.specs.BTreeMap.{IsEmpty}
use Rattle.std.specs.List.{All}
use Rattle.gs_names.proofs.names.empty_buckets.Given as goal

abbrev pub invariant-loop : goal.invariant-loop
invariant-loop g l = record {
  count : length l.buckets.items ≡ l.counter;
  empty : All IsEmpty l.buckets.items;
}
