use Rattle.std.proofs.Common.{◌≡◌, ◌≤◌, ℕ, List, drop, length}
use Rattle.std.specs.List.{position_from}
use Rattle.std.specs.Str.{bytes_eq}
use Rattle.gs_names.specs.Names.{HasBuckets, find}
use Rattle.gs_sizes.proofs.names.inst_names.Given as goal

abbrev pub invariant-loop-inst : goal.invariant-loop-inst
invariant-loop-inst l = record {
  within : l.inst ≤ length l.design.insts;
  buckets : HasBuckets l.names;
  finds : (q : List ℕ) → find l.names q ≡ position_from (λ i. bytes_eq i.name q) l.inst (drop l.inst l.design.insts);
}
