use Rattle.std.proofs.Common.{◌≡◌, ◌≤◌, ◌+◌, ◌-◌, take}
use Rattle.std.specs.List.{suffix_len}
use Rattle.gs_explain.specs.Place.{stays}
use Rattle.gs_explain.proofs.place.bytes_before.Given as goal

abbrev pub invariant-loop-start : goal.invariant-loop-start
invariant-loop-start l = record {
  upto : l.start ≤ l.at;
  left : suffix_len stays (take l.at l.bytes) ≡ (l.at - l.start) + suffix_len stays (take l.start l.bytes);
}

abbrev pub decreases-loop-start : goal.decreases-loop-start
decreases-loop-start l = l.start
