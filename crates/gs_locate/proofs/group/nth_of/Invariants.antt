use Rattle.std.proofs.Common.{◌≡◌, ◌≤◌}
use Rattle.gs_locate.specs.Found.{passing}
use Rattle.gs_locate.specs.Liberty.{nests}
use Rattle.gs_locate.specs.Nest.{IsNested, nest_of}
use Rattle.gs_locate.proofs.group.nth_of.Given as goal

abbrev pub invariant-loop-at : goal.invariant-loop-at
invariant-loop-at g l = record {
  nest : l.nest ≡ nest_of l.bytes l.pieces l.at;
  within : IsNested l.at l.nest;
  inside : l.at ≤ l.at-end;
  count : l.before ≡ passing (nests (g.S.Nested.test l.sought) l.bytes l.pieces) l.at;
  few : l.before ≤ l.at;
  more : l.before ≤ l.n;
}
