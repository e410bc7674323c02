use Rattle.std.proofs.Common.{◌≡◌, ◌≤◌}
use Rattle.gs_locate.specs.Found.{passes, passing}
use Rattle.gs_locate.specs.Statement.{start_of}
use Rattle.gs_locate.proofs.search.nth_of.Given as goal

abbrev pub invariant-loop-at : goal.invariant-loop-at
invariant-loop-at g l = record {
  start : l.start ≡ start_of l.style l.bytes l.pieces l.at;
  within : l.start ≤ l.at;
  inside : l.at ≤ l.at-end;
  count : l.before ≡ passing (passes (g.S.Sought.test l.sought) l.style l.bytes l.pieces) l.at;
  few : l.before ≤ l.at;
  more : l.before ≤ l.n;
}
