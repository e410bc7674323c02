use Rattle.std.proofs.Common.{◌≡◌, ◌≤◌, ◌<◌, ℕ, false}
use Rattle.gs_locate.specs.Found.{passes}
use Rattle.gs_locate.specs.Statement.{start_of}
use Rattle.gs_locate.proofs.search.first_of.Given as goal

abbrev pub invariant-loop-at : goal.invariant-loop-at
invariant-loop-at g l = record {
  start : l.start ≡ start_of l.style l.bytes l.pieces l.at;
  within : l.start ≤ l.at;
  inside : l.at ≤ l.at-end;
  before : (k : ℕ) → k < l.at → passes (g.S.Sought.test l.sought) l.style l.bytes l.pieces k ≡ false;
}
