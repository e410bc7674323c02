use Rattle.std.proofs.Common.{◌-◌, ◌≤◌, length}
use Rattle.gs_text.specs.Cutter.{IsPlace}
use Rattle.gs_drive.proofs.Driving.{SoFar}
use Rattle.gs_drive.proofs.driver.run_text.Given as goal

abbrev pub invariant-loop-piece : goal.invariant-loop-piece
invariant-loop-piece g l = record {
  place : IsPlace l.bytes l.place;
  few : l.count ≤ l.place.at;
  keeps : g.M.Machine.Keeps l.machine;
  so_far : SoFar l.style l.bytes g.M.Machine.token g.M.Machine.step g.M.Machine.begin l.place l.count (g.M.Machine.state l.machine);
}

abbrev pub decreases-loop-piece : goal.decreases-loop-piece
decreases-loop-piece g l = length l.bytes - l.place.at
