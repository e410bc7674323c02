use Rattle.std.proofs.Common.{length, ◌-◌, ◌≤◌, take}
use Rattle.std.specs.Io.KnownBytes.{Consumes}
use Rattle.gs_shelf.proofs.transfer.fill_room.Given as goal

abbrev pub invariant-loop-count : goal.invariant-loop-count
invariant-loop-count g l = record {
  within : l.count ≤ length l.room;
  came : Consumes (g.F.Read.remaining l.fn.reader) (g.F.Read.remaining l.reader) (take l.count l.room);
}

abbrev pub decreases-loop-count : goal.decreases-loop-count
decreases-loop-count g l = length l.initial.room - l.count
