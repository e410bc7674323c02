use Rattle.std.proofs.Common.{◌≡◌, ◌-◌, ◌≤◌, List, length}
use Rattle.gs_text.specs.Cutter.{Agrees, IsPlace, left}
use Rattle.gs_text.specs.declared.kinds.Piece.{Piece}
use Rattle.gs_text.proofs.cutter.next_piece.Given as goal

abbrev pub invariant-loop-here : goal.invariant-loop-here
invariant-loop-here l = record {
  place : IsPlace l.bytes l.here;
  further : l.fn.place.at ≤ l.here.at;
  agrees : (before : List Piece) → Agrees l.bytes before l.fn.place → Agrees l.bytes before l.here;
  same : (before : List Piece) → Agrees l.bytes before l.fn.place → left l.style l.bytes before l.fn.place ≡ left l.style l.bytes before l.here;
}

abbrev pub decreases-loop-here : goal.decreases-loop-here
decreases-loop-here l = length l.bytes - l.here.at
