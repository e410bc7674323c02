use Rattle.std.proofs.Common.{◌≡◌, take}
use Rattle.gs_sdc.specs.Reads.{names_of}
use Rattle.gs_sdc.proofs.given.copy_names.Given as goal

abbrev pub invariant-loop-piece : goal.invariant-loop-piece
invariant-loop-piece l = l.names.items ≡ names_of l.bytes (take l.piece-index l.pieces)
