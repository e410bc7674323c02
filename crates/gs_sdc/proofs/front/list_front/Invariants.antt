use Rattle.std.proofs.Common.{◌≡◌, map}
use Rattle.gs_sdc.specs.Front.{list_front}
use Rattle.gs_sdc.specs.Token.{token_of}
use Rattle.gs_sdc.proofs.Lists.{found_at}
use Rattle.gs_sdc.proofs.front.list_front.Given as goal

abbrev pub invariant-loop-i : goal.invariant-loop-i
invariant-loop-i l = found_at l.bytes l.pieces l.i ≡ list_front (map (token_of l.bytes) l.pieces)
