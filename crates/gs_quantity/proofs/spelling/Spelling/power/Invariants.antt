use Rattle.std.proofs.Common.{◌≡◌, take, min}
use Rattle.std.specs.Str.Parse.{digits_value}
use Rattle.gs_quantity.proofs.spelling.Spelling.power.Given as goal

abbrev pub invariant-loop-byte : goal.invariant-loop-byte
invariant-loop-byte l = l.power ≡ min (digits_value 10 (take l.byte-index l.byte-items)) 18446744073709551615
