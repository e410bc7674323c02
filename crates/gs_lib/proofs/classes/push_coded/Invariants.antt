use Rattle.std.proofs.Common.{◌≡◌, ◌++◌, drop}
use Rattle.gs_lib.specs.Classes.{coded}
use Rattle.gs_lib.proofs.classes.push_coded.Given as goal

abbrev pub invariant-loop-byte : goal.invariant-loop-byte
invariant-loop-byte l = l.code.items ++ coded (drop l.byte-index l.name) ≡ l.initial.code.items ++ coded l.name
