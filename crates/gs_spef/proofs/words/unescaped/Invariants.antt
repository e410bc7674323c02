use Rattle.std.proofs.Common.{◌≡◌, ◌++◌, drop}
use Rattle.gs_spef.specs.Names.{unescaped, unescaped_past}
use Rattle.gs_spef.proofs.words.unescaped.Given as goal

abbrev pub invariant-loop-byte : goal.invariant-loop-byte
invariant-loop-byte l = l.kept.items ++ unescaped_past l.escaped (drop l.byte-index l.text) ≡ unescaped l.text
