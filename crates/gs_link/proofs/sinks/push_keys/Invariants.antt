use Rattle.std.proofs.Common.{◌≡◌, ◌++◌, take}
use Rattle.gs_link.proofs.sinks.push_keys.Given as goal

abbrev pub invariant-loop-net : goal.invariant-loop-net
invariant-loop-net l = l.keys.items ≡ l.initial.keys.items ++ take l.net-index l.nets
