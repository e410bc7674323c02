use Rattle.std.proofs.Common.{◌≡◌, ◌++◌, drop, map, take}
use Rattle.gs_sdc.specs.Reader.{IsValues}
use Rattle.gs_sdc.specs.Reads.{names_of}
use Rattle.gs_sdc.specs.Sdc.{repeats, valued}
use Rattle.gs_sdc.specs.Terms.{value_port}
use Rattle.gs_sdc.proofs.given.Values.give.Given as goal

abbrev pub invariant-loop-piece : goal.invariant-loop-piece
invariant-loop-piece l = record {
  kept : IsValues l.self;
  list : l.self.list.items ≡ l.fn.self.list.items ++ valued l.amount (names_of l.bytes (take l.piece-index l.names));
  again : repeats (map value_port l.self.list.items) (names_of l.bytes (drop l.piece-index l.names)) ≡ repeats (map value_port l.fn.self.list.items) (names_of l.bytes l.names);
}
