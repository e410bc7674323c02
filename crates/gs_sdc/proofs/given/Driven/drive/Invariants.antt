use Rattle.std.proofs.Common.{◌≡◌, ◌++◌, drop, map, take}
use Rattle.std.specs.Option.{option_map}
use Rattle.gs_sdc.specs.Reader.{IsDriven}
use Rattle.gs_sdc.specs.Reads.{names_of, word_is}
use Rattle.gs_sdc.specs.Sdc.{driven, repeats}
use Rattle.gs_sdc.specs.Terms.{driver_port}
use Rattle.gs_sdc.proofs.given.Driven.drive.Given as goal

abbrev pub invariant-loop-piece : goal.invariant-loop-piece
invariant-loop-piece l = record {
  kept : IsDriven l.self;
  list : l.self.list.items ≡ l.fn.self.list.items ++ driven l.driver.cell.now (option_map word_is l.driver.pin) l.driver.rise l.driver.fall (names_of l.bytes (take l.piece-index l.names));
  again : repeats (map driver_port l.self.list.items) (names_of l.bytes (drop l.piece-index l.names)) ≡ repeats (map driver_port l.fn.self.list.items) (names_of l.bytes l.names);
}
