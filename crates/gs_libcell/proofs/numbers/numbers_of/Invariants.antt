use Rattle.std.proofs.Common.{◌≡◌, [], map, drop}
use Rattle.std.specs.List.{flat_map}
use Rattle.gs_libcell.specs.Number.{gather, number_of}
use Rattle.gs_libcell.specs.Text.{entries_of}
use Rattle.gs_libcell.proofs.numbers.numbers_of.Given as goal

abbrev pub invariant-loop-text : goal.invariant-loop-text
invariant-loop-text l = gather l.numbers.items (map (number_of l.tens) (flat_map entries_of (drop l.text-index l.texts))) ≡ gather [] (map (number_of l.tens) (flat_map entries_of l.texts))
