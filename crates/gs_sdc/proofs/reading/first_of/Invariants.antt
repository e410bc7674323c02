use Rattle.std.proofs.Common.{◌≡◌, ℕ, List, drop, map}
use Rattle.gs_sdc.specs.Command.{first_of}
use Rattle.gs_sdc.specs.Reads.{part_of}
use Rattle.gs_sdc.proofs.reading.first_of.Given as goal

abbrev pub invariant-loop-part : goal.invariant-loop-part
invariant-loop-part l = (bytes : List ℕ) → first_of l.slot (map (part_of bytes) (drop l.part-index l.parts)) ≡ first_of l.slot (map (part_of bytes) l.parts)
