use Rattle.std.proofs.Common.{◌≡◌, ◌+◌, ◌<◌, drop}
use Rattle.std.specs.Prelude.{◌*◌, ◌%◌, fold}
use Rattle.gs_lib.specs.Classes.{group_of}
use Rattle.gs_lib.proofs.classes.group_of.Given as goal

abbrev pub invariant-loop-byte : goal.invariant-loop-byte
invariant-loop-byte l = record {
  value : fold (λ group byte. (group * 31 + byte) % l.groups) l.group (drop l.byte-index l.footprint) ≡ group_of l.groups l.footprint;
  below : l.group < l.groups;
}
