use Rattle.std.proofs.Common.{◌≡◌, ◌≤◌, length}
use Rattle.std.specs.List.{flat_map, range_with_len}
use Rattle.gs_sizes.specs.Written.{line_text}
use Rattle.gs_sizes.proofs.write.write_sizes.Given as goal

abbrev pub invariant-loop-inst : goal.invariant-loop-inst
invariant-loop-inst l =
    (l.text.items ≡ flat_map (line_text l.design l.sizes) (range_with_len 0 l.inst)) × (l.inst ≤ length l.design.insts)
