use Rattle.std.proofs.Common.{◌≡◌, ◌*◌, ◌≤◌, drop, length, map, take}
use Rattle.std.specs.List.{flat_map, sum_by}
use Rattle.gs_link.specs.Columns.{BeginsWith, new_inputs}
use Rattle.gs_link.proofs.columns.find_new_inputs.Given as goal

abbrev pub invariant-loop-i : goal.invariant-loop-i
invariant-loop-i l = record {
  so_far : l.all ≡ map (new_inputs l.cells l.numbers) (take l.i l.insts);
  few : sum_by length l.all ≤ 6 * l.i;
  within : l.start ≤ length l.nets.items;
  left : BeginsWith (flat_map (new_inputs l.cells l.numbers) (drop l.i l.insts)) (drop l.start l.nets.items);
}
