use Rattle.std.proofs.Common.{◌≡◌, ◌≤◌, ℕ, get_or, length, map, take}
use Rattle.gs_lib.specs.Classes.{group_count}
use Rattle.gs_lib.specs.Draft.{cell_lists}
use Rattle.gs_lib.proofs.classes.has_large_group.Given as goal

abbrev pub invariant-loop-cell : goal.invariant-loop-cell
invariant-loop-cell l = record {
  size : length l.counts.items ≡ l.groups;
  counted : (h : ℕ) → get_or l.counts.items h 0 ≡ group_count l.groups h (map cell_lists (take l.cell-index l.cells));
  small : (h : ℕ) → group_count l.groups h (map cell_lists (take l.cell-index l.cells)) ≤ 1024;
}
