use Rattle.std.proofs.Common.{◌≡◌, ◌≤◌, map, take}
use Rattle.std.specs.BTreeMap.{get}
use Rattle.std.specs.Option.{unwrap_or}
use Rattle.gs_lib.specs.Classes.{Key, key_cmp, key_count}
use Rattle.gs_lib.specs.Draft.{cell_lists}
use Rattle.gs_lib.proofs.classes.has_large_key.Given as goal

abbrev pub invariant-loop-cell : goal.invariant-loop-cell
invariant-loop-cell l = record {
  counted : (q : Key) → unwrap_or (get key_cmp l.counts q) 0 ≡ key_count q (map cell_lists (take l.cell-index l.cells));
  small : (q : Key) → key_count q (map cell_lists (take l.cell-index l.cells)) ≤ 1024;
}
