-- How many bytes the names, args and values of a group have.

use Rattle.std.specs.Prelude.{ℕ, ◌+◌, length}
use Rattle.std.specs.List.{sum, sum_by}
use Rattle.gs_libtree.specs.declared.tree.Node.{Node}
use Rattle.gs_libtree.specs.declared.tree.Item.TheOpen.{Item-F, Node-F}
use Rattle.gs_libtree.specs.declared.tree.Item.TheFolds.{fold-Node}

-- of an item, given the bytes of a group in it
abbrev pub item_bytes : Item-F ℕ ℕ → ℕ
item_bytes (Item-F.Simple name value) = length name + length value
item_bytes (Item-F.Complex name values) = length name + sum_by length values
item_bytes (Item-F.Sub group) = group

-- of a group, given the bytes of each of its items
abbrev pub group_bytes : Node-F ℕ ℕ → ℕ
group_bytes g = length g.name + sum_by length g.args + sum g.items

-- of a group with all that is in it
abbrev pub bytes_of : Node → ℕ
bytes_of = fold-Node ℕ ℕ item_bytes group_bytes
