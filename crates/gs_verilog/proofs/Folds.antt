-- The circuit that a tree makes, item by item and name by name: what the machine does, over whole trees.

use Rattle.std.proofs.Common.{ℕ, List, [], ◌∷◌}
use Rattle.gs_verilog.specs.Circuit.{Circuit}
use Rattle.gs_verilog.specs.Machine.{declared, with_inst, connected, empty}
use Rattle.gs_verilog.specs.Token.{Token}
use Rattle.gs_verilog.specs.Tree.{Connection, Item, Declaration, Instance, Tree}
use Rattle.gs_verilog.specs.declared.machine.Role.{Role}

abbrev pub names_into : Role → Circuit → List Token → Circuit
names_into role c [] = c
names_into role c (t ∷ ts) = names_into role (declared role c t.text) ts

abbrev pub links_into : Circuit → List Connection → Circuit
links_into c [] = c
links_into c (x ∷ xs) = links_into (connected c x.pin.text x.net.text) xs

abbrev pub item_into : Circuit → Item → Circuit
item_into c (Declaration role t ts) = names_into role c (t ∷ ts)
item_into c (Instance cell name cs) = links_into (with_inst c cell.text name.text) cs

abbrev pub items_into : Circuit → List Item → Circuit
items_into c [] = c
items_into c (i ∷ is) = items_into (item_into c i) is

abbrev pub titled : Circuit → List ℕ → Circuit
titled c name = record c { name = name }

abbrev pub tree_into : Tree → Circuit
tree_into t = items_into (titled empty t.name.text) t.items
