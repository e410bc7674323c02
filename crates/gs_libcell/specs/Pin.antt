-- Pins of a cell, as its groups `pin` give them.

use Rattle.std.specs.Prelude.{ℕ, Bool, false, List, [], codes, map, Option, None, Some, if◌then◌else◌}
use Rattle.std.specs.List.{flat_map}
use Rattle.std.specs.Str.{bytes_eq}
use Rattle.gs_libtree.specs.declared.tree.Item.{Item}
use Rattle.gs_libtree.specs.declared.tree.Node.{Node}
use Rattle.gs_libcell.specs.Attribute.{group_in, last_simple}
use Rattle.gs_libcell.specs.Number.{amount_in, narrow}
use Rattle.gs_libcell.specs.Unit.{Tens}
use Rattle.gs_libcell.specs.declared.pin.Direction.{Direction}
use Rattle.gs_libcell.specs.declared.pin.Direction.TheVariants.{Input, Output, Other}
use Rattle.gs_libcell.specs.declared.pin.PinFacts.{PinFacts}
use Rattle.gs_libcell.specs.declared.pin.NamedPin.{NamedPin}

abbrev pub direction_by : Option (List ℕ) → Direction
direction_by None = Other
direction_by (Some text) = if bytes_eq (codes "input") text then Input else if bytes_eq (codes "output") text then Output else Other

-- whether an attribute's value is `true`
abbrev pub is_true_by : Option (List ℕ) → Bool
is_true_by None = false
is_true_by (Some text) = bytes_eq (codes "true") text

abbrev pub is_true : (name : List ℕ) → List Item → Bool
is_true name items = is_true_by (last_simple name items)

-- what a group says of its pins
abbrev pub facts_of : Tens → List Item → PinFacts
facts_of units items = record {
  direction = direction_by (last_simple (codes "direction") items);
  clock = is_true (codes "clock") items;
  cap = narrow (amount_in (codes "capacitance") units.load items);
  max_cap = amount_in (codes "max_capacitance") units.load items;
  max_transition = amount_in (codes "max_transition") units.time items;
}

abbrev pub name_of : NamedPin → List ℕ
name_of p = p.name

abbrev pub is_named : (name : List ℕ) → NamedPin → Bool
is_named name p = bytes_eq name p.name

abbrev pub named : PinFacts → (name : List ℕ) → NamedPin
named facts name = record { name = name; facts = facts }

-- the pins of a group: one for each of its args
abbrev pub pins_of : Tens → Node → List NamedPin
pins_of units g = map (named (facts_of units g.items)) g.args

abbrev pub pins_by : Tens → Option Node → List NamedPin
pins_by units None = []
pins_by units (Some g) = pins_of units g

-- the pins of a cell: those of its items that are groups `pin`, in the order of the file
abbrev pub pins_in : Tens → List Item → List NamedPin
pins_in units items = flat_map (λ i. pins_by units (group_in (codes "pin") i)) items
