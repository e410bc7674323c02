-- Attributes and groups of a Liberty group, by name.
--
-- Each attribute has one form, simple or complex, and one of the other form is another attribute. Of an attribute given
-- twice in one group the last counts, and so of two groups where one is asked for.

use Rattle.std.specs.Prelude.{ℕ, List, [], ◌∷◌, Option, None, Some, if◌then◌else◌}
use Rattle.std.specs.List.{filter_map}
use Rattle.std.specs.Option.{option_or}
use Rattle.std.specs.Str.{bytes_eq}
use Rattle.gs_libtree.specs.declared.tree.Node.{Node}
use Rattle.gs_libtree.specs.declared.tree.Item.{Item, out-Item}
use Rattle.gs_libtree.specs.declared.tree.Item.TheOpen.{Item-F}

-- what the last element gives that gives something
abbrev pub last_some : {T X : Type 0} → (T → Option X) → List T → Option X
last_some f [] = None
last_some f (x ∷ xs) = option_or (last_some f xs) (f x)

-- the value of an item that is a simple attribute of the name
abbrev pub simple_in : (name : List ℕ) → Item-F Item Node → Option (List ℕ)
simple_in name (Item-F.Simple n v) = if bytes_eq name n then Some v else None
simple_in name (Item-F.Complex n vs) = None
simple_in name (Item-F.Sub g) = None

abbrev pub simple_value : (name : List ℕ) → Item → Option (List ℕ)
simple_value name i = simple_in name (out-Item i)

-- the values of an item that is a complex attribute of the name
abbrev pub complex_in : (name : List ℕ) → Item-F Item Node → Option (List (List ℕ))
complex_in name (Item-F.Simple n v) = None
complex_in name (Item-F.Complex n vs) = if bytes_eq name n then Some vs else None
complex_in name (Item-F.Sub g) = None

abbrev pub complex_value : (name : List ℕ) → Item → Option (List (List ℕ))
complex_value name i = complex_in name (out-Item i)

-- an item that is a group of the name
abbrev pub named_group : (name : List ℕ) → Item-F Item Node → Option Node
named_group name (Item-F.Simple n v) = None
named_group name (Item-F.Complex n vs) = None
named_group name (Item-F.Sub g) = if bytes_eq name g.name then Some g else None

abbrev pub group_in : (name : List ℕ) → Item → Option Node
group_in name i = named_group name (out-Item i)

-- the value of the simple attribute of the name, and the values of the complex one
abbrev pub last_simple : (name : List ℕ) → List Item → Option (List ℕ)
last_simple name items = last_some (simple_value name) items

abbrev pub last_complex : (name : List ℕ) → List Item → Option (List (List ℕ))
last_complex name items = last_some (complex_value name) items

-- the last group of the name, and all of them in order
abbrev pub last_group : (name : List ℕ) → List Item → Option Node
last_group name items = last_some (group_in name) items

abbrev pub groups_in : (name : List ℕ) → List Item → List Node
groups_in name items = filter_map (group_in name) items

-- the first of some words, empty where there is none
abbrev pub first_of : List (List ℕ) → List ℕ
first_of [] = []
first_of (word ∷ words) = word

-- the name that a group is given: the first of its args
abbrev pub label_of : Node → List ℕ
label_of g = first_of g.args
