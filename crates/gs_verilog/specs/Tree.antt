-- The form of a netlist: one module, its declarations and instances, as whole trees with their spelling.
--
-- `module name [ ( [ names ] ) ] ; items endmodule`, where an item is `input names ;`, `output names ;`, `wire names ;`
-- or `cell instance ( [ .pin(net), .. ] ) ;`, and names stand between commas.

use Rattle.std.specs.Prelude.{◌≡◌, List, [], ◌∷◌, ◌++◌, Option, None, Some, codes}
use Rattle.std.specs.List.{flat_map, AllByRecursion}
use Rattle.gs_verilog.specs.Token.{Token, keyword, mark, IsName}
use Rattle.gs_verilog.specs.declared.machine.Role.{Role}
use Rattle.gs_verilog.specs.declared.machine.Role.TheVariants.{Input, Output, Wire}

-- a pin and the net that it is connected to
pub record Connection : Type 0 where
  pub pin : Token
  pub net : Token

pub data Item : Type 0 where
  -- a declaration of one name and more
  Declaration : Role → Token → List Token → Item
  -- an instance: its cell, its name, its connections
  Instance : Token → Token → List Connection → Item

pub record Tree : Type 0 where
  pub name : Token
  -- the names in the header, where it has parentheses
  pub header : Option (List Token)
  pub items : List Item

abbrev pub role_word : Role → Token
role_word Input = keyword (codes "input")
role_word Output = keyword (codes "output")
role_word Wire = keyword (codes "wire")

abbrev pub comma_name : Token → List Token
comma_name t = mark (codes ",") ∷ t ∷ []

abbrev pub name_list : List Token → List Token
name_list [] = []
name_list (t ∷ ts) = t ∷ flat_map comma_name ts

abbrev pub connection : Connection → List Token
connection c = mark (codes ".") ∷ c.pin ∷ mark (codes "(") ∷ c.net ∷ mark (codes ")") ∷ []

abbrev pub comma_connection : Connection → List Token
comma_connection c = mark (codes ",") ∷ connection c

abbrev pub connection_list : List Connection → List Token
connection_list [] = []
connection_list (c ∷ cs) = connection c ++ flat_map comma_connection cs

abbrev pub item : Item → List Token
item (Declaration role t ts) = role_word role ∷ t ∷ (flat_map comma_name ts ++ mark (codes ";") ∷ [])
item (Instance cell name cs) =
    cell ∷ name ∷ mark (codes "(") ∷ (connection_list cs ++ mark (codes ")") ∷ mark (codes ";") ∷ [])

abbrev pub header : Option (List Token) → List Token
header None = []
header (Some ts) = mark (codes "(") ∷ (name_list ts ++ mark (codes ")") ∷ [])

-- the spelling of a whole netlist
abbrev pub spelling : Tree → List Token
spelling t =
    keyword (codes "module") ∷ t.name
    ∷ (header t.header ++ mark (codes ";") ∷ (flat_map item t.items ++ keyword (codes "endmodule") ∷ []))

abbrev pub IsConnection : Connection → Type 0
IsConnection c = IsName c.pin × IsName c.net

abbrev pub IsItem : Item → Type 0
IsItem (Declaration role t ts) = IsName t × AllByRecursion IsName ts
IsItem (Instance cell name cs) = IsName cell × IsName name × AllByRecursion IsConnection cs

abbrev pub IsHeader : Option (List Token) → Type 0
IsHeader None = Unit {0}
IsHeader (Some ts) = AllByRecursion IsName ts

-- a name stands wherever the tree has one
pub record IsTree (t : Tree) : Type 0 where
  pub name : IsName t.name
  pub header : IsHeader t.header
  pub items : AllByRecursion IsItem t.items

-- the tokens are the spelling of the tree
abbrev pub Form : List Token → Tree → Type 0
Form ts t = IsTree t × (ts ≡ spelling t)

abbrev pub IsForm : List Token → Type 0
IsForm ts = (t : Tree) × Form ts t
