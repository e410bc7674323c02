-- What a netlist's text stands for: the relation between a whole list of tokens and one circuit.

use Rattle.std.specs.Prelude.{◌≡◌, ℕ, Bool, true, false, not, List, [], ◌∷◌, map, filter}
use Rattle.std.specs.List.{flat_map, position_or_len}
use Rattle.std.specs.Str.{bytes_eq}
use Rattle.gs_verilog.specs.Circuit.{Circuit, NamesDiffer}
use Rattle.gs_verilog.specs.Token.{Token}
use Rattle.gs_verilog.specs.Tree.{Tree, Item, Declaration, Instance, Connection, Form}
use Rattle.gs_verilog.specs.declared.machine.Role.TheVariants.{Input, Output, Wire}
use Rattle.gs_verilog.specs.declared.parts.Port.{Port}
use Rattle.gs_verilog.specs.declared.parts.Link.{Link}
use Rattle.gs_verilog.specs.declared.parts.RawInst.{RawInst}

abbrev pub token_text : Token → List ℕ
token_text t = t.text

-- the names of the nets in an item, in order: a declaration's names, an instance's connected nets
abbrev pub nets_named : Item → List (List ℕ)
nets_named (Declaration role t ts) = map token_text (t ∷ ts)
nets_named (Instance cell name cs) = map (λ (c : Connection). c.net.text) cs

-- each name once, where it appears first
abbrev pub firsts : List (List ℕ) → List (List ℕ)
firsts [] = []
firsts (x ∷ xs) = x ∷ filter (λ y. not (bytes_eq x y)) (firsts xs)

-- the number of a net: its place in the list
abbrev pub number : List (List ℕ) → List ℕ → ℕ
number nets name = position_or_len (bytes_eq name) nets

abbrev pub port_of : Bool → List (List ℕ) → Token → Port
port_of input nets t = record { net = number nets t.text; input = input }

-- an item's ports: one for each name that it gives a direction
abbrev pub ports_of : List (List ℕ) → Item → List Port
ports_of nets (Declaration Input t ts) = map (port_of true nets) (t ∷ ts)
ports_of nets (Declaration Output t ts) = map (port_of false nets) (t ∷ ts)
ports_of nets (Declaration Wire t ts) = []
ports_of nets (Instance cell name cs) = []

abbrev pub link_of : List (List ℕ) → Connection → Link
link_of nets c = record { pin = c.pin.text; net = number nets c.net.text }

abbrev pub insts_of : List (List ℕ) → Item → List RawInst
insts_of nets (Declaration role t ts) = []
insts_of nets (Instance cell name cs) =
    record { name = name.text; cell = cell.text; links = map (link_of nets) cs } ∷ []

-- what a tree stands for where these are its nets
abbrev pub circuit_with : List (List ℕ) → Tree → Circuit
circuit_with nets t =
    record {
      name = t.name.text;
      ports = flat_map (ports_of nets) t.items;
      nets = nets;
      insts = flat_map (insts_of nets) t.items;
    }

-- what a tree stands for: nets are numbered by first appearance, ports and instances stand in the text's order
abbrev pub circuit_of : Tree → Circuit
circuit_of t = circuit_with (firsts (flat_map nets_named t.items)) t

-- the tokens are the spelling of a tree that stands for the circuit, and keeps the rules on names
pub record VerilogText (ts : List Token) (c : Circuit) : Type 0 where
  pub tree : Tree
  pub form : Form ts tree
  pub stands : c ≡ circuit_of tree
  pub names : NamesDiffer c

abbrev pub IsText : List Token → Type 0
IsText ts = (c : Circuit) × VerilogText ts c
