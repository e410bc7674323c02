-- What a netlist is seen as, and what it keeps.

use Rattle.std.specs.Prelude.{ℕ, ◌<◌, List, map, length, eqb}
use Rattle.std.specs.List.{AllByRecursion, IsDistinct}
use Rattle.std.specs.Str.{bytes_eq}
use Rattle.gs_text.specs.Pieces.{IsUnbroken}
use Rattle.gs_verilog.specs.declared.parts.Port.{Port}
use Rattle.gs_verilog.specs.declared.parts.Link.{Link}
use Rattle.gs_verilog.specs.declared.parts.RawInst.{RawInst}

-- nets are numbered by their places in `nets`
pub record Circuit : Type 0 where
  pub name : List ℕ
  pub ports : List Port
  pub nets : List (List ℕ)
  pub insts : List RawInst

abbrev pub port_net : Port → ℕ
port_net p = p.net

abbrev pub link_pin : Link → List ℕ
link_pin l = l.pin

abbrev pub inst_name : RawInst → List ℕ
inst_name i = i.name

-- each connected net is one of so many
abbrev pub LinksInside : ℕ → RawInst → Type 0
LinksInside count i = AllByRecursion (λ l. l.net < count) i.links

abbrev pub PinsDiffer : RawInst → Type 0
PinsDiffer i = IsDistinct bytes_eq (map link_pin i.links)

-- no name has a direction twice, no two instances have one name, and no pin is connected twice in one instance
pub record NamesDiffer (c : Circuit) : Type 0 where
  pub directions : IsDistinct eqb (map port_net c.ports)
  pub insts : IsDistinct bytes_eq (map inst_name c.insts)
  pub pins : AllByRecursion PinsDiffer c.insts

-- each net number is a place in the list of nets, and no two nets have one name
pub record NetsFit (c : Circuit) : Type 0 where
  pub ports : AllByRecursion (λ p. p.net < length c.nets) c.ports
  pub links : AllByRecursion (LinksInside (length c.nets)) c.insts
  pub differ : IsDistinct bytes_eq c.nets

-- what the type of a netlist keeps
pub record IsNetlist (c : Circuit) : Type 0 where
  pub nets : NetsFit c
  pub names : NamesDiffer c
  -- no instance's name is empty or holds white
  pub clean : AllByRecursion (λ i. IsUnbroken i.name) c.insts
