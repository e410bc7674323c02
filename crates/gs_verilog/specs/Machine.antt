-- The netlist's text read from left to right: token by token a place in the form is kept, and the circuit so far. That it
-- agrees with the relation is proved.

use Rattle.std.specs.Prelude.{ℕ, Bool, true, false, List, [], ◌∷◌, ◌++◌, Option, None, Some, Result, Ok, Err, codes, if◌then◌else◌, eqb}
use Rattle.std.specs.List.{list_any}
use Rattle.std.specs.Str.{bytes_eq}
use Rattle.gs_drive.specs.declared.machine.Fault.{Fault}
use Rattle.gs_text.specs.declared.kinds.Kind.{Kind}
use Rattle.gs_text.specs.declared.kinds.Kind.TheVariants.{Word, Escaped, Text, Mark}
use Rattle.gs_verilog.specs.Circuit.{Circuit}
use Rattle.gs_verilog.specs.Text.{number}
use Rattle.gs_verilog.specs.Token.{Token, begins_name}
use Rattle.gs_verilog.specs.declared.error.Rule.{Rule}
use Rattle.gs_verilog.specs.declared.machine.Class.{Class}
use Rattle.gs_verilog.specs.declared.machine.Class.TheVariants.{Module, EndModule, Declares, Name, Open, Close, Comma, Dot, Semicolon, Other}
use Rattle.gs_verilog.specs.declared.machine.Place.{Place}
use Rattle.gs_verilog.specs.declared.machine.Place.TheVariants.{Start, Title, Titled, Header, Headed, HeaderNext, HeaderDone, Items, Names, Named, Instance, InstanceNamed, Pins, Pin, PinNamed, Net, NetNamed, Linked, NextPin, Closed, End}
use Rattle.gs_verilog.specs.declared.machine.Role.{Role}
use Rattle.gs_verilog.specs.declared.machine.Role.TheVariants.{Input, Output, Wire}
use Rattle.gs_verilog.specs.declared.parts.Link.{Link}
use Rattle.gs_verilog.specs.declared.parts.RawInst.{RawInst}

abbrev pub class_of : Kind → List ℕ → Class
class_of Word t =
    if bytes_eq t (codes "module") then Module
    else if bytes_eq t (codes "endmodule") then EndModule
    else if bytes_eq t (codes "input") then Declares Input
    else if bytes_eq t (codes "output") then Declares Output
    else if bytes_eq t (codes "wire") then Declares Wire
    else if begins_name t then Name
    else Other
class_of Escaped t = Name
class_of Text t = Other
class_of Mark t =
    if bytes_eq t (codes "(") then Open
    else if bytes_eq t (codes ")") then Close
    else if bytes_eq t (codes ",") then Comma
    else if bytes_eq t (codes ".") then Dot
    else if bytes_eq t (codes ";") then Semicolon
    else Other

-- what a token is to the form
abbrev pub class : Token → Class
class t = class_of t.kind t.text

-- the place after a token of this class, where one may stand at the place
abbrev pub next : Place → Class → Option Place
next Start Module = Some Title
next Title Name = Some Titled
next Titled Open = Some Header
next Titled Semicolon = Some Items
next Header Name = Some Headed
next Header Close = Some HeaderDone
next Headed Comma = Some HeaderNext
next Headed Close = Some HeaderDone
next HeaderNext Name = Some Headed
next HeaderDone Semicolon = Some Items
next Items (Declares role) = Some (Names role)
next Items Name = Some Instance
next Items EndModule = Some End
next (Names role) Name = Some (Named role)
next (Named role) Comma = Some (Names role)
next (Named role) Semicolon = Some Items
next Instance Name = Some InstanceNamed
next InstanceNamed Open = Some Pins
next Pins Close = Some Closed
next Pins Dot = Some Pin
next Pin Name = Some PinNamed
next PinNamed Open = Some Net
next Net Name = Some NetNamed
next NetNamed Close = Some Linked
next Linked Comma = Some NextPin
next Linked Close = Some Closed
next NextPin Dot = Some Pin
next Closed Semicolon = Some Items
next _ _ = None

-- the nets with this one, which a new name puts last
abbrev pub with_net : List (List ℕ) → List ℕ → List (List ℕ)
with_net nets name = if list_any (bytes_eq name) nets then nets else nets ++ name ∷ []

abbrev pub with_port : Bool → Circuit → List ℕ → Circuit
with_port input c name =
    record c { nets = with_net c.nets name; ports = c.ports ++ record { net = number c.nets name; input = input } ∷ [] }

-- a name is declared
abbrev pub declared : Role → Circuit → List ℕ → Circuit
declared Input c name = with_port true c name
declared Output c name = with_port false c name
declared Wire c name = record c { nets = with_net c.nets name }

-- an instance begins, without a connection so far
abbrev pub with_inst : Circuit → (cell name : List ℕ) → Circuit
with_inst c cell name = record c { insts = c.insts ++ record { name = name; cell = cell; links = [] } ∷ [] }

-- the last instance has one more connection
abbrev pub with_link : List RawInst → Link → List RawInst
with_link [] l = []
with_link (i ∷ []) l = record i { links = i.links ++ l ∷ [] } ∷ []
with_link (i ∷ j ∷ is) l = i ∷ with_link (j ∷ is) l

abbrev pub connected : Circuit → (pin net : List ℕ) → Circuit
connected c pin net =
    record c { nets = with_net c.nets net; insts = with_link c.insts (record { pin = pin; net = number c.nets net }) }

abbrev pub has_port : Circuit → List ℕ → Bool
has_port c name = list_any (λ p. eqb (number c.nets name) p.net) c.ports

abbrev pub has_inst : Circuit → List ℕ → Bool
has_inst c name = list_any (λ i. bytes_eq name i.name) c.insts

abbrev pub last_has : List RawInst → List ℕ → Bool
last_has [] pin = false
last_has (i ∷ []) pin = list_any (λ l. bytes_eq pin l.pin) i.links
last_has (i ∷ j ∷ is) pin = last_has (j ∷ is) pin

-- whether the last instance has the pin
abbrev pub has_pin : Circuit → List ℕ → Bool
has_pin c pin = last_has c.insts pin

-- the place, the circuit so far, and the cell and the pin that were read last
pub record State : Type 0 where
  pub place : Place
  pub circuit : Circuit
  pub cell : List ℕ
  pub pin : List ℕ

abbrev pub empty : Circuit
empty = record { name = []; ports = []; nets = []; insts = [] }

abbrev pub start : State
start = record { place = Start; circuit = empty; cell = []; pin = [] }

-- the state at the next place, where the token at the place before has this text
abbrev pub moved : Place → Place → Circuit → (cell pin text : List ℕ) → State
moved Title to c cell pin text = record { place = to; circuit = record c { name = text }; cell = cell; pin = pin }
moved Items to c cell pin text = record { place = to; circuit = c; cell = text; pin = pin }
moved (Names role) to c cell pin text = record { place = to; circuit = declared role c text; cell = cell; pin = pin }
moved Instance to c cell pin text = record { place = to; circuit = with_inst c cell text; cell = cell; pin = pin }
moved Pin to c cell pin text = record { place = to; circuit = c; cell = cell; pin = text }
moved Net to c cell pin text = record { place = to; circuit = connected c pin text; cell = cell; pin = pin }
moved _ to c cell pin text = record { place = to; circuit = c; cell = cell; pin = pin }

-- a rule says which text is refused at a place
abbrev pub NameRule : Type 0
NameRule = Place → Circuit → List ℕ → Bool

-- the form alone
abbrev pub no_rule : NameRule
no_rule place c text = false

-- a direction twice, an instance twice, a pin twice in one instance
abbrev pub named_before : NameRule
named_before (Names Input) c text = has_port c text
named_before (Names Output) c text = has_port c text
named_before Instance c text = has_inst c text
named_before Pin c text = has_pin c text
named_before _ c text = false

abbrev pub arrived : NameRule → Option Place → State → List ℕ → Result State (Fault Rule)
arrived rule None s text = Err Fault.Bad
arrived rule (Some to) s text =
    if rule s.place s.circuit text then Err (Fault.Broken Rule.NamesDiffer) else Ok (moved s.place to s.circuit s.cell s.pin text)

abbrev pub step : NameRule → State → Token → Result State (Fault Rule)
step rule s t = arrived rule (next s.place (class t)) s t.text

-- what the tokens so far stand for, where they are a whole netlist
abbrev pub end_at : Place → Circuit → Option Circuit
end_at End c = Some c
end_at _ c = None

abbrev pub end_of : State → Option Circuit
end_of s = end_at s.place s.circuit
