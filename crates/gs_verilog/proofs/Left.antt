-- What is left of a netlist at each place of the form, and the circuit that it ends in.

use Rattle.std.proofs.Common.{◌≡◌, ℕ, List, [], ◌∷◌, ◌++◌, Option, codes}
use Rattle.std.specs.List.{flat_map, AllByRecursion}
use Rattle.gs_verilog.specs.Circuit.{Circuit}
use Rattle.gs_verilog.specs.Machine.{declared, with_inst, connected}
use Rattle.gs_verilog.specs.Token.{Token, keyword, mark, IsName}
use Rattle.gs_verilog.specs.Tree.{Connection, Item, item, header, name_list, comma_name, comma_connection, connection_list, IsConnection, IsItem, IsHeader}
use Rattle.gs_verilog.specs.declared.machine.Place.{Place}
use Rattle.gs_verilog.specs.declared.machine.Place.TheVariants.{Start, Title, Titled, Header, Headed, HeaderNext, HeaderDone, Items, Names, Named, Instance, InstanceNamed, Pins, Pin, PinNamed, Net, NetNamed, Linked, NextPin, Closed, End}
use Rattle.gs_verilog.specs.declared.machine.Role.{Role}
use Rattle.gs_verilog.proofs.Folds.{names_into, links_into, items_into, titled}

-- the token stands first, and P holds of the rest
pub record After (t : Token) (ts : List Token) (P : List Token → Type 0) : Type 0 where
  pub rest : List Token
  pub first : ts ≡ t ∷ rest
  pub left : P rest

-- a name stands first, and P holds of it and the rest
pub record AfterName (ts : List Token) (P : Token → List Token → Type 0) : Type 0 where
  pub token : Token
  pub rest : List Token
  pub named : IsName token
  pub first : ts ≡ token ∷ rest
  pub left : P token rest

pub record ItemsLeft (c : Circuit) (ts : List Token) (e : Circuit) : Type 0 where
  pub items : List Item
  pub each : AllByRecursion IsItem items
  pub spells : ts ≡ flat_map item items ++ keyword (codes "endmodule") ∷ []
  pub makes : e ≡ items_into c items

abbrev pub ClosedLeft : Circuit → List Token → Circuit → Type 0
ClosedLeft c ts e = After (mark (codes ";")) ts (λ us. ItemsLeft c us e)

pub record NamedLeft (role : Role) (c : Circuit) (ts : List Token) (e : Circuit) : Type 0 where
  pub more : List Token
  pub rest : List Token
  pub each : AllByRecursion IsName more
  pub spells : ts ≡ flat_map comma_name more ++ mark (codes ";") ∷ rest
  pub left : ItemsLeft (names_into role c more) rest e

abbrev pub NamesLeft : Role → Circuit → List Token → Circuit → Type 0
NamesLeft role c ts e = AfterName ts (λ t us. NamedLeft role (declared role c t.text) us e)

pub record LinkedLeft (c : Circuit) (ts : List Token) (e : Circuit) : Type 0 where
  pub more : List Connection
  pub rest : List Token
  pub each : AllByRecursion IsConnection more
  pub spells : ts ≡ flat_map comma_connection more ++ mark (codes ")") ∷ mark (codes ";") ∷ rest
  pub left : ItemsLeft (links_into c more) rest e

abbrev pub NetNamedLeft : Circuit → List Token → Circuit → Type 0
NetNamedLeft c ts e = After (mark (codes ")")) ts (λ us. LinkedLeft c us e)

abbrev pub NetLeft : Circuit → List ℕ → List Token → Circuit → Type 0
NetLeft c pin ts e = AfterName ts (λ t us. NetNamedLeft (connected c pin t.text) us e)

abbrev pub PinNamedLeft : Circuit → List ℕ → List Token → Circuit → Type 0
PinNamedLeft c pin ts e = After (mark (codes "(")) ts (λ us. NetLeft c pin us e)

abbrev pub PinLeft : Circuit → List Token → Circuit → Type 0
PinLeft c ts e = AfterName ts (λ t us. PinNamedLeft c t.text us e)

abbrev pub NextPinLeft : Circuit → List Token → Circuit → Type 0
NextPinLeft c ts e = After (mark (codes ".")) ts (λ us. PinLeft c us e)

pub record PinsLeft (c : Circuit) (ts : List Token) (e : Circuit) : Type 0 where
  pub all : List Connection
  pub rest : List Token
  pub each : AllByRecursion IsConnection all
  pub spells : ts ≡ connection_list all ++ mark (codes ")") ∷ mark (codes ";") ∷ rest
  pub left : ItemsLeft (links_into c all) rest e

abbrev pub InstanceNamedLeft : Circuit → List Token → Circuit → Type 0
InstanceNamedLeft c ts e = After (mark (codes "(")) ts (λ us. PinsLeft c us e)

abbrev pub InstanceLeft : Circuit → List ℕ → List Token → Circuit → Type 0
InstanceLeft c cell ts e = AfterName ts (λ t us. InstanceNamedLeft (with_inst c cell t.text) us e)

pub record HeadedLeft (c : Circuit) (ts : List Token) (e : Circuit) : Type 0 where
  pub more : List Token
  pub rest : List Token
  pub each : AllByRecursion IsName more
  pub spells : ts ≡ flat_map comma_name more ++ mark (codes ")") ∷ mark (codes ";") ∷ rest
  pub left : ItemsLeft c rest e

abbrev pub HeaderNextLeft : Circuit → List Token → Circuit → Type 0
HeaderNextLeft c ts e = AfterName ts (λ t us. HeadedLeft c us e)

pub record HeaderLeft (c : Circuit) (ts : List Token) (e : Circuit) : Type 0 where
  pub all : List Token
  pub rest : List Token
  pub each : AllByRecursion IsName all
  pub spells : ts ≡ name_list all ++ mark (codes ")") ∷ mark (codes ";") ∷ rest
  pub left : ItemsLeft c rest e

pub record TitledLeft (c : Circuit) (ts : List Token) (e : Circuit) : Type 0 where
  pub names : Option (List Token)
  pub rest : List Token
  pub each : IsHeader names
  pub spells : ts ≡ header names ++ mark (codes ";") ∷ rest
  pub left : ItemsLeft c rest e

abbrev pub TitleLeft : Circuit → List Token → Circuit → Type 0
TitleLeft c ts e = AfterName ts (λ t us. TitledLeft (titled c t.text) us e)

abbrev pub StartLeft : Circuit → List Token → Circuit → Type 0
StartLeft c ts e = After (keyword (codes "module")) ts (λ us. TitleLeft c us e)

abbrev pub EndLeft : Circuit → List Token → Circuit → Type 0
EndLeft c ts e = (ts ≡ []) × (e ≡ c)

-- what is left at a place, where the circuit so far, the cell and the pin are these, and e is the circuit at the end
abbrev pub Left : Place → Circuit → (cell pin : List ℕ) → List Token → Circuit → Type 0
Left Start c cell pin ts e = StartLeft c ts e
Left Title c cell pin ts e = TitleLeft c ts e
Left Titled c cell pin ts e = TitledLeft c ts e
Left Header c cell pin ts e = HeaderLeft c ts e
Left Headed c cell pin ts e = HeadedLeft c ts e
Left HeaderNext c cell pin ts e = HeaderNextLeft c ts e
Left HeaderDone c cell pin ts e = ClosedLeft c ts e
Left Items c cell pin ts e = ItemsLeft c ts e
Left (Names role) c cell pin ts e = NamesLeft role c ts e
Left (Named role) c cell pin ts e = NamedLeft role c ts e
Left Instance c cell pin ts e = InstanceLeft c cell ts e
Left InstanceNamed c cell pin ts e = InstanceNamedLeft c ts e
Left Pins c cell pin ts e = PinsLeft c ts e
Left Pin c cell pin ts e = PinLeft c ts e
Left PinNamed c cell pin ts e = PinNamedLeft c pin ts e
Left Net c cell pin ts e = NetLeft c pin ts e
Left NetNamed c cell pin ts e = NetNamedLeft c ts e
Left Linked c cell pin ts e = LinkedLeft c ts e
Left NextPin c cell pin ts e = NextPinLeft c ts e
Left Closed c cell pin ts e = ClosedLeft c ts e
Left End c cell pin ts e = EndLeft c ts e
