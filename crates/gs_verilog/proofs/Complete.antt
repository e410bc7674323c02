-- The spelling of each tree is taken by the machine, and ends in the circuit that the tree makes.

use Rattle.std.proofs.Common.{◌≡◌, ℕ, List, [], ◌∷◌, ◌++◌, Option, None, Some, refl, ap, ◌∙◌, Result, Ok, codes, append_assoc}
use Rattle.std.specs.List.{flat_map, AllByRecursion}
use Rattle.gs_grammar.specs.Machine.{run}
use Rattle.gs_grammar.proofs.Runs.{run-ok, run-nil}
use Rattle.gs_drive.specs.declared.machine.Fault.{Fault}
use Rattle.gs_verilog.specs.declared.error.Rule.{Rule}
use Rattle.gs_verilog.specs.Circuit.{Circuit}
use Rattle.gs_verilog.specs.Machine.{State, step, no_rule, arrived, next, start, declared, with_inst, connected, empty}
use Rattle.gs_verilog.specs.Token.{Token, keyword, mark, IsName}
use Rattle.gs_verilog.specs.Tree.{Connection, Item, Declaration, Tree, Form, IsItem, IsHeader, IsConnection, item, header, comma_name, comma_connection, connection_list, role_word}
use Rattle.gs_verilog.specs.Tree.{Instance as Placed}
use Rattle.gs_verilog.specs.declared.machine.Class.TheVariants.{Name}
use Rattle.gs_verilog.specs.declared.machine.Place.{Place}
use Rattle.gs_verilog.specs.declared.machine.Place.TheVariants.{Title, Titled, Header, Headed, HeaderNext, HeaderDone, Items, Names, Named, Instance, InstanceNamed, Pins, Pin, PinNamed, Net, NetNamed, Linked, NextPin, Closed, End}
use Rattle.gs_verilog.specs.declared.machine.Role.{Role}
use Rattle.gs_verilog.specs.declared.machine.Role.TheVariants.{Input, Output, Wire}
use Rattle.gs_verilog.proofs.Classes.{class_name}
use Rattle.gs_verilog.proofs.Folds.{names_into, links_into, item_into, items_into, titled, tree_into}
use Rattle.gs_verilog.proofs.Sound.{at}

abbrev free : State → Token → Result State (Fault Rule)
free = step no_rule

abbrev Run : State → List Token → State → List Token → Type 0
Run s ts m us = run free s ts ≡ run free m us

-- a name at a place
named : (p : Place) (c : Circuit) (cell pin : List ℕ) (t : Token) → IsName t
    → step no_rule (at p c cell pin) t ≡ arrived no_rule (next p Name) (at p c cell pin) t.text
named p c cell pin t n = ap (λ k. arrived no_rule (next p k) (at p c cell pin) t.text) (class_name t n)

-- a name, where one may stand
one_name : (p : Place) (m : State) (c : Circuit) (cell pin : List ℕ) (t : Token) (ts : List Token) → IsName t
    → arrived no_rule (next p Name) (at p c cell pin) t.text ≡ Ok m → Run (at p c cell pin) (t ∷ ts) m ts
one_name p m c cell pin t ts n e = run-ok free (at p c cell pin) m t ts (named p c cell pin t n ∙ e)

-- a keyword or a mark
one : (s m : State) (t : Token) (ts : List Token) → step no_rule s t ≡ Ok m → Run s (t ∷ ts) m ts
one s m t ts e = run-ok free s m t ts e

headed_run : (ts us : List Token) (c : Circuit) (cell pin : List ℕ) → AllByRecursion IsName ts
    → Run (at Headed c cell pin) (flat_map comma_name ts ++ us) (at Headed c cell pin) us
headed_run [] us c cell pin h = refl
headed_run (t ∷ ts) us c cell pin h =
    one (at Headed c cell pin) (at HeaderNext c cell pin) (mark (codes ",")) _ refl
    ∙ one_name HeaderNext (at Headed c cell pin) c cell pin t _ h.0 refl
    ∙ headed_run ts us c cell pin h.1

names_run : (ts us : List Token) (role : Role) (c : Circuit) (cell pin : List ℕ) → AllByRecursion IsName ts
    → Run (at (Named role) c cell pin) (flat_map comma_name ts ++ us) (at (Named role) (names_into role c ts) cell pin) us
names_run [] us role c cell pin h = refl
names_run (t ∷ ts) us role c cell pin h =
    one (at (Named role) c cell pin) (at (Names role) c cell pin) (mark (codes ",")) _ refl
    ∙ one_name (Names role) (at (Named role) (declared role c t.text) cell pin) c cell pin t _ h.0 refl
    ∙ names_run ts us role (declared role c t.text) cell pin h.1

-- a connection, past its dot
pin_run : (x : Connection) (us : List Token) (c : Circuit) (cell pin : List ℕ) → IsConnection x
    → Run (at Pin c cell pin) (x.pin ∷ mark (codes "(") ∷ x.net ∷ mark (codes ")") ∷ us) (at Linked (connected c x.pin.text x.net.text) cell x.pin.text) us
pin_run x us c cell pin h =
    one_name Pin (at PinNamed c cell x.pin.text) c cell pin x.pin _ h.0 refl
    ∙ one (at PinNamed c cell x.pin.text) (at Net c cell x.pin.text) (mark (codes "(")) _ refl
    ∙ one_name Net (at NetNamed (connected c x.pin.text x.net.text) cell x.pin.text) c cell x.pin.text x.net _ h.1 refl
    ∙ one (at NetNamed (connected c x.pin.text x.net.text) cell x.pin.text) (at Linked (connected c x.pin.text x.net.text) cell x.pin.text) (mark (codes ")")) _ refl

-- the pin that was read last
abbrev last_pin : List ℕ → List Connection → List ℕ
last_pin pin [] = pin
last_pin pin (x ∷ xs) = last_pin x.pin.text xs

links_run : (xs : List Connection) (us : List Token) (c : Circuit) (cell pin : List ℕ) → AllByRecursion IsConnection xs
    → Run (at Linked c cell pin) (flat_map comma_connection xs ++ us) (at Linked (links_into c xs) cell (last_pin pin xs)) us
links_run [] us c cell pin h = refl
links_run (x ∷ xs) us c cell pin h =
    one (at Linked c cell pin) (at NextPin c cell pin) (mark (codes ",")) _ refl
    ∙ one (at NextPin c cell pin) (at Pin c cell pin) (mark (codes ".")) _ refl
    ∙ pin_run x (flat_map comma_connection xs ++ us) c cell pin h.0
    ∙ links_run xs us (connected c x.pin.text x.net.text) cell x.pin.text h.1

pins_run : (xs : List Connection) (us : List Token) (c : Circuit) (cell pin : List ℕ) → AllByRecursion IsConnection xs
    → Run (at Pins c cell pin) (connection_list xs ++ mark (codes ")") ∷ us) (at Closed (links_into c xs) cell (last_pin pin xs)) us
pins_run [] us c cell pin h = one (at Pins c cell pin) (at Closed c cell pin) (mark (codes ")")) us refl
pins_run (x ∷ xs) us c cell pin h =
    one (at Pins c cell pin) (at Pin c cell pin) (mark (codes ".")) _ refl
    ∙ pin_run x (flat_map comma_connection xs ++ mark (codes ")") ∷ us) c cell pin h.0
    ∙ links_run xs (mark (codes ")") ∷ us) (connected c x.pin.text x.net.text) cell x.pin.text h.1
    ∙ one (at Linked (links_into c (x ∷ xs)) cell (last_pin pin (x ∷ xs))) (at Closed (links_into c (x ∷ xs)) cell (last_pin pin (x ∷ xs))) (mark (codes ")")) us refl

role_step : (role : Role) (c : Circuit) (cell pin : List ℕ)
    → step no_rule (at Items c cell pin) (role_word role) ≡ Ok (at (Names role) c (role_word role).text pin)
role_step Input c cell pin = refl
role_step Output c cell pin = refl
role_step Wire c cell pin = refl

-- the run goes on from a place with this circuit
record Goes (s : State) (ts us : List Token) (p : Place) (c : Circuit) : Type 0 where
  pub cell : List ℕ
  pub pin : List ℕ
  pub by : Run s ts (at p c cell pin) us

goes_item : (i : Item) (us : List Token) (c : Circuit) (cell pin : List ℕ) → IsItem i
    → Goes (at Items c cell pin) (item i ++ us) us Items (item_into c i)
goes_item (Declaration role t ts) us c cell pin h =
    let word = (role_word role).text in
    let d = declared role c t.text in
    let e = names_into role d ts in
    record {
      cell = word;
      pin = pin;
      by = one (at Items c cell pin) (at (Names role) c word pin) (role_word role) _ (role_step role c cell pin)
          ∙ one_name (Names role) (at (Named role) d word pin) c word pin t _ h.0 refl
          ∙ ap (run free (at (Named role) d word pin)) (append_assoc (flat_map comma_name ts) (mark (codes ";") ∷ []) us)
          ∙ names_run ts (mark (codes ";") ∷ us) role d word pin h.1
          ∙ one (at (Named role) e word pin) (at Items e word pin) (mark (codes ";")) us refl;
    }
goes_item (Placed k n xs) us c cell pin h =
    let d = with_inst c k.text n.text in
    let e = links_into d xs in
    let last = last_pin pin xs in
    record {
      cell = k.text;
      pin = last;
      by = one_name Items (at Instance c k.text pin) c cell pin k _ h.0 refl
          ∙ one_name Instance (at InstanceNamed d k.text pin) c k.text pin n _ h.1 refl
          ∙ one (at InstanceNamed d k.text pin) (at Pins d k.text pin) (mark (codes "(")) _ refl
          ∙ ap (run free (at Pins d k.text pin)) (append_assoc (connection_list xs) (mark (codes ")") ∷ mark (codes ";") ∷ []) us)
          ∙ pins_run xs (mark (codes ";") ∷ us) d k.text pin h.2
          ∙ one (at Closed e k.text last) (at Items e k.text last) (mark (codes ";")) us refl;
    }

goes_items : (is : List Item) (us : List Token) (c : Circuit) (cell pin : List ℕ) → AllByRecursion IsItem is
    → Goes (at Items c cell pin) (flat_map item is ++ us) us Items (items_into c is)
goes_items [] us c cell pin h = record { cell = cell; pin = pin; by = refl }
goes_items (i ∷ is) us c cell pin h =
    let g = goes_item i (flat_map item is ++ us) c cell pin h.0 in
    let k = goes_items is us (item_into c i) g.cell g.pin h.1 in
    record {
      cell = k.cell;
      pin = k.pin;
      by = ap (run free (at Items c cell pin)) (append_assoc (item i) (flat_map item is) us) ∙ g.by ∙ k.by;
    }

header_run : (names : Option (List Token)) (us : List Token) (c : Circuit) (cell pin : List ℕ) → IsHeader names
    → Run (at Titled c cell pin) (header names ++ mark (codes ";") ∷ us) (at Items c cell pin) us
header_run None us c cell pin h = one (at Titled c cell pin) (at Items c cell pin) (mark (codes ";")) us refl
header_run (Some []) us c cell pin h =
    one (at Titled c cell pin) (at Header c cell pin) (mark (codes "(")) _ refl
    ∙ one (at Header c cell pin) (at HeaderDone c cell pin) (mark (codes ")")) _ refl
    ∙ one (at HeaderDone c cell pin) (at Items c cell pin) (mark (codes ";")) us refl
header_run (Some (t ∷ ts)) us c cell pin h =
    one (at Titled c cell pin) (at Header c cell pin) (mark (codes "(")) _ refl
    ∙ one_name Header (at Headed c cell pin) c cell pin t _ h.0 refl
    ∙ ap (run free (at Headed c cell pin)) (append_assoc (flat_map comma_name ts) (mark (codes ")") ∷ []) (mark (codes ";") ∷ us))
    ∙ headed_run ts (mark (codes ")") ∷ mark (codes ";") ∷ us) c cell pin h.1
    ∙ one (at Headed c cell pin) (at HeaderDone c cell pin) (mark (codes ")")) _ refl
    ∙ one (at HeaderDone c cell pin) (at Items c cell pin) (mark (codes ";")) us refl

-- the whole run over a spelling
pub record Taken (ts : List Token) (c : Circuit) : Type 0 where
  pub end : State
  pub by : run (step no_rule) start ts ≡ Ok end
  pub place : end.place ≡ End
  pub circuit : end.circuit ≡ c

pub form_taken : (ts : List Token) (tree : Tree) → Form ts tree → Taken ts (tree_into tree)
form_taken ts tree f =
    let c = titled empty tree.name.text in
    let e = tree_into tree in
    let g = goes_items tree.items (keyword (codes "endmodule") ∷ []) c [] [] f.0.items in
    let end = at End e (codes "endmodule") g.pin in
    record {
      end = end;
      by = ap (run free start) f.1
          ∙ one start (at Title empty [] []) (keyword (codes "module")) _ refl
          ∙ one_name Title (at Titled c [] []) empty [] [] tree.name _ f.0.name refl
          ∙ header_run tree.header _ c [] [] f.0.header
          ∙ g.by
          ∙ one (at Items e g.cell g.pin) end (keyword (codes "endmodule")) [] refl
          ∙ run-nil free end;
      place = refl;
      circuit = refl;
    }
