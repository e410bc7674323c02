-- What the machine takes is the spelling of a tree, and ends in the circuit that the tree makes.

use Rattle.std.proofs.Common.{◌≡◌, ℕ, List, [], ◌∷◌, ◌++◌, None, Some, refl, sym, ap, subst, ◌∙◌, Result, Ok, codes, append_assoc}
use Rattle.std.specs.List.{flat_map}
use Rattle.gs_grammar.specs.Machine.{run}
use Rattle.gs_grammar.proofs.Runs.{begins, run-nil}
use Rattle.gs_drive.specs.declared.machine.Fault.{Fault}
use Rattle.gs_verilog.specs.declared.error.Rule.{Rule}
use Rattle.gs_verilog.specs.Circuit.{Circuit}
use Rattle.gs_verilog.specs.Machine.{State, step, no_rule, arrived, next, class, start}
use Rattle.gs_verilog.specs.Token.{Token, keyword, mark, IsName}
use Rattle.gs_verilog.specs.Tree.{Declaration, Tree, Form, item, header, name_list, comma_name, connection_list}
use Rattle.gs_verilog.specs.Tree.{Instance as Placed}
use Rattle.gs_verilog.specs.declared.machine.Class.{Class}
use Rattle.gs_verilog.specs.declared.machine.Class.TheVariants.{Module, EndModule, Declares, Name, Open, Close, Comma, Dot, Semicolon}
use Rattle.gs_verilog.specs.declared.machine.Place.{Place}
use Rattle.gs_verilog.specs.declared.machine.Place.TheVariants.{Start, Title, Titled, Header, Headed, HeaderNext, HeaderDone, Items, Names, Named, Instance, InstanceNamed, Pins, Pin, PinNamed, Net, NetNamed, Linked, NextPin, Closed, End}
use Rattle.gs_verilog.proofs.Classes.{Means, means}
use Rattle.gs_verilog.proofs.Folds.{tree_into}
use Rattle.gs_verilog.proofs.Left.{Left, After, AfterName}

-- a state, by its parts
abbrev pub at : Place → Circuit → (cell pin : List ℕ) → State
at p c cell pin = record { place = p; circuit = c; cell = cell; pin = pin }

-- what is left at a state
abbrev pub LeftAt : State → List Token → Circuit → Type 0
LeftAt s ts e = Left s.place s.circuit s.cell s.pin ts e

-- the state after an arrow is the one that the arrow gives
back : (x m : State) (ts : List Token) (e : Circuit) → ◌≡◌ {A = Result State (Fault Rule)} (Ok x) (Ok m) → LeftAt m ts e → LeftAt x ts e
back x m ts e h r = let same : m ≡ x = cc in subst (λ s. LeftAt s ts e) same r

after : (t : Token) (u : Token) (ts : List Token) (P : List Token → Type 0) → t ≡ u → P ts → After u (t ∷ ts) P
after t u ts P e p = record { rest = ts; first = ap (λ v. v ∷ ts) e; left = p }

after_name : (t : Token) (ts : List Token) (P : Token → List Token → Type 0) → IsName t → P t ts → AfterName (t ∷ ts) P
after_name t ts P n p = record { token = t; rest = ts; named = n; first = refl; left = p }

-- two lists with equal first tokens and equal rests
cons : (t u : Token) (ts us : List Token) → t ≡ u → ts ≡ us → t ∷ ts ≡ u ∷ us
cons t u ts us e h = cc

-- a list that a mark closes, before what follows
closes : (xs ys zs ws : List Token) → xs ++ (ys ++ (zs ++ ws)) ≡ ((xs ++ ys) ++ zs) ++ ws
closes xs ys zs ws = simp append_assoc

onto : (p : Place) (k : Class) (c : Circuit) (cell pin : List ℕ) (t : Token) (ts : List Token) (m : State) (e : Circuit)
    → Means k t
    → arrived no_rule (next p k) (record { place = p; circuit = c; cell = cell; pin = pin }) t.text ≡ Ok m
    → LeftAt m ts e → Left p c cell pin (t ∷ ts) e
onto Start Module c cell pin t ts m e k h r = after t _ ts _ k (back _ m ts e h r)
onto Title Name c cell pin t ts m e k h r = after_name t ts _ k (back _ m ts e h r)
onto Titled Semicolon c cell pin t ts m e k h r =
    record { names = None; rest = ts; each = tt; spells = cons _ _ _ _ k refl; left = back _ m ts e h r }
onto Titled Open c cell pin t ts m e k h r =
    let q = back (at Header c cell pin) m ts e h r in
    record {
      names = Some q.all;
      rest = q.rest;
      each = q.each;
      spells = cons _ _ _ _ k (q.spells ∙ sym (append_assoc (name_list q.all) (mark (codes ")") ∷ []) (mark (codes ";") ∷ q.rest)));
      left = q.left;
    }
onto Header Name c cell pin t ts m e k h r =
    let q = back (at Headed c cell pin) m ts e h r in
    record { all = t ∷ q.more; rest = q.rest; each = (k, q.each); spells = cons _ _ _ _ refl q.spells; left = q.left }
onto Header Close c cell pin t ts m e k h r =
    let q = back (at HeaderDone c cell pin) m ts e h r in
    record { all = []; rest = q.rest; each = tt; spells = cons _ _ _ _ k q.first; left = q.left }
onto Headed Comma c cell pin t ts m e k h r =
    let q = back (at HeaderNext c cell pin) m ts e h r in
    record {
      more = q.token ∷ q.left.more;
      rest = q.left.rest;
      each = (q.named, q.left.each);
      spells = cons _ _ _ _ k (q.first ∙ cons _ _ _ _ refl q.left.spells);
      left = q.left.left;
    }
onto Headed Close c cell pin t ts m e k h r =
    let q = back (at HeaderDone c cell pin) m ts e h r in
    record { more = []; rest = q.rest; each = tt; spells = cons _ _ _ _ k q.first; left = q.left }
onto HeaderNext Name c cell pin t ts m e k h r = after_name t ts _ k (back _ m ts e h r)
onto HeaderDone Semicolon c cell pin t ts m e k h r = after t _ ts _ k (back _ m ts e h r)
onto Items (Declares role) c cell pin t ts m e k h r =
    let q = back (at (Names role) c t.text pin) m ts e h r in
    let is = q.left.left in
    record {
      items = Declaration role q.token q.left.more ∷ is.items;
      each = ((q.named, q.left.each), is.each);
      spells = cons _ _ _ _ k (q.first ∙ cons _ _ _ _ refl (q.left.spells
          ∙ ap (λ us. flat_map comma_name q.left.more ++ mark (codes ";") ∷ us) is.spells
          ∙ closes (flat_map comma_name q.left.more) (mark (codes ";") ∷ []) (flat_map item is.items) (keyword (codes "endmodule") ∷ [])));
      makes = is.makes;
    }
onto Items Name c cell pin t ts m e k h r =
    let q = back (at Instance c t.text pin) m ts e h r in
    let ps = q.left.left in
    let is = ps.left in
    record {
      items = Placed t q.token ps.all ∷ is.items;
      each = ((k, q.named, ps.each), is.each);
      spells = cons _ _ _ _ refl (q.first ∙ cons _ _ _ _ refl (q.left.first ∙ cons _ _ _ _ refl (ps.spells
          ∙ ap (λ us. connection_list ps.all ++ mark (codes ")") ∷ mark (codes ";") ∷ us) is.spells
          ∙ closes (connection_list ps.all) (mark (codes ")") ∷ mark (codes ";") ∷ []) (flat_map item is.items) (keyword (codes "endmodule") ∷ []))));
      makes = is.makes;
    }
onto Items EndModule c cell pin t ts m e k h r =
    let q = back (at End c t.text pin) m ts e h r in
    record { items = []; each = tt; spells = cons _ _ _ _ k q.0; makes = q.1 }
onto (Names role) Name c cell pin t ts m e k h r = after_name t ts _ k (back _ m ts e h r)
onto (Named role) Comma c cell pin t ts m e k h r =
    let q = back (at (Names role) c cell pin) m ts e h r in
    record {
      more = q.token ∷ q.left.more;
      rest = q.left.rest;
      each = (q.named, q.left.each);
      spells = cons _ _ _ _ k (q.first ∙ cons _ _ _ _ refl q.left.spells);
      left = q.left.left;
    }
onto (Named role) Semicolon c cell pin t ts m e k h r =
    record { more = []; rest = ts; each = tt; spells = cons _ _ _ _ k refl; left = back _ m ts e h r }
onto Instance Name c cell pin t ts m e k h r = after_name t ts _ k (back _ m ts e h r)
onto InstanceNamed Open c cell pin t ts m e k h r = after t _ ts _ k (back _ m ts e h r)
onto Pins Close c cell pin t ts m e k h r =
    let q = back (at Closed c cell pin) m ts e h r in
    record { all = []; rest = q.rest; each = tt; spells = cons _ _ _ _ k q.first; left = q.left }
onto Pins Dot c cell pin t ts m e k h r =
    let q = back (at Pin c cell pin) m ts e h r in
    let n = q.left.left in
    let l = n.left.left in
    record {
      all = record { pin = q.token; net = n.token } ∷ l.more;
      rest = l.rest;
      each = ((q.named, n.named), l.each);
      spells = cons _ _ _ _ k (q.first ∙ cons _ _ _ _ refl (q.left.first ∙ cons _ _ _ _ refl (n.first ∙ cons _ _ _ _ refl (n.left.first ∙ cons _ _ _ _ refl l.spells))));
      left = l.left;
    }
onto Pin Name c cell pin t ts m e k h r = after_name t ts _ k (back _ m ts e h r)
onto PinNamed Open c cell pin t ts m e k h r = after t _ ts _ k (back _ m ts e h r)
onto Net Name c cell pin t ts m e k h r = after_name t ts _ k (back _ m ts e h r)
onto NetNamed Close c cell pin t ts m e k h r = after t _ ts _ k (back _ m ts e h r)
onto Linked Comma c cell pin t ts m e k h r =
    let d = back (at NextPin c cell pin) m ts e h r in
    let q = d.left in
    let n = q.left.left in
    let l = n.left.left in
    record {
      more = record { pin = q.token; net = n.token } ∷ l.more;
      rest = l.rest;
      each = ((q.named, n.named), l.each);
      spells = cons _ _ _ _ k (d.first ∙ cons _ _ _ _ refl (q.first ∙ cons _ _ _ _ refl (q.left.first ∙ cons _ _ _ _ refl (n.first ∙ cons _ _ _ _ refl (n.left.first ∙ cons _ _ _ _ refl l.spells)))));
      left = l.left;
    }
onto Linked Close c cell pin t ts m e k h r =
    let q = back (at Closed c cell pin) m ts e h r in
    record { more = []; rest = q.rest; each = tt; spells = cons _ _ _ _ k q.first; left = q.left }
onto NextPin Dot c cell pin t ts m e k h r = after t _ ts _ k (back _ m ts e h r)
onto Closed Semicolon c cell pin t ts m e k h r = after t _ ts _ k (back _ m ts e h r)
onto _ _ c cell pin t ts m e k h r = cc

-- a state that has read everything
left_at_end : (s end : State) → s ≡ end → end.place ≡ End → LeftAt s [] end.circuit
left_at_end s end e p =
    let here : s.place ≡ End = cc in
    let P : Place → Type 0 = λ q. Left q s.circuit s.cell s.pin [] end.circuit in
    subst P (sym here) (refl, ap (λ (x : State). x.circuit) (sym e))

pub sound : (ts : List Token) (s end : State) → run (step no_rule) s ts ≡ Ok end → end.place ≡ End → LeftAt s ts end.circuit
sound [] s end h p =
    let same : s ≡ end = cc (run-nil (step no_rule) s) in
    left_at_end s end same p
sound (t ∷ ts) s end h p =
    let b = begins (step no_rule) s end t ts h in
    onto s.place (class t) s.circuit s.cell s.pin t ts b.middle end.circuit (means t (class t) refl) b.first (sound ts b.middle end b.rest p)

-- a whole run is over the spelling of a tree
pub record Spelt (ts : List Token) (c : Circuit) : Type 0 where
  pub tree : Tree
  pub form : Form ts tree
  pub makes : c ≡ tree_into tree

pub spelt : (ts : List Token) (end : State) → run (step no_rule) start ts ≡ Ok end → end.place ≡ End → Spelt ts end.circuit
spelt ts end h p =
    let m = sound ts start end h p in
    let n = m.left in
    let d = n.left in
    let is = d.left in
    record {
      tree = record { name = n.token; header = d.names; items = is.items };
      form = (
        record { name = n.named; header = d.each; items = is.each },
        m.first ∙ cons _ _ _ _ refl (n.first ∙ cons _ _ _ _ refl (d.spells ∙ ap (λ us. header d.names ++ mark (codes ";") ∷ us) is.spells)),
      );
      makes = is.makes;
    }
