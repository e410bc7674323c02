-- The circuit that a tree makes name by name is the circuit for which the tree stands.

use Rattle.std.proofs.Common.{◌≡◌, ℕ, List, [], ◌∷◌, ◌++◌, map, refl, sym, ap, ◌∙◌, Bool, true, false, append_assoc, append-nil}
use Rattle.std.specs.List.{flat_map}
use Rattle.gs_verilog.specs.Circuit.{Circuit}
use Rattle.gs_verilog.specs.Machine.{with_link, with_net}
use Rattle.gs_verilog.specs.Text.{token_text, nets_named, number, port_of, ports_of, link_of, insts_of, circuit_with, circuit_of}
use Rattle.gs_verilog.specs.Token.{Token}
use Rattle.gs_verilog.specs.Tree.{Connection, Item, Declaration, Instance, Tree}
use Rattle.gs_verilog.specs.declared.machine.Role.{Role}
use Rattle.gs_verilog.specs.declared.machine.Role.TheVariants.{Input, Output, Wire}
use Rattle.gs_verilog.specs.declared.parts.Link.{Link}
use Rattle.gs_verilog.specs.declared.parts.Port.{Port}
use Rattle.gs_verilog.specs.declared.parts.RawInst.{RawInst}
use Rattle.gs_verilog.proofs.Folds.{names_into, links_into, item_into, items_into, tree_into}
use Rattle.gs_verilog.proofs.Numbers.{nets_after, nets_after-append, number-stays, nets_are_firsts}

abbrev make : (name : List ℕ) → List Port → (nets : List (List ℕ)) → List RawInst → Circuit
make name ports nets insts = record { name = name; ports = ports; nets = nets; insts = insts }

abbrev net_text : Connection → List ℕ
net_text c = c.net.text

-- the ports of a declaration's names
abbrev named_ports : Role → List (List ℕ) → List Token → List Port
named_ports Input all ts = map (port_of true all) ts
named_ports Output all ts = map (port_of false all) ts
named_ports Wire all ts = []

-- one port before the others
one_port : (input : Bool) (all ns more : List (List ℕ)) (ps : List Port) (t : Token) (ts : List Token)
    → all ≡ nets_after (with_net ns t.text) more
    → (ps ++ record { net = number ns t.text; input = input } ∷ []) ++ map (port_of input all) ts ≡ ps ++ map (port_of input all) (t ∷ ts)
one_port input all ns more ps t ts e =
    let k : number ns t.text ≡ number all t.text = number-stays ns more all t.text e in
    append_assoc ps (record { net = number ns t.text; input = input } ∷ []) (map (port_of input all) ts)
    ∙ ap (λ (n : ℕ). ps ++ record { net = n; input = input } ∷ map (port_of input all) ts) k

-- what comes later, past one name
later : (all ns : List (List ℕ)) (t : Token) (ts : List Token) (more : List (List ℕ))
    → all ≡ nets_after (nets_after ns (map token_text (t ∷ ts))) more → all ≡ nets_after (with_net ns t.text) (map token_text ts ++ more)
later all ns t ts more e = e ∙ sym (nets_after-append (with_net ns t.text) (map token_text ts) more)

names_shape : (role : Role) (ts : List Token) (n : List ℕ) (ps : List Port) (ns : List (List ℕ)) (is : List RawInst) (all more : List (List ℕ))
    → all ≡ nets_after (nets_after ns (map token_text ts)) more
    → names_into role (make n ps ns is) ts ≡ make n (ps ++ named_ports role all ts) (nets_after ns (map token_text ts)) is
names_shape Input [] n ps ns is all more e = ap (λ qs. make n qs ns is) (sym (append-nil ps))
names_shape Output [] n ps ns is all more e = ap (λ qs. make n qs ns is) (sym (append-nil ps))
names_shape Wire [] n ps ns is all more e = ap (λ qs. make n qs ns is) (sym (append-nil ps))
names_shape Input (t ∷ ts) n ps ns is all more e =
    names_shape Input ts n (ps ++ record { net = number ns t.text; input = true } ∷ []) (with_net ns t.text) is all more e
    ∙ ap (λ qs. make n qs (nets_after (with_net ns t.text) (map token_text ts)) is) (one_port true all ns (map token_text ts ++ more) ps t ts (later all ns t ts more e))
names_shape Output (t ∷ ts) n ps ns is all more e =
    names_shape Output ts n (ps ++ record { net = number ns t.text; input = false } ∷ []) (with_net ns t.text) is all more e
    ∙ ap (λ qs. make n qs (nets_after (with_net ns t.text) (map token_text ts)) is) (one_port false all ns (map token_text ts ++ more) ps t ts (later all ns t ts more e))
names_shape Wire (t ∷ ts) n ps ns is all more e = names_shape Wire ts n ps (with_net ns t.text) is all more e

-- a link to the last instance
pub with_link-last : (is : List RawInst) (i : RawInst) (l : Link) → with_link (is ++ i ∷ []) l ≡ is ++ record i { links = i.links ++ l ∷ [] } ∷ []
with_link-last [] i l = refl
with_link-last (j ∷ []) i l = refl
with_link-last (j ∷ k ∷ is) i l = ap (λ js. j ∷ js) (with_link-last (k ∷ is) i l)

abbrev inst : (name cell : List ℕ) → List Link → RawInst
inst name cell links = record { name = name; cell = cell; links = links }

links_shape : (xs : List Connection) (n : List ℕ) (ps : List Port) (ns : List (List ℕ)) (is : List RawInst) (name cell : List ℕ) (ls : List Link) (all more : List (List ℕ))
    → all ≡ nets_after (nets_after ns (map net_text xs)) more
    → links_into (make n ps ns (is ++ inst name cell ls ∷ [])) xs
    ≡ make n ps (nets_after ns (map net_text xs)) (is ++ inst name cell (ls ++ map (link_of all) xs) ∷ [])
links_shape [] n ps ns is name cell ls all more e = ap (λ ks. make n ps ns (is ++ inst name cell ks ∷ [])) (sym (append-nil ls))
links_shape (x ∷ xs) n ps ns is name cell ls all more e =
    let text = x.net.text in
    let l : Link = record { pin = x.pin.text; net = number ns text } in
    let k : number ns text ≡ number all text =
    number-stays ns (map net_text xs ++ more) all text (e ∙ sym (nets_after-append (with_net ns text) (map net_text xs) more)) in
    ap (λ js. links_into (make n ps (with_net ns text) js) xs) (with_link-last is (inst name cell ls) l)
    ∙ links_shape xs n ps (with_net ns text) is name cell (ls ++ l ∷ []) all more e
    ∙ ap (λ ks. make n ps (nets_after (with_net ns text) (map net_text xs)) (is ++ inst name cell ks ∷ []))
    (append_assoc ls (l ∷ []) (map (link_of all) xs)
    ∙ ap (λ (m : ℕ). ls ++ record { pin = x.pin.text; net = m } ∷ map (link_of all) xs) k)

item_shape : (i : Item) (n : List ℕ) (ps : List Port) (ns : List (List ℕ)) (is : List RawInst) (all more : List (List ℕ))
    → all ≡ nets_after (nets_after ns (nets_named i)) more
    → item_into (make n ps ns is) i ≡ make n (ps ++ ports_of all i) (nets_after ns (nets_named i)) (is ++ insts_of all i)
item_shape (Declaration Input t ts) n ps ns is all more e =
    names_shape Input (t ∷ ts) n ps ns is all more e ∙ ap (λ js. make n (ps ++ named_ports Input all (t ∷ ts)) (nets_after ns (map token_text (t ∷ ts))) js) (sym (append-nil is))
item_shape (Declaration Output t ts) n ps ns is all more e =
    names_shape Output (t ∷ ts) n ps ns is all more e ∙ ap (λ js. make n (ps ++ named_ports Output all (t ∷ ts)) (nets_after ns (map token_text (t ∷ ts))) js) (sym (append-nil is))
item_shape (Declaration Wire t ts) n ps ns is all more e =
    names_shape Wire (t ∷ ts) n ps ns is all more e ∙ ap (λ js. make n (ps ++ named_ports Wire all (t ∷ ts)) (nets_after ns (map token_text (t ∷ ts))) js) (sym (append-nil is))
item_shape (Instance cell name xs) n ps ns is all more e =
    links_shape xs n ps ns is name.text cell.text [] all more e
    ∙ ap (λ qs. make n qs (nets_after ns (map net_text xs)) (is ++ inst name.text cell.text (map (link_of all) xs) ∷ [])) (sym (append-nil ps))

items_shape : (items : List Item) (n : List ℕ) (ps : List Port) (ns : List (List ℕ)) (is : List RawInst) (all : List (List ℕ))
    → all ≡ nets_after ns (flat_map nets_named items)
    → items_into (make n ps ns is) items ≡ make n (ps ++ flat_map (ports_of all) items) all (is ++ flat_map (insts_of all) items)
items_shape [] n ps ns is all e =
    ap (λ qs. make n qs ns is) (sym (append-nil ps)) ∙ ap (λ js. make n (ps ++ []) ns js) (sym (append-nil is)) ∙ ap (λ ms. make n (ps ++ []) ms (is ++ [])) (sym e)
items_shape (i ∷ items) n ps ns is all e =
    let k : all ≡ nets_after (nets_after ns (nets_named i)) (flat_map nets_named items) =
    e ∙ nets_after-append ns (nets_named i) (flat_map nets_named items) in
    ap (λ c. items_into c items) (item_shape i n ps ns is all (flat_map nets_named items) k)
    ∙ items_shape items n (ps ++ ports_of all i) (nets_after ns (nets_named i)) (is ++ insts_of all i) all k
    ∙ ap (λ qs. make n qs all ((is ++ insts_of all i) ++ flat_map (insts_of all) items)) (append_assoc ps (ports_of all i) (flat_map (ports_of all) items))
    ∙ ap (λ js. make n (ps ++ (ports_of all i ++ flat_map (ports_of all) items)) all js) (append_assoc is (insts_of all i) (flat_map (insts_of all) items))

pub tree_circuit : (t : Tree) → tree_into t ≡ circuit_of t
tree_circuit t =
    let names = flat_map nets_named t.items in
    items_shape t.items t.name.text [] [] [] (nets_after [] names) refl
    ∙ ap (λ ns. circuit_with ns t) (nets_are_firsts names)
