-- Each state of a run with the rules can be finished: some tokens take it to the end.

use Rattle.std.proofs.Common.{◌≡◌, ℕ, ◌+◌, ◌<◌, List, [], ◌∷◌, ◌++◌, length, map, eqb, refl, ap, ◌∙◌, Bool, true, false, Ok, Err, codes, if◌then◌else◌, arith, length-append}
use Rattle.std.specs.List.{flat_map, list_any, AllByRecursion}
use Rattle.std.specs.Str.{bytes_eq}
use Rattle.gs_grammar.specs.Machine.{run}
use Rattle.gs_grammar.proofs.Runs.{run-ok, run-nil}
use Rattle.gs_text.specs.declared.kinds.Kind.TheVariants.{Escaped}
use Rattle.gs_drive.specs.declared.machine.Fault.{Fault}
use Rattle.gs_verilog.specs.declared.error.Rule.{Rule}
use Rattle.gs_verilog.specs.Circuit.{Circuit, NetsFit}
use Rattle.gs_verilog.specs.Machine.{State, step, named_before, declared, with_inst, connected, has_port, has_inst, has_pin, last_has}
use Rattle.gs_verilog.specs.Text.{number}
use Rattle.gs_verilog.specs.Token.{Token, keyword, mark}
use Rattle.gs_verilog.specs.declared.machine.Place.{Place}
use Rattle.gs_verilog.specs.declared.machine.Place.TheVariants.{Start, Title, Titled, Header, Headed, HeaderNext, HeaderDone, Items, Names, Named, Instance, InstanceNamed, Pins, Pin, PinNamed, Net, NetNamed, Linked, NextPin, Closed, End}
use Rattle.gs_verilog.specs.declared.machine.Role.{Role}
use Rattle.gs_verilog.specs.declared.machine.Role.TheVariants.{Input, Output, Wire}
use Rattle.gs_verilog.specs.declared.parts.Link.{Link}
use Rattle.gs_verilog.specs.declared.parts.Port.{Port}
use Rattle.gs_verilog.specs.declared.parts.RawInst.{RawInst}
use Rattle.gs_verilog.proofs.Numbers.{absent-length, same_bytes}
use Rattle.gs_verilog.proofs.Sound.{at}

-- ---- a name that isn't in the circuit: longer than all of its names together

abbrev bytes_of : List (List ℕ) → List ℕ
bytes_of ns = flat_map (λ (n : List ℕ). n) ns

absent : (ns : List (List ℕ)) (x : List ℕ) → length (bytes_of ns) < length x → list_any (bytes_eq x) ns ≡ false
absent [] x h = refl
absent (n ∷ ns) x h =
    let both = length-append n (bytes_of ns) in
    absent_by n ns x (bytes_eq x n) refl (omega arith) (absent ns x (omega arith))
  where
    absent_by : (n : List ℕ) (ns : List (List ℕ)) (x : List ℕ) (b : Bool) → bytes_eq x n ≡ b → length n < length x
        → list_any (bytes_eq x) ns ≡ false → list_any (bytes_eq x) (n ∷ ns) ≡ false
    absent_by n ns x false e h later = rw (e, later) refl
    absent_by n ns x true e h later = let same = ap (λ (m : List ℕ). length m) (same_bytes x n e) in absurd (omega arith)

abbrev inst_names : List RawInst → List (List ℕ)
inst_names is = map (λ (i : RawInst). i.name) is

abbrev pin_names : List RawInst → List (List ℕ)
pin_names is = flat_map (λ (i : RawInst). map (λ (l : Link). l.pin) i.links) is

abbrev pub new_name : Circuit → List ℕ
new_name c = 97 ∷ (bytes_of c.nets ++ bytes_of (inst_names c.insts) ++ bytes_of (pin_names c.insts))

-- the name is no net's, no instance's and no pin's of the last instance
pub record IsNew (c : Circuit) (x : List ℕ) : Type 0 where
  pub port : has_port c x ≡ false
  pub inst : has_inst c x ≡ false
  pub pin : has_pin c x ≡ false

no_port : (ps : List Port) (n : ℕ) → AllByRecursion (λ (p : Port). p.net < n) ps → list_any (λ (p : Port). eqb n p.net) ps ≡ false
no_port [] n h = refl
no_port (p ∷ ps) n h = no_port_by p ps n (eqb n p.net) refl h.0 (no_port ps n h.1)
  where
    no_port_by : (p : Port) (ps : List Port) (n : ℕ) (b : Bool) → eqb n p.net ≡ b → p.net < n
        → list_any (λ (q : Port). eqb n q.net) ps ≡ false → list_any (λ (q : Port). eqb n q.net) (p ∷ ps) ≡ false
    no_port_by p ps n false e h later = rw (e, later) refl
    no_port_by p ps n true e h later = let k : false ≡ true = grind (arith, e, h) in cc

no_inst : (is : List RawInst) (x : List ℕ) → list_any (bytes_eq x) (inst_names is) ≡ false → list_any (λ (i : RawInst). bytes_eq x i.name) is ≡ false
no_inst [] x h = refl
no_inst (i ∷ is) x h = no_inst_by i is x (bytes_eq x i.name) refl (no_inst is x) h
  where
    no_inst_by : (i : RawInst) (is : List RawInst) (x : List ℕ) (b : Bool) → bytes_eq x i.name ≡ b
        → (list_any (bytes_eq x) (inst_names is) ≡ false → list_any (λ (j : RawInst). bytes_eq x j.name) is ≡ false)
        → list_any (bytes_eq x) (inst_names (i ∷ is)) ≡ false → list_any (λ (j : RawInst). bytes_eq x j.name) (i ∷ is) ≡ false
    no_inst_by i is x false e later h = let k : list_any (bytes_eq x) (inst_names is) ≡ false = rw e at h in rw e (later k)
    no_inst_by i is x true e later h = let k : true ≡ false = rw e at h in cc

no_link : (ls : List Link) (x : List ℕ) → length (bytes_of (map (λ (l : Link). l.pin) ls)) < length x → list_any (λ (l : Link). bytes_eq x l.pin) ls ≡ false
no_link [] x h = refl
no_link (l ∷ ls) x h =
    let both = length-append l.pin (bytes_of (map (λ (k : Link). k.pin) ls)) in
    no_link_by l ls x (bytes_eq x l.pin) refl (omega arith) (no_link ls x (omega arith))
  where
    no_link_by : (l : Link) (ls : List Link) (x : List ℕ) (b : Bool) → bytes_eq x l.pin ≡ b → length l.pin < length x
        → list_any (λ (k : Link). bytes_eq x k.pin) ls ≡ false → list_any (λ (k : Link). bytes_eq x k.pin) (l ∷ ls) ≡ false
    no_link_by l ls x false e h later = rw (e, later) refl
    no_link_by l ls x true e h later = let same = ap (λ (m : List ℕ). length m) (same_bytes x l.pin e) in absurd (omega arith)

bytes_of-append : (xs ys : List (List ℕ)) → length (bytes_of (xs ++ ys)) ≡ length (bytes_of xs) + length (bytes_of ys)
bytes_of-append [] ys = omega arith
bytes_of-append (x ∷ xs) ys = omega (arith, length-append x (bytes_of (xs ++ ys)), length-append x (bytes_of xs), bytes_of-append xs ys)

no_pin : (is : List RawInst) (x : List ℕ) → length (bytes_of (pin_names is)) < length x → last_has is x ≡ false
no_pin [] x h = refl
no_pin (i ∷ []) x h =
    let both = bytes_of-append (map (λ (l : Link). l.pin) i.links) [] in
    no_link i.links x (omega arith)
no_pin (i ∷ j ∷ is) x h =
    let both = bytes_of-append (map (λ (l : Link). l.pin) i.links) (pin_names (j ∷ is)) in
    no_pin (j ∷ is) x (omega arith)

pub is_new : (c : Circuit) → NetsFit c → IsNew c (new_name c)
is_new c fits =
    let x = new_name c in
    let ns = bytes_of c.nets in
    let is = bytes_of (inst_names c.insts) in
    let ps = bytes_of (pin_names c.insts) in
    let l1 = length-append (ns ++ is) ps in
    let l2 = length-append ns is in
    let free : list_any (bytes_eq x) c.nets ≡ false = absent c.nets x (omega arith) in
    let n : number c.nets x ≡ length c.nets = absent-length (bytes_eq x) c.nets free in
    record {
      port = ap (λ (k : ℕ). list_any (λ (p : Port). eqb k p.net) c.ports) n ∙ no_port c.ports (length c.nets) fits.ports;
      inst = no_inst c.insts x (absent (inst_names c.insts) x (omega arith));
      pin = no_pin c.insts x (omega arith);
    }

-- ---- the tokens that finish a state

abbrev name : List ℕ → Token
name x = record { kind = Escaped; text = x }

abbrev last : List Token
last = keyword (codes "endmodule") ∷ []

abbrev closing : List Token
closing = mark (codes ")") ∷ mark (codes ";") ∷ last

abbrev pub finish : Place → List ℕ → List Token
finish Start x = keyword (codes "module") ∷ name x ∷ mark (codes ";") ∷ last
finish Title x = name x ∷ mark (codes ";") ∷ last
finish Titled x = mark (codes ";") ∷ last
finish Header x = closing
finish Headed x = closing
finish HeaderNext x = name x ∷ closing
finish HeaderDone x = mark (codes ";") ∷ last
finish Items x = last
finish (Names role) x = name x ∷ mark (codes ";") ∷ last
finish (Named role) x = mark (codes ";") ∷ last
finish Instance x = name x ∷ mark (codes "(") ∷ closing
finish InstanceNamed x = mark (codes "(") ∷ closing
finish Pins x = closing
finish Pin x = name x ∷ mark (codes "(") ∷ name x ∷ mark (codes ")") ∷ closing
finish PinNamed x = mark (codes "(") ∷ name x ∷ mark (codes ")") ∷ closing
finish Net x = name x ∷ mark (codes ")") ∷ closing
finish NetNamed x = mark (codes ")") ∷ closing
finish Linked x = closing
finish NextPin x = mark (codes ".") ∷ name x ∷ mark (codes "(") ∷ name x ∷ mark (codes ")") ∷ closing
finish Closed x = mark (codes ";") ∷ last
finish End x = []

pub record Finished (s : State) (ts : List Token) : Type 0 where
  pub end : State
  pub by : run (step named_before) s ts ≡ Ok end
  pub place : end.place ≡ End

-- one step before a finish
before : (s m : State) (t : Token) (ts : List Token) → step named_before s t ≡ Ok m → Finished m ts → Finished s (t ∷ ts)
before s m t ts e f = record { end = f.end; by = run-ok (step named_before) s m t ts e ∙ f.by; place = f.place }

-- a step at which a rule is asked
asked : (b : Bool) (m : State) → b ≡ false → (if b then Err (Fault.Broken Rule.NamesDiffer) else Ok m) ≡ Ok m
asked b m e = rw e refl

finished_items : (c : Circuit) (cell pin : List ℕ) → Finished (at Items c cell pin) last
unfolding run
finished_items c cell pin = record { end = at End c (codes "endmodule") pin; by = refl; place = refl }

finished_semicolon : (p : Place) (c : Circuit) (cell pin : List ℕ) → step named_before (at p c cell pin) (mark (codes ";")) ≡ Ok (at Items c cell pin) → Finished (at p c cell pin) (mark (codes ";") ∷ last)
finished_semicolon p c cell pin e = before (at p c cell pin) (at Items c cell pin) (mark (codes ";")) last e (finished_items c cell pin)

finished_closing : (p q : Place) (c : Circuit) (cell pin : List ℕ)
    → step named_before (at p c cell pin) (mark (codes ")")) ≡ Ok (at q c cell pin)
    → step named_before (at q c cell pin) (mark (codes ";")) ≡ Ok (at Items c cell pin)
    → Finished (at p c cell pin) closing
finished_closing p q c cell pin e f = before (at p c cell pin) (at q c cell pin) (mark (codes ")")) (mark (codes ";") ∷ last) e (finished_semicolon q c cell pin f)

finished_linked : (c : Circuit) (cell pin : List ℕ) → Finished (at Linked c cell pin) closing
finished_linked c cell pin = finished_closing Linked Closed c cell pin refl refl

finished_net : (c : Circuit) (cell pin x : List ℕ) → Finished (at Net c cell pin) (finish Net x)
finished_net c cell pin x =
    let d = connected c pin x in
    before (at Net c cell pin) (at NetNamed d cell pin) (name x) _ refl
    (before (at NetNamed d cell pin) (at Linked d cell pin) (mark (codes ")")) _ refl (finished_linked d cell pin))

finished_pin : (c : Circuit) (cell pin x : List ℕ) → has_pin c x ≡ false → Finished (at Pin c cell pin) (finish Pin x)
finished_pin c cell pin x n =
    before (at Pin c cell pin) (at PinNamed c cell x) (name x) _ (asked (has_pin c x) (at PinNamed c cell x) n)
    (before (at PinNamed c cell x) (at Net c cell x) (mark (codes "(")) _ refl (finished_net c cell x x))

finished_opening : (c : Circuit) (cell pin x : List ℕ) → Finished (at InstanceNamed c cell pin) (finish InstanceNamed x)
finished_opening c cell pin x = before (at InstanceNamed c cell pin) (at Pins c cell pin) (mark (codes "(")) _ refl (finished_closing Pins Closed c cell pin refl refl)

finished_names : (role : Role) (c : Circuit) (cell pin x : List ℕ) → IsNew c x → Finished (at (Names role) c cell pin) (finish (Names role) x)
finished_names Input c cell pin x n =
    let d = declared Input c x in
    before (at (Names Input) c cell pin) (at (Named Input) d cell pin) (name x) _ (asked (has_port c x) (at (Named Input) d cell pin) n.port) (finished_semicolon (Named Input) d cell pin refl)
finished_names Output c cell pin x n =
    let d = declared Output c x in
    before (at (Names Output) c cell pin) (at (Named Output) d cell pin) (name x) _ (asked (has_port c x) (at (Named Output) d cell pin) n.port) (finished_semicolon (Named Output) d cell pin refl)
finished_names Wire c cell pin x n =
    let d = declared Wire c x in
    before (at (Names Wire) c cell pin) (at (Named Wire) d cell pin) (name x) _ refl (finished_semicolon (Named Wire) d cell pin refl)

finished_title : (c : Circuit) (cell pin x : List ℕ) → Finished (at Title c cell pin) (finish Title x)
finished_title c cell pin x =
    let d = record c { name = x } in
    before (at Title c cell pin) (at Titled d cell pin) (name x) _ refl (finished_semicolon Titled d cell pin refl)

finished_place : (p : Place) (c : Circuit) (cell pin x : List ℕ) → IsNew c x → Finished (at p c cell pin) (finish p x)
finished_place Start c cell pin x n = before (at Start c cell pin) (at Title c cell pin) (keyword (codes "module")) _ refl (finished_title c cell pin x)
finished_place Title c cell pin x n = finished_title c cell pin x
finished_place Titled c cell pin x n = finished_semicolon Titled c cell pin refl
finished_place Header c cell pin x n = finished_closing Header HeaderDone c cell pin refl refl
finished_place Headed c cell pin x n = finished_closing Headed HeaderDone c cell pin refl refl
finished_place HeaderNext c cell pin x n = before (at HeaderNext c cell pin) (at Headed c cell pin) (name x) _ refl (finished_closing Headed HeaderDone c cell pin refl refl)
finished_place HeaderDone c cell pin x n = finished_semicolon HeaderDone c cell pin refl
finished_place Items c cell pin x n = finished_items c cell pin
finished_place (Names role) c cell pin x n = finished_names role c cell pin x n
finished_place (Named role) c cell pin x n = finished_semicolon (Named role) c cell pin refl
finished_place Instance c cell pin x n =
    let d = with_inst c cell x in
    before (at Instance c cell pin) (at InstanceNamed d cell pin) (name x) _ (asked (has_inst c x) (at InstanceNamed d cell pin) n.inst) (finished_opening d cell pin x)
finished_place InstanceNamed c cell pin x n = finished_opening c cell pin x
finished_place Pins c cell pin x n = finished_closing Pins Closed c cell pin refl refl
finished_place Pin c cell pin x n = finished_pin c cell pin x n.pin
finished_place PinNamed c cell pin x n = before (at PinNamed c cell pin) (at Net c cell pin) (mark (codes "(")) _ refl (finished_net c cell pin x)
finished_place Net c cell pin x n = finished_net c cell pin x
finished_place NetNamed c cell pin x n = before (at NetNamed c cell pin) (at Linked c cell pin) (mark (codes ")")) _ refl (finished_linked c cell pin)
finished_place Linked c cell pin x n = finished_linked c cell pin
finished_place NextPin c cell pin x n = before (at NextPin c cell pin) (at Pin c cell pin) (mark (codes ".")) _ refl (finished_pin c cell pin x n.pin)
finished_place Closed c cell pin x n = finished_semicolon Closed c cell pin refl
finished_place End c cell pin x n = record { end = at End c cell pin; by = run-nil (step named_before) (at End c cell pin); place = refl }

pub finished : (s : State) → NetsFit s.circuit → Finished s (finish s.place (new_name s.circuit))
finished s fits = finished_place s.place s.circuit s.cell s.pin (new_name s.circuit) (is_new s.circuit fits)
