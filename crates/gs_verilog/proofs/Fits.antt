-- What every state of a run keeps: net numbers are places, names of nets differ, and instances have clean names.

use Rattle.std.proofs.Common.{◌≡◌, ℕ, ◌+◌, ◌<◌, ◌≤◌, List, [], ◌∷◌, length, refl, sym, ap, subst, Bool, true, false, Option, None, Some, Ok, arith, length-append}
use Rattle.std.specs.List.{AllByRecursion, IsDistinct, list_any, position_or_len}
use Rattle.std.specs.Str.{bytes_eq}
use Rattle.std.proofs.lemmas.Map.Keys.{IsDistinct-push}
use Rattle.gs_grammar.specs.Machine.{run}
use Rattle.gs_grammar.proofs.Runs.{begins, run-nil}
use Rattle.gs_text.specs.declared.kinds.Kind.{Kind}
use Rattle.gs_text.specs.declared.kinds.Kind.TheVariants.{Word, Escaped, Text, Mark}
use Rattle.gs_text.specs.Pieces.{IsUnbroken}
use Rattle.gs_verilog.specs.Circuit.{Circuit, NetsFit, LinksInside}
use Rattle.gs_verilog.specs.Machine.{State, step, no_rule, arrived, next, moved, class, with_port, with_inst, with_link, with_net, connected, declared, empty, start}
use Rattle.gs_verilog.specs.Text.{number}
use Rattle.gs_verilog.specs.Token.{Token, is_name_of}
use Rattle.gs_verilog.specs.declared.machine.Class.{Class}
use Rattle.gs_verilog.specs.declared.machine.Class.TheVariants.{Name}
use Rattle.gs_verilog.specs.declared.machine.Place.{Place}
use Rattle.gs_verilog.specs.declared.machine.Place.TheVariants.{Start, Title, Titled, Header, Headed, HeaderNext, HeaderDone, Items, Names, Named, Instance, InstanceNamed, Pins, Pin, PinNamed, Net, NetNamed, Linked, NextPin, Closed, End}
use Rattle.gs_verilog.specs.declared.machine.Role.TheVariants.{Input, Output, Wire}
use Rattle.gs_verilog.specs.declared.parts.Link.{Link}
use Rattle.gs_verilog.specs.declared.parts.Port.{Port}
use Rattle.gs_verilog.specs.declared.parts.RawInst.{RawInst}
use Rattle.gs_verilog.proofs.Classes.{means}
use Rattle.gs_verilog.proofs.Numbers.{with_net-known, with_net-new, with_net-has, number-put}
use Rattle.gs_verilog.proofs.Rules.{bytes_laws, All-push}

-- ---- numbers of nets

found-lt : {X : Type 0} (p : X → Bool) (xs : List X) → list_any p xs ≡ true → position_or_len p xs < length xs
found-lt p [] h = cc
found-lt p (x ∷ xs) h = found_by p x xs (p x) refl (found-lt p xs) h
  where
    found_by : {X : Type 0} (p : X → Bool) (x : X) (xs : List X) (b : Bool) → p x ≡ b
        → (list_any p xs ≡ true → position_or_len p xs < length xs) → list_any p (x ∷ xs) ≡ true → position_or_len p (x ∷ xs) < length (x ∷ xs)
    found_by p x xs true e later h = rw e (omega arith)
    found_by p x xs false e later h = let k : list_any p xs ≡ true = rw e at h in let ih = later k in rw e (omega arith)

number-lt : (ns : List (List ℕ)) (x : List ℕ) → number ns x < length (with_net ns x)
number-lt ns x =
    let b = list_any (bytes_eq x) ns in
    let lt = found-lt (bytes_eq x) (with_net ns x) (with_net-has ns x b refl) in
    subst (λ n. n < length (with_net ns x)) (number-put ns x b refl) lt

pub with_net-longer : (ns : List (List ℕ)) (x : List ℕ) (b : Bool) → list_any (bytes_eq x) ns ≡ b → length ns ≤ length (with_net ns x)
with_net-longer ns x true e = let k = ap (λ (ms : List (List ℕ)). length ms) (with_net-known ns x e) in omega arith
with_net-longer ns x false e =
    let k = ap (λ (ms : List (List ℕ)). length ms) (with_net-new ns x e) in omega (arith, length-append ns (x ∷ []))

pub with_net-few : (ns : List (List ℕ)) (x : List ℕ) (b : Bool) → list_any (bytes_eq x) ns ≡ b → length (with_net ns x) ≤ length ns + 1
with_net-few ns x true e = let k = ap (λ (ms : List (List ℕ)). length ms) (with_net-known ns x e) in omega arith
with_net-few ns x false e =
    let k = ap (λ (ms : List (List ℕ)). length ms) (with_net-new ns x e) in omega (arith, length-append ns (x ∷ []))

with_net-differ : (ns : List (List ℕ)) (x : List ℕ) (b : Bool) → list_any (bytes_eq x) ns ≡ b → IsDistinct bytes_eq ns → IsDistinct bytes_eq (with_net ns x)
with_net-differ ns x true e h = subst (IsDistinct bytes_eq) (sym (with_net-known ns x e)) h
with_net-differ ns x false e h = subst (IsDistinct bytes_eq) (sym (with_net-new ns x e)) (IsDistinct-push bytes_laws ns x h e)

ports_wider : (ps : List Port) (n m : ℕ) → n ≤ m → AllByRecursion (λ (p : Port). p.net < n) ps → AllByRecursion (λ (p : Port). p.net < m) ps
ports_wider [] n m le h = tt
ports_wider (p ∷ ps) n m le h = (omega (arith, h.0), ports_wider ps n m le h.1)

links_wider : (ls : List Link) (n m : ℕ) → n ≤ m → AllByRecursion (λ (l : Link). l.net < n) ls → AllByRecursion (λ (l : Link). l.net < m) ls
links_wider [] n m le h = tt
links_wider (l ∷ ls) n m le h = (omega (arith, h.0), links_wider ls n m le h.1)

insts_wider : (is : List RawInst) (n m : ℕ) → n ≤ m → AllByRecursion (LinksInside n) is → AllByRecursion (LinksInside m) is
insts_wider [] n m le h = tt
insts_wider (i ∷ is) n m le h = (links_wider i.links n m le h.0, insts_wider is n m le h.1)

link_fits : (is : List RawInst) (l : Link) (n : ℕ) → l.net < n → AllByRecursion (LinksInside n) is → AllByRecursion (LinksInside n) (with_link is l)
link_fits [] l n lt h = tt
link_fits (i ∷ []) l n lt h = (All-push (λ (k : Link). k.net < n) i.links l h.0 lt, tt)
link_fits (i ∷ j ∷ is) l n lt h = (h.0, link_fits (j ∷ is) l n lt h.1)

longer : (c : Circuit) (x : List ℕ) → length c.nets ≤ length (with_net c.nets x)
longer c x = with_net-longer c.nets x (list_any (bytes_eq x) c.nets) refl

differ : (c : Circuit) (x : List ℕ) → NetsFit c → IsDistinct bytes_eq (with_net c.nets x)
differ c x h = with_net-differ c.nets x (list_any (bytes_eq x) c.nets) refl h.differ

port_fits : (input : Bool) (c : Circuit) (x : List ℕ) → NetsFit c → NetsFit (with_port input c x)
port_fits input c x h =
    let n = length (with_net c.nets x) in
    let p : Port = record { net = number c.nets x; input = input } in
    record {
      ports = All-push (λ (q : Port). q.net < n) c.ports p (ports_wider c.ports (length c.nets) n (longer c x) h.ports) (number-lt c.nets x);
      links = insts_wider c.insts (length c.nets) n (longer c x) h.links;
      differ = differ c x h;
    }

wire_fits : (c : Circuit) (x : List ℕ) → NetsFit c → NetsFit (declared Wire c x)
wire_fits c x h =
    let n = length (with_net c.nets x) in
    record {
      ports = ports_wider c.ports (length c.nets) n (longer c x) h.ports;
      links = insts_wider c.insts (length c.nets) n (longer c x) h.links;
      differ = differ c x h;
    }

inst_fits : (c : Circuit) (cell x : List ℕ) → NetsFit c → NetsFit (with_inst c cell x)
inst_fits c cell x h =
    let i : RawInst = record { name = x; cell = cell; links = [] } in
    record { ports = h.ports; links = All-push (LinksInside (length c.nets)) c.insts i h.links tt; differ = h.differ }

connected_fits : (c : Circuit) (pin x : List ℕ) → NetsFit c → NetsFit (connected c pin x)
connected_fits c pin x h =
    let n = length (with_net c.nets x) in
    let l : Link = record { pin = pin; net = number c.nets x } in
    record {
      ports = ports_wider c.ports (length c.nets) n (longer c x) h.ports;
      links = link_fits c.insts l n (number-lt c.nets x) (insts_wider c.insts (length c.nets) n (longer c x) h.links);
      differ = differ c x h;
    }

-- ---- names of instances, of which K holds where it holds of each token that is a name

abbrev pub Each : (List ℕ → Type 0) → List RawInst → Type 0
Each K is = AllByRecursion (λ (i : RawInst). K i.name) is

each_link : (K : List ℕ → Type 0) (is : List RawInst) (l : Link) → Each K is → Each K (with_link is l)
each_link K [] l h = tt
each_link K (i ∷ []) l h = h
each_link K (i ∷ j ∷ is) l h = (h.0, each_link K (j ∷ is) l h.1)

abbrev pub HoldsOf : (List ℕ → Type 0) → Kind → List ℕ → Type 0
HoldsOf K Word text = K text
HoldsOf K Escaped text = K text
HoldsOf K Text text = Unit {0}
HoldsOf K Mark text = Unit {0}

abbrev pub HoldsAt : (List ℕ → Type 0) → Token → Type 0
HoldsAt K t = HoldsOf K t.kind t.text

holds_of : (K : List ℕ → Type 0) (kind : Kind) (text : List ℕ) → is_name_of kind text ≡ true → HoldsOf K kind text → K text
holds_of K Word text h c = c
holds_of K Escaped text h c = c
holds_of K Text text h c = cc
holds_of K Mark text h c = cc

-- what an instance's name has to be
abbrev NameAt : (List ℕ → Type 0) → Place → List ℕ → Type 0
NameAt K Instance text = K text
NameAt K _ text = Unit {0}

name_at : (K : List ℕ → Type 0) (p : Place) (k : Class) (t : Token) (s m : State) → class t ≡ k → arrived no_rule (next p k) s t.text ≡ Ok m → HoldsAt K t → NameAt K p t.text
name_at K Instance Name t s m e h c = holds_of K t.kind t.text (means t Name e) c
name_at K Instance k t s m e h c = cc
name_at K _ k t s m e h c = tt

-- ---- one step

pub record Fit (K : List ℕ → Type 0) (c : Circuit) : Type 0 where
  pub nets : NetsFit c
  pub names : Each K c.insts

moved_fits : (K : List ℕ → Type 0) (p to : Place) (c : Circuit) (cell pin text : List ℕ) → NameAt K p text → Fit K c → Fit K (moved p to c cell pin text).circuit
moved_fits K Title to c cell pin text k h =
    record { nets = record { ports = h.nets.ports; links = h.nets.links; differ = h.nets.differ }; names = h.names }
moved_fits K (Names Input) to c cell pin text k h = record { nets = port_fits true c text h.nets; names = h.names }
moved_fits K (Names Output) to c cell pin text k h = record { nets = port_fits false c text h.nets; names = h.names }
moved_fits K (Names Wire) to c cell pin text k h = record { nets = wire_fits c text h.nets; names = h.names }
moved_fits K Instance to c cell pin text k h =
    record { nets = inst_fits c cell text h.nets; names = All-push (λ (i : RawInst). K i.name) c.insts (record { name = text; cell = cell; links = [] }) h.names k }
moved_fits K Net to c cell pin text k h =
    record { nets = connected_fits c pin text h.nets; names = each_link K c.insts (record { pin = pin; net = number c.nets text }) h.names }
moved_fits K Start to c cell pin text k h = h
moved_fits K Titled to c cell pin text k h = h
moved_fits K Header to c cell pin text k h = h
moved_fits K Headed to c cell pin text k h = h
moved_fits K HeaderNext to c cell pin text k h = h
moved_fits K HeaderDone to c cell pin text k h = h
moved_fits K Items to c cell pin text k h = h
moved_fits K (Named role) to c cell pin text k h = h
moved_fits K InstanceNamed to c cell pin text k h = h
moved_fits K Pins to c cell pin text k h = h
moved_fits K Pin to c cell pin text k h = h
moved_fits K PinNamed to c cell pin text k h = h
moved_fits K NetNamed to c cell pin text k h = h
moved_fits K Linked to c cell pin text k h = h
moved_fits K NextPin to c cell pin text k h = h
moved_fits K Closed to c cell pin text k h = h
moved_fits K End to c cell pin text k h = h

arrived_fits : (K : List ℕ → Type 0) (o : Option Place) (s m : State) (text : List ℕ) → arrived no_rule o s text ≡ Ok m → NameAt K s.place text → Fit K s.circuit → Fit K m.circuit
arrived_fits K None s m text h k f = cc
arrived_fits K (Some to) s m text h k f =
    let same : moved s.place to s.circuit s.cell s.pin text ≡ m = cc in
    let P : State → Type 0 = λ x. Fit K x.circuit in
    subst P same (moved_fits K s.place to s.circuit s.cell s.pin text k f)

fit_step : (K : List ℕ → Type 0) (s m : State) (t : Token) → step no_rule s t ≡ Ok m → HoldsAt K t → Fit K s.circuit → Fit K m.circuit
fit_step K s m t h c f =
    arrived_fits K (next s.place (class t)) s m t.text h (name_at K s.place (class t) t s m refl h c) f

pub fit_run : (K : List ℕ → Type 0) (ts : List Token) (s end : State) → run (step no_rule) s ts ≡ Ok end → AllByRecursion (HoldsAt K) ts → Fit K s.circuit → Fit K end.circuit
fit_run K [] s end h c f =
    let same : s ≡ end = cc (run-nil (step no_rule) s) in
    let P : State → Type 0 = λ x. Fit K x.circuit in
    subst P same f
fit_run K (t ∷ ts) s end h c f =
    let b = begins (step no_rule) s end t ts h in
    fit_run K ts b.middle end b.rest c.1 (fit_step K s b.middle t b.first c.0 f)

-- the circuit at the start
empty_fit : (K : List ℕ → Type 0) → Fit K empty
unfolding IsDistinct
empty_fit K = record { nets = record { ports = tt; links = tt; differ = tt }; names = tt }

-- nothing is asked of a name
abbrev Any : List ℕ → Type 0
Any text = Unit {0}

any_of : (kind : Kind) (text : List ℕ) → HoldsOf Any kind text
any_of Word text = tt
any_of Escaped text = tt
any_of Text text = tt
any_of Mark text = tt

any_tokens : (ts : List Token) → AllByRecursion (HoldsAt Any) ts
any_tokens [] = tt
any_tokens (t ∷ ts) = (any_of t.kind t.text, any_tokens ts)

-- the nets of every run fit
pub nets_fit : (ts : List Token) (end : State) → run (step no_rule) start ts ≡ Ok end → NetsFit end.circuit
nets_fit ts end h = (fit_run Any ts start end h (any_tokens ts) (empty_fit Any)).nets

-- instances of a run over clean tokens have clean names
pub names_clean : (ts : List Token) (end : State) → run (step no_rule) start ts ≡ Ok end → AllByRecursion (HoldsAt IsUnbroken) ts → Each IsUnbroken end.circuit.insts
names_clean ts end h c = (fit_run IsUnbroken ts start end h c (empty_fit IsUnbroken)).names
