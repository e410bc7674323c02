-- The rules on names, kept from state to state: forward where no rule refuses, and back from a circuit that keeps them.

use Rattle.std.proofs.Common.{◌≡◌, ℕ, List, [], ◌∷◌, ◌++◌, map, refl, sym, ap, subst, ◌∙◌, Bool, true, false, ◌||◌, eqb, Option, None, Some, Result, Ok, Err}
use Rattle.std.specs.Cmp.{IsEquivalence}
use Rattle.std.specs.List.{AllByRecursion, IsDistinct, list_any}
use Rattle.std.specs.Str.{bytes_eq}
use Rattle.std.proofs.lemmas.Cmp.{nat_eq_equiv, nat_list_eq_equiv}
use Rattle.std.proofs.lemmas.List.{map-append}
use Rattle.std.proofs.lemmas.Map.Keys.{IsDistinct-push}
use Rattle.gs_grammar.specs.Machine.{run}
use Rattle.gs_grammar.proofs.Runs.{begins, run-nil, run-ok}
use Rattle.gs_drive.specs.declared.machine.Fault.{Fault}
use Rattle.gs_verilog.specs.declared.error.Rule.{Rule}
use Rattle.gs_verilog.specs.Circuit.{Circuit, NamesDiffer, PinsDiffer, port_net, inst_name, link_pin}
use Rattle.gs_verilog.specs.Machine.{State, step, no_rule, named_before, arrived, next, class, with_port, with_inst, with_link, connected, declared, has_port, has_inst, has_pin, last_has}
use Rattle.gs_verilog.specs.Text.{number}
use Rattle.gs_verilog.specs.Token.{Token}
use Rattle.gs_verilog.specs.declared.machine.Class.{Class}
use Rattle.gs_verilog.specs.declared.machine.Class.TheVariants.{Module, EndModule, Declares, Name, Open, Close, Comma, Dot, Semicolon}
use Rattle.gs_verilog.specs.declared.machine.Place.{Place}
use Rattle.gs_verilog.specs.declared.machine.Place.TheVariants.{Start, Title, Titled, Header, Headed, HeaderNext, HeaderDone, Items, Names, Named, Instance, InstanceNamed, Pins, Pin, PinNamed, Net, NetNamed, Linked, NextPin, Closed, End}
use Rattle.gs_verilog.specs.declared.machine.Role.TheVariants.{Input, Output, Wire}
use Rattle.gs_verilog.specs.declared.parts.Link.{Link}
use Rattle.gs_verilog.specs.declared.parts.RawInst.{RawInst}
use Rattle.gs_verilog.proofs.Sound.{at}

-- ---- lists whose elements differ

abbrev pub bytes_laws : IsEquivalence bytes_eq
bytes_laws = nat_list_eq_equiv

abbrev pub number_laws : IsEquivalence eqb
number_laws = nat_eq_equiv

list_any-map : {X Y : Type 0} (f : X → Y) (p : Y → Bool) (xs : List X) → list_any p (map f xs) ≡ list_any (λ x. p (f x)) xs
list_any-map f p [] = refl
list_any-map f p (x ∷ xs) = ap (λ b. p (f x) || b) (list_any-map f p xs)

pub All-push : {X : Type 0} (P : X → Type 0) (xs : List X) (y : X) → AllByRecursion P xs → P y → AllByRecursion P (xs ++ y ∷ [])
All-push P [] y h p = (p, tt)
All-push P (x ∷ xs) y h p = (h.0, All-push P xs y h.1 p)

pub All-pop : {X : Type 0} (P : X → Type 0) (xs : List X) (y : X) → AllByRecursion P (xs ++ y ∷ []) → AllByRecursion P xs × P y
All-pop P [] y h = (tt, h.0)
All-pop P (x ∷ xs) y h = let k = All-pop P xs y h.1 in ((h.0, k.0), k.1)

-- the last element is apart from the others
IsDistinct-pop : {K : Type 0} {eq : K → K → Bool} → IsEquivalence eq → (xs : List K) (y : K) → IsDistinct eq (xs ++ y ∷ []) → IsDistinct eq xs × (list_any (eq y) xs ≡ false)
unfolding IsDistinct
IsDistinct-pop laws [] y h = (tt, refl)
IsDistinct-pop {eq = eq} laws (x ∷ xs) y h =
    let k = IsDistinct-pop laws xs y h.1 in
    let a = All-pop (λ z. eq x z ≡ false) xs y h.0 in
    let e : eq y x ≡ false = laws.symm y x ∙ a.1 in
    ((a.0, k.0), rw (e, k.1) refl)

-- one more element, of which f gives the key
push_by : {X K : Type 0} {eq : K → K → Bool} → IsEquivalence eq → (f : X → K) (xs : List X) (y : X)
    → IsDistinct eq (map f xs) → list_any (λ x. eq (f y) (f x)) xs ≡ false → IsDistinct eq (map f (xs ++ y ∷ []))
push_by {eq = eq} laws f xs y h n =
    subst (IsDistinct eq) (sym (map-append f xs (y ∷ []))) (IsDistinct-push laws (map f xs) (f y) h (list_any-map f (eq (f y)) xs ∙ n))

pop_by : {X K : Type 0} {eq : K → K → Bool} → IsEquivalence eq → (f : X → K) (xs : List X) (y : X)
    → IsDistinct eq (map f (xs ++ y ∷ [])) → IsDistinct eq (map f xs) × (list_any (λ x. eq (f y) (f x)) xs ≡ false)
pop_by {eq = eq} laws f xs y h =
    let k = IsDistinct-pop laws (map f xs) (f y) (subst (IsDistinct eq) (map-append f xs (y ∷ [])) h) in
    (k.0, sym (list_any-map f (eq (f y)) xs) ∙ k.1)

-- ---- the last instance's pins

same_names : (is : List RawInst) (l : Link) → map inst_name (with_link is l) ≡ map inst_name is
same_names [] l = refl
same_names (i ∷ []) l = refl
same_names (i ∷ j ∷ is) l = ap (λ ns. i.name ∷ ns) (same_names (j ∷ is) l)

pins_on : (is : List RawInst) (l : Link) → AllByRecursion PinsDiffer is → last_has is l.pin ≡ false → AllByRecursion PinsDiffer (with_link is l)
pins_on [] l h n = tt
pins_on (i ∷ []) l h n = (push_by bytes_laws link_pin i.links l h.0 n, tt)
pins_on (i ∷ j ∷ is) l h n = (h.0, pins_on (j ∷ is) l h.1 n)

pins_back : (is : List RawInst) (l : Link) → AllByRecursion PinsDiffer (with_link is l) → AllByRecursion PinsDiffer is × (last_has is l.pin ≡ false)
pins_back [] l h = (tt, refl)
pins_back (i ∷ []) l h = let k = pop_by bytes_laws link_pin i.links l h.0 in ((k.0, tt), k.1)
pins_back (i ∷ j ∷ is) l h = let k = pins_back (j ∷ is) l h.1 in ((h.0, k.0), k.1)

-- ---- the rules at a state

-- between a pin's name and its net the pin isn't yet one of the last instance
abbrev pub Fresh : Place → Circuit → (pin : List ℕ) → Type 0
Fresh PinNamed c pin = has_pin c pin ≡ false
Fresh Net c pin = has_pin c pin ≡ false
Fresh _ c pin = Unit {0}

abbrev pub Good : State → Type 0
Good s = NamesDiffer s.circuit × Fresh s.place s.circuit s.pin

port_on : (input : Bool) (c : Circuit) (text : List ℕ) → NamesDiffer c → has_port c text ≡ false → NamesDiffer (with_port input c text)
port_on input c text h n =
    record { directions = push_by number_laws port_net c.ports (record { net = number c.nets text; input = input }) h.directions n; insts = h.insts; pins = h.pins }

port_back : (input : Bool) (c : Circuit) (text : List ℕ) → NamesDiffer (with_port input c text) → NamesDiffer c × (has_port c text ≡ false)
port_back input c text h =
    let k = pop_by number_laws port_net c.ports (record { net = number c.nets text; input = input }) h.directions in
    (record { directions = k.0; insts = h.insts; pins = h.pins }, k.1)

wire_on : (c : Circuit) (text : List ℕ) → NamesDiffer c → NamesDiffer (declared Wire c text)
wire_on c text h = record { directions = h.directions; insts = h.insts; pins = h.pins }

wire_back : (c : Circuit) (text : List ℕ) → NamesDiffer (declared Wire c text) → NamesDiffer c
wire_back c text h = record { directions = h.directions; insts = h.insts; pins = h.pins }

no_pins : (cell name : List ℕ) → PinsDiffer (record { name = name; cell = cell; links = [] })
unfolding IsDistinct
no_pins cell name = tt

inst_on : (c : Circuit) (cell text : List ℕ) → NamesDiffer c → has_inst c text ≡ false → NamesDiffer (with_inst c cell text)
inst_on c cell text h n =
    let i : RawInst = record { name = text; cell = cell; links = [] } in
    record {
      directions = h.directions;
      insts = push_by bytes_laws inst_name c.insts i h.insts n;
      pins = All-push PinsDiffer c.insts i h.pins (no_pins cell text);
    }

inst_back : (c : Circuit) (cell text : List ℕ) → NamesDiffer (with_inst c cell text) → NamesDiffer c × (has_inst c text ≡ false)
inst_back c cell text h =
    let i : RawInst = record { name = text; cell = cell; links = [] } in
    let k = pop_by bytes_laws inst_name c.insts i h.insts in
    (record { directions = h.directions; insts = k.0; pins = (All-pop PinsDiffer c.insts i h.pins).0 }, k.1)

link_on : (c : Circuit) (pin text : List ℕ) → NamesDiffer c → has_pin c pin ≡ false → NamesDiffer (connected c pin text)
link_on c pin text h n =
    let l : Link = record { pin = pin; net = number c.nets text } in
    record {
      directions = h.directions;
      insts = subst (IsDistinct bytes_eq) (sym (same_names c.insts l)) h.insts;
      pins = pins_on c.insts l h.pins n;
    }

link_back : (c : Circuit) (pin text : List ℕ) → NamesDiffer (connected c pin text) → NamesDiffer c × (has_pin c pin ≡ false)
link_back c pin text h =
    let l : Link = record { pin = pin; net = number c.nets text } in
    let k = pins_back c.insts l h.pins in
    (record { directions = h.directions; insts = subst (IsDistinct bytes_eq) (same_names c.insts l) h.insts; pins = k.0 }, k.1)

good_at : (x m : State) → ◌≡◌ {A = Result State (Fault Rule)} (Ok x) (Ok m) → Good m → Good x
good_at x m h g = let same : m ≡ x = cc in subst Good same g

good_to : (x m : State) → ◌≡◌ {A = Result State (Fault Rule)} (Ok x) (Ok m) → Good x → Good m
good_to x m h g = let same : x ≡ m = cc in subst Good same g

renamed : (c : Circuit) (text : List ℕ) → NamesDiffer (record c { name = text }) → NamesDiffer c
renamed c text h = record { directions = h.directions; insts = h.insts; pins = h.pins }

renamed_on : (c : Circuit) (text : List ℕ) → NamesDiffer c → NamesDiffer (record c { name = text })
renamed_on c text h = record { directions = h.directions; insts = h.insts; pins = h.pins }

-- what a state that follows says of the state before
abbrev Before : Place → Circuit → (pin text : List ℕ) → Type 0
Before p c pin text = NamesDiffer c × Fresh p c pin × (named_before p c text ≡ false)

goes_back : (p : Place) (k : Class) (c : Circuit) (cell pin text : List ℕ) (m : State)
    → arrived no_rule (next p k) (at p c cell pin) text ≡ Ok m → Good m → Before p c pin text
goes_back Start Module c cell pin text m h g = let q = good_at (at Title c cell pin) m h g in (q.0, tt, refl)
goes_back Title Name c cell pin text m h g = let q = good_at (at Titled (record c { name = text }) cell pin) m h g in (renamed c text q.0, tt, refl)
goes_back Titled Open c cell pin text m h g = let q = good_at (at Header c cell pin) m h g in (q.0, tt, refl)
goes_back Titled Semicolon c cell pin text m h g = let q = good_at (at Items c cell pin) m h g in (q.0, tt, refl)
goes_back Header Name c cell pin text m h g = let q = good_at (at Headed c cell pin) m h g in (q.0, tt, refl)
goes_back Header Close c cell pin text m h g = let q = good_at (at HeaderDone c cell pin) m h g in (q.0, tt, refl)
goes_back Headed Comma c cell pin text m h g = let q = good_at (at HeaderNext c cell pin) m h g in (q.0, tt, refl)
goes_back Headed Close c cell pin text m h g = let q = good_at (at HeaderDone c cell pin) m h g in (q.0, tt, refl)
goes_back HeaderNext Name c cell pin text m h g = let q = good_at (at Headed c cell pin) m h g in (q.0, tt, refl)
goes_back HeaderDone Semicolon c cell pin text m h g = let q = good_at (at Items c cell pin) m h g in (q.0, tt, refl)
goes_back Items (Declares role) c cell pin text m h g = let q = good_at (at (Names role) c text pin) m h g in (q.0, tt, refl)
goes_back Items Name c cell pin text m h g = let q = good_at (at Instance c text pin) m h g in (q.0, tt, refl)
goes_back Items EndModule c cell pin text m h g = let q = good_at (at End c text pin) m h g in (q.0, tt, refl)
goes_back (Names Input) Name c cell pin text m h g =
    let q = good_at (at (Named Input) (declared Input c text) cell pin) m h g in let b = port_back true c text q.0 in (b.0, tt, b.1)
goes_back (Names Output) Name c cell pin text m h g =
    let q = good_at (at (Named Output) (declared Output c text) cell pin) m h g in let b = port_back false c text q.0 in (b.0, tt, b.1)
goes_back (Names Wire) Name c cell pin text m h g =
    let q = good_at (at (Named Wire) (declared Wire c text) cell pin) m h g in (wire_back c text q.0, tt, refl)
goes_back (Named role) Comma c cell pin text m h g = let q = good_at (at (Names role) c cell pin) m h g in (q.0, tt, refl)
goes_back (Named role) Semicolon c cell pin text m h g = let q = good_at (at Items c cell pin) m h g in (q.0, tt, refl)
goes_back Instance Name c cell pin text m h g =
    let q = good_at (at InstanceNamed (with_inst c cell text) cell pin) m h g in let b = inst_back c cell text q.0 in (b.0, tt, b.1)
goes_back InstanceNamed Open c cell pin text m h g = let q = good_at (at Pins c cell pin) m h g in (q.0, tt, refl)
goes_back Pins Close c cell pin text m h g = let q = good_at (at Closed c cell pin) m h g in (q.0, tt, refl)
goes_back Pins Dot c cell pin text m h g = let q = good_at (at Pin c cell pin) m h g in (q.0, tt, refl)
goes_back Pin Name c cell pin text m h g = let q = good_at (at PinNamed c cell text) m h g in (q.0, tt, q.1)
goes_back PinNamed Open c cell pin text m h g = let q = good_at (at Net c cell pin) m h g in (q.0, q.1, refl)
goes_back Net Name c cell pin text m h g =
    let q = good_at (at NetNamed (connected c pin text) cell pin) m h g in let b = link_back c pin text q.0 in (b.0, b.1, refl)
goes_back NetNamed Close c cell pin text m h g = let q = good_at (at Linked c cell pin) m h g in (q.0, tt, refl)
goes_back Linked Comma c cell pin text m h g = let q = good_at (at NextPin c cell pin) m h g in (q.0, tt, refl)
goes_back Linked Close c cell pin text m h g = let q = good_at (at Closed c cell pin) m h g in (q.0, tt, refl)
goes_back NextPin Dot c cell pin text m h g = let q = good_at (at Pin c cell pin) m h g in (q.0, tt, refl)
goes_back Closed Semicolon c cell pin text m h g = let q = good_at (at Items c cell pin) m h g in (q.0, tt, refl)
goes_back _ _ c cell pin text m h g = cc

goes_on : (p : Place) (k : Class) (c : Circuit) (cell pin text : List ℕ) (m : State)
    → arrived no_rule (next p k) (at p c cell pin) text ≡ Ok m → Before p c pin text → Good m
goes_on Start Module c cell pin text m h b = good_to (at Title c cell pin) m h (b.0, tt)
goes_on Title Name c cell pin text m h b = good_to (at Titled (record c { name = text }) cell pin) m h (renamed_on c text b.0, tt)
goes_on Titled Open c cell pin text m h b = good_to (at Header c cell pin) m h (b.0, tt)
goes_on Titled Semicolon c cell pin text m h b = good_to (at Items c cell pin) m h (b.0, tt)
goes_on Header Name c cell pin text m h b = good_to (at Headed c cell pin) m h (b.0, tt)
goes_on Header Close c cell pin text m h b = good_to (at HeaderDone c cell pin) m h (b.0, tt)
goes_on Headed Comma c cell pin text m h b = good_to (at HeaderNext c cell pin) m h (b.0, tt)
goes_on Headed Close c cell pin text m h b = good_to (at HeaderDone c cell pin) m h (b.0, tt)
goes_on HeaderNext Name c cell pin text m h b = good_to (at Headed c cell pin) m h (b.0, tt)
goes_on HeaderDone Semicolon c cell pin text m h b = good_to (at Items c cell pin) m h (b.0, tt)
goes_on Items (Declares role) c cell pin text m h b = good_to (at (Names role) c text pin) m h (b.0, tt)
goes_on Items Name c cell pin text m h b = good_to (at Instance c text pin) m h (b.0, tt)
goes_on Items EndModule c cell pin text m h b = good_to (at End c text pin) m h (b.0, tt)
goes_on (Names Input) Name c cell pin text m h b = good_to (at (Named Input) (declared Input c text) cell pin) m h (port_on true c text b.0 b.2, tt)
goes_on (Names Output) Name c cell pin text m h b = good_to (at (Named Output) (declared Output c text) cell pin) m h (port_on false c text b.0 b.2, tt)
goes_on (Names Wire) Name c cell pin text m h b = good_to (at (Named Wire) (declared Wire c text) cell pin) m h (wire_on c text b.0, tt)
goes_on (Named role) Comma c cell pin text m h b = good_to (at (Names role) c cell pin) m h (b.0, tt)
goes_on (Named role) Semicolon c cell pin text m h b = good_to (at Items c cell pin) m h (b.0, tt)
goes_on Instance Name c cell pin text m h b = good_to (at InstanceNamed (with_inst c cell text) cell pin) m h (inst_on c cell text b.0 b.2, tt)
goes_on InstanceNamed Open c cell pin text m h b = good_to (at Pins c cell pin) m h (b.0, tt)
goes_on Pins Close c cell pin text m h b = good_to (at Closed c cell pin) m h (b.0, tt)
goes_on Pins Dot c cell pin text m h b = good_to (at Pin c cell pin) m h (b.0, tt)
goes_on Pin Name c cell pin text m h b = good_to (at PinNamed c cell text) m h (b.0, b.2)
goes_on PinNamed Open c cell pin text m h b = good_to (at Net c cell pin) m h (b.0, b.1)
goes_on Net Name c cell pin text m h b = good_to (at NetNamed (connected c pin text) cell pin) m h (link_on c pin text b.0 b.1, tt)
goes_on NetNamed Close c cell pin text m h b = good_to (at Linked c cell pin) m h (b.0, tt)
goes_on Linked Comma c cell pin text m h b = good_to (at NextPin c cell pin) m h (b.0, tt)
goes_on Linked Close c cell pin text m h b = good_to (at Closed c cell pin) m h (b.0, tt)
goes_on NextPin Dot c cell pin text m h b = good_to (at Pin c cell pin) m h (b.0, tt)
goes_on Closed Semicolon c cell pin text m h b = good_to (at Items c cell pin) m h (b.0, tt)
goes_on _ _ c cell pin text m h b = cc

-- ---- with the rules, and without

-- a step that is taken with the rules is taken without them, and no rule refuses it
pub record Allowed (s m : State) (t : Token) : Type 0 where
  pub free : step no_rule s t ≡ Ok m
  pub passes : named_before s.place s.circuit t.text ≡ false

allowed_by : (o : Option Place) (s m : State) (text : List ℕ) (b : Bool) → named_before s.place s.circuit text ≡ b
    → arrived named_before o s text ≡ Ok m → (arrived no_rule o s text ≡ Ok m) × (named_before s.place s.circuit text ≡ false)
allowed_by None s m text b e h = cc
allowed_by (Some to) s m text true e h = let k : Err (Fault.Broken Rule.NamesDiffer) ≡ Ok m = rw e at h in cc
allowed_by (Some to) s m text false e h = (rw e at h, e)

pub allowed : (s m : State) (t : Token) → step named_before s t ≡ Ok m → Allowed s m t
allowed s m t h =
    let k = allowed_by (next s.place (class t)) s m t.text (named_before s.place s.circuit t.text) refl h in
    record { free = k.0; passes = k.1 }

strict_by : (o : Option Place) (s m : State) (text : List ℕ) → named_before s.place s.circuit text ≡ false
    → arrived no_rule o s text ≡ Ok m → arrived named_before o s text ≡ Ok m
strict_by None s m text e h = cc
strict_by (Some to) s m text e h = rw e h

-- the rules stay kept
pub good_step : (s m : State) (t : Token) → step named_before s t ≡ Ok m → Good s → Good m
good_step s m t h g =
    let a = allowed s m t h in
    goes_on s.place (class t) s.circuit s.cell s.pin t.text m a.free (g.0, g.1, a.passes)

pub good_run : (ts : List Token) (s end : State) → run (step named_before) s ts ≡ Ok end → Good s → Good end
good_run [] s end h g = let same : s ≡ end = cc (run-nil (step named_before) s) in subst Good same g
good_run (t ∷ ts) s end h g =
    let b = begins (step named_before) s end t ts h in
    good_run ts b.middle end b.rest (good_step s b.middle t b.first g)

-- a run to a circuit that keeps the rules is a run with the rules
pub strict_run : (ts : List Token) (s end : State) → run (step no_rule) s ts ≡ Ok end → Good end → (run (step named_before) s ts ≡ Ok end) × Good s
strict_run [] s end h g =
    let same : s ≡ end = cc (run-nil (step no_rule) s) in
    (run-nil (step named_before) s ∙ ap Ok same, subst Good (sym same) g)
strict_run (t ∷ ts) s end h g =
    let b = begins (step no_rule) s end t ts h in
    let later = strict_run ts b.middle end b.rest g in
    let k = goes_back s.place (class t) s.circuit s.cell s.pin t.text b.middle b.first later.1 in
    (run-ok (step named_before) s b.middle t ts (strict_by (next s.place (class t)) s b.middle t.text k.2 b.first) ∙ later.0, (k.0, k.1))
