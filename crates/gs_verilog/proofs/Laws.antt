-- The machine and the relation say the same: a list of tokens is a netlist's text exactly where the machine ends in its circuit,
-- each state can be finished, and a fault of a rule is none of the form.

use Rattle.std.proofs.Common.{◌≡◌, ℕ, ◌-◌, ◌≤◌, List, ◌∷◌, ◌++◌, length, refl, sym, ap, subst, ◌∙◌, Bool, true, false, Option, None, Some, Result, Ok, Err, arith, length-append}
use Rattle.std.specs.List.{AllByRecursion, IsDistinct}
use Rattle.gs_drive.specs.Reader.{IsReader}
use Rattle.gs_drive.specs.declared.machine.Fault.{Fault}
use Rattle.gs_grammar.specs.Fronts.{IsFrontOf}
use Rattle.gs_grammar.specs.Machine.{run}
use Rattle.gs_grammar.proofs.Runs.{run-append}
use Rattle.gs_grammar.proofs.Refusals.{run-looser}
use Rattle.gs_text.specs.Pieces.{IsUnbroken}
use Rattle.gs_verilog.specs.Circuit.{Circuit, NamesDiffer, NetsFit, IsNetlist}
use Rattle.gs_verilog.specs.Machine.{State, step, no_rule, named_before, arrived, next, class, start, end_at, end_of}
use Rattle.gs_verilog.specs.Text.{VerilogText, IsText}
use Rattle.gs_verilog.specs.Token.{Token}
use Rattle.gs_verilog.specs.Tree.{IsForm}
use Rattle.gs_verilog.specs.declared.error.Rule.{Rule}
use Rattle.gs_verilog.specs.declared.machine.Place.{Place}
use Rattle.gs_verilog.specs.declared.machine.Place.TheVariants.{End}
use Rattle.gs_verilog.proofs.Agree.{tree_circuit}
use Rattle.gs_verilog.proofs.Complete.{form_taken}
use Rattle.gs_verilog.proofs.Finish.{finished}
use Rattle.gs_verilog.proofs.Fits.{HoldsAt, nets_fit, names_clean}
use Rattle.gs_verilog.proofs.Rules.{Good, Fresh, allowed, good_run, strict_run}
use Rattle.gs_verilog.proofs.Sound.{spelt}

abbrev pub strict : State → Token → Result State (Fault Rule)
strict = step named_before

abbrev pub free : State → Token → Result State (Fault Rule)
free = step no_rule

looser : (s m : State) (t : Token) → strict s t ≡ Ok m → free s t ≡ Ok m
looser s m t h = (allowed s m t h).free

free_run : (ts : List Token) (end : State) → run strict start ts ≡ Ok end → run free start ts ≡ Ok end
free_run ts end h = run-looser strict free looser start end ts h

start_good : Good start
unfolding IsDistinct
start_good = (record { directions = tt; insts = tt; pins = tt }, tt)

-- ---- texts

-- what the machine takes whole is a text
pub text_of_run : (ts : List Token) (end : State) → run strict start ts ≡ Ok end → end.place ≡ End → VerilogText ts end.circuit
text_of_run ts end h p =
    let t = spelt ts end (free_run ts end h) p in
    record { tree = t.tree; form = t.form; stands = t.makes ∙ tree_circuit t.tree; names = (good_run ts start end h start_good).0 }

pub record Whole (ts : List Token) (c : Circuit) : Type 0 where
  pub end : State
  pub by : run strict start ts ≡ Ok end
  pub place : end.place ≡ End
  pub circuit : end.circuit ≡ c

-- a text is taken whole
pub run_of_text : (ts : List Token) (c : Circuit) → VerilogText ts c → Whole ts c
run_of_text ts c t =
    let w = form_taken ts t.tree t.form in
    let same : w.end.circuit ≡ c = w.circuit ∙ tree_circuit t.tree ∙ sym t.stands in
    let P : Place → Type 0 = λ p. Fresh p w.end.circuit w.end.pin in
    let good : Good w.end = (subst NamesDiffer (sym same) t.names, subst P (sym w.place) tt) in
    record { end = w.end; by = (strict_run ts start w.end w.by good).0; place = w.place; circuit = same }

-- ---- fronts

fits : (ts : List Token) (s : State) → run free start ts ≡ Ok s → NetsFit s.circuit
fits ts s h = nets_fit ts s h

front_of_text : (ts : List Token) (s : State) → run strict start ts ≡ Ok s → IsFrontOf IsText ts
front_of_text ts s h =
    let f = finished s (fits ts s (free_run ts s h)) in
    (_, (f.end.circuit, text_of_run (ts ++ _) f.end (run-append strict start s ts _ h ∙ f.by) f.place))

front_of_form : (ts : List Token) (s : State) → run free start ts ≡ Ok s → IsFrontOf IsForm ts
front_of_form ts s h =
    let f = finished s (fits ts s h) in
    let t = spelt (ts ++ _) f.end (run-append free start s ts _ h ∙ run-looser strict free looser s f.end _ f.by) f.place in
    (_, (t.tree, t.form))

form_is_taken : (ts : List Token) → IsForm ts → (end : State) × (run free start ts ≡ Ok end)
form_is_taken ts f = let w = form_taken ts f.0 f.1 in (w.end, w.by)

-- ---- faults

bad_by : (o : Option Place) (s : State) (text : List ℕ) (b : Bool) → named_before s.place s.circuit text ≡ b
    → arrived named_before o s text ≡ Err Fault.Bad → (g : Fault Rule) × (arrived no_rule o s text ≡ Err g)
bad_by None s text b e h = (Fault.Bad, refl)
bad_by (Some to) s text true e h = let k : ◌≡◌ {A = Result State (Fault Rule)} (Err (Fault.Broken Rule.NamesDiffer)) (Err Fault.Bad) = rw e at h in cc
bad_by (Some to) s text false e h = let k = rw e at h in cc

bad_is_free : (s : State) (t : Token) → strict s t ≡ Err Fault.Bad → (g : Fault Rule) × (free s t ≡ Err g)
bad_is_free s t h = bad_by (next s.place (class t)) s t.text (named_before s.place s.circuit t.text) refl h

broken_by : (o : Option Place) (s : State) (text : List ℕ) (rule : Rule) (b : Bool) → named_before s.place s.circuit text ≡ b
    → arrived named_before o s text ≡ Err (Fault.Broken rule) → (m : State) × (arrived no_rule o s text ≡ Ok m)
broken_by None s text rule b e h = cc
broken_by (Some to) s text rule b e h = (_, refl)

broken_is_free : (s : State) (t : Token) (rule : Rule) → strict s t ≡ Err (Fault.Broken rule) → (m : State) × (free s t ≡ Ok m)
broken_is_free s t rule h = broken_by (next s.place (class t)) s t.text rule (named_before s.place s.circuit t.text) refl h

-- ---- whole texts

-- where what is read is whole
whole_at : (p : Place) (c d : Circuit) → end_at p c ≡ Some d → (p ≡ End) × (c ≡ d)
whole_at End c d h = (refl, cc)
whole_at _ c d h = cc

sound : (ts : List Token) (s : State) (c : Circuit) → run strict start ts ≡ Ok s → end_of s ≡ Some c → VerilogText ts c
sound ts s c h e =
    let k = whole_at s.place s.circuit c e in
    subst (VerilogText ts) k.1 (text_of_run ts s h k.0)

complete : (ts : List Token) (c : Circuit) → VerilogText ts c → (s : State) × ((run strict start ts ≡ Ok s) × (end_of s ≡ Some c))
complete ts c t =
    let w = run_of_text ts c t in
    (w.end, (w.by, ap (λ p. end_at p w.end.circuit) w.place ∙ ap Some w.circuit))

one_rule : (ts : List Token) (q r : Rule) → Unit {0} → Unit {0} → q ≡ r
one_rule ts Rule.NamesDiffer Rule.NamesDiffer v w = refl

-- the machine reads the form
pub is_reader : IsReader strict free start end_of IsForm VerilogText (λ _ (_ : Rule). Unit {0})
is_reader =
    record {
      looser = looser;
      bad = bad_is_free;
      broken = λ s t rule. broken_is_free s t rule;
      finished = front_of_text;
      finished_form = front_of_form;
      sound = sound;
      complete = complete;
      forms = λ ts c t. (t.tree, t.form);
      taken_form = form_is_taken;
      breaks = λ ts s t rule h e. tt;
      one_rule = one_rule;
    }

-- ---- what a netlist keeps

pub kept : (ts : List Token) (end : State) → run strict start ts ≡ Ok end → AllByRecursion (HoldsAt IsUnbroken) ts → IsNetlist end.circuit
kept ts end h c =
    let f = free_run ts end h in
    record { nets = nets_fit ts end f; names = (good_run ts start end h start_good).0; clean = names_clean ts end f c }
