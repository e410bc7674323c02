-- The machine reads the form: what it takes whole is a text, and each text is taken whole.

use Rattle.std.proofs.Common.{◌≡◌, ◌⊎◌, ℕ, ◌+◌, ◌≤◌, inl, inr, Bool, true, false, List, [], ◌∷◌, ◌++◌, length, refl, sym, ap, ◌∙◌, Some, Result, Ok, Err, arith}
use Rattle.gs_drive.specs.Reader.{IsReader}
use Rattle.gs_drive.specs.declared.machine.Fault.{Fault}
use Rattle.gs_grammar.specs.Fronts.{IsFrontOf}
use Rattle.gs_grammar.specs.Machine.{run}
use Rattle.gs_libtree.specs.Machine.{State, at, start, step, step_at, limit, no_limit, entered, end_at, end_of}
use Rattle.gs_libtree.specs.Text.{LibText, IsText, depth}
use Rattle.gs_libtree.specs.Token.{Token, word, quoted, opens, closes, enters, leaves, comma, semicolon, colon, other}
use Rattle.gs_libtree.specs.Tree.{IsForm}
use Rattle.gs_libtree.specs.declared.error.Rule.{Rule}
use Rattle.gs_libtree.specs.declared.reader.Place.{Place}
use Rattle.gs_libtree.specs.declared.reader.Place.TheVariants.{Start, Named, FirstArg, Arg, NextArg, Closed, Body, FirstValue, Values, Done}
use Rattle.gs_libtree.specs.declared.tree.Node.{Node}
use Rattle.gs_libtree.proofs.Complete.{tree_run}
use Rattle.gs_libtree.proofs.Deep.{shallow_fits, fits_shallow, all_fit}
use Rattle.gs_libtree.proofs.Finish.{Kept, kept_run, front}
use Rattle.gs_libtree.proofs.Left.{TreeLeft}
use Rattle.gs_libtree.proofs.Sound.{entered_ok, tree_left}

abbrev pub strict : State → Token → Result State (Fault Rule)
strict = step limit

abbrev pub free : State → Token → Result State (Fault Rule)
free = step no_limit

-- ---- trees and runs

text_of_left : (ts : List Token) (r : Node) → TreeLeft limit ts r → LibText ts r
text_of_left ts r q =
    let deep : 1 + depth q.tree.content ≤ 64 = fits_shallow q.tree.content 1 (omega arith) q.fits in
    record { tree = q.tree; spells = q.spells; stands = q.makes; shallow = omega arith }

run_of_text : (ts : List Token) (g : Node) → LibText ts g → run strict start ts ≡ Ok (at Done [] [] (g ∷ []))
run_of_text ts g t =
    ap (run strict start) t.spells ∙ tree_run limit t.tree refl (shallow_fits t.tree.content 1 (omega (arith, t.shallow)))
    ∙ ap (λ k. Ok (at Done [] [] (k ∷ []))) (sym t.stands)

form_taken : (ts : List Token) → IsForm ts → (end : State) × (run free start ts ≡ Ok end)
form_taken ts f = (_, ap (run free start) f.1 ∙ tree_run no_limit f.0 refl (all_fit f.0.content 1))

front_of_text : (ts : List Token) (s : State) → run strict start ts ≡ Ok s → IsFrontOf IsText ts
front_of_text ts s h = let f = front limit refl ts s h in (f.0, (f.1.0, text_of_left (ts ++ f.0) f.1.0 f.1.1))

front_of_form : (ts : List Token) (s : State) → run free start ts ≡ Ok s → IsFrontOf IsForm ts
front_of_form ts s h = let f = front no_limit refl ts s h in (f.0, (f.1.1.tree, f.1.1.spells))

-- ---- the two rules

looser_at : (p : Place) (t : Token) (n : List ℕ) (vs : List (List ℕ)) (gs : List Node) (m : State)
    → step_at limit p n vs gs t ≡ Ok m → step_at no_limit p n vs gs t ≡ Ok m
looser_at Closed enters n vs gs m h = (entered_ok (limit (length gs)) n vs gs m h).1
looser_at _ enters n vs gs m h = h
looser_at p (word t) n vs gs m h = h
looser_at p (quoted t) n vs gs m h = h
looser_at p opens n vs gs m h = h
looser_at p closes n vs gs m h = h
looser_at p leaves n vs gs m h = h
looser_at p comma n vs gs m h = h
looser_at p semicolon n vs gs m h = h
looser_at p colon n vs gs m h = h
looser_at p other n vs gs m h = h

looser : (s m : State) (t : Token) → strict s t ≡ Ok m → free s t ≡ Ok m
looser s m t h = looser_at s.place t s.name s.values s.groups m h

not_bad : (b : Bool) (n : List ℕ) (vs : List (List ℕ)) (gs : List Node) → entered b n vs gs ≡ Err Fault.Bad → ⊥
not_bad true n vs gs h = cc
not_bad false n vs gs h = cc

bad_at : (p : Place) (t : Token) (n : List ℕ) (vs : List (List ℕ)) (gs : List Node)
    → step_at limit p n vs gs t ≡ Err Fault.Bad → (g : Fault Rule) × (step_at no_limit p n vs gs t ≡ Err g)
bad_at Closed enters n vs gs h = absurd (not_bad (limit (length gs)) n vs gs h)
bad_at _ enters n vs gs h = (Fault.Bad, h)
bad_at p (word t) n vs gs h = (Fault.Bad, h)
bad_at p (quoted t) n vs gs h = (Fault.Bad, h)
bad_at p opens n vs gs h = (Fault.Bad, h)
bad_at p closes n vs gs h = (Fault.Bad, h)
bad_at p leaves n vs gs h = (Fault.Bad, h)
bad_at p comma n vs gs h = (Fault.Bad, h)
bad_at p semicolon n vs gs h = (Fault.Bad, h)
bad_at p colon n vs gs h = (Fault.Bad, h)
bad_at p other n vs gs h = (Fault.Bad, h)

bad_is_bad : (s : State) (t : Token) → strict s t ≡ Err Fault.Bad → (g : Fault Rule) × (free s t ≡ Err g)
bad_is_bad s t h = bad_at s.place t s.name s.values s.groups h

entered_deep : (b : Bool) (n : List ℕ) (vs : List (List ℕ)) (gs : List Node) (e : Fault Rule) → entered b n vs gs ≡ Err e → e ≡ Fault.Broken Rule.TooDeep
entered_deep true n vs gs e h = cc
entered_deep false n vs gs e h = cc

-- what refuses a token: no text of the form goes on with it, or a group would be too deep, and without the limit it is taken
abbrev Refuses : Place → List ℕ → List (List ℕ) → List Node → Token → Fault Rule → Type 0
Refuses p n vs gs t e = (e ≡ Fault.Bad) ⊎ ((e ≡ Fault.Broken Rule.TooDeep) × ((m : State) × (step_at no_limit p n vs gs t ≡ Ok m)))

refuses_at : (p : Place) (t : Token) (n : List ℕ) (vs : List (List ℕ)) (gs : List Node) (e : Fault Rule)
    → step_at limit p n vs gs t ≡ Err e → Refuses p n vs gs t e
refuses_at Closed enters n vs gs e h = inr (entered_deep (limit (length gs)) n vs gs e h, (_, refl))
refuses_at Named colon n vs [] e h = inl cc
refuses_at Named colon n vs (g ∷ gs) e h = inl cc
refuses_at Closed semicolon n vs [] e h = inl cc
refuses_at Closed semicolon n vs (g ∷ gs) e h = inl cc
refuses_at Body leaves n vs [] e h = inl cc
refuses_at Body leaves n vs (f ∷ []) e h = inl cc
refuses_at Body leaves n vs (f ∷ g ∷ gs) e h = inl cc
refuses_at Start (word t) n vs gs e h = inl cc
refuses_at Named (word t) n vs gs e h = inl cc
refuses_at FirstArg (word t) n vs gs e h = inl cc
refuses_at Arg (word t) n vs gs e h = inl cc
refuses_at NextArg (word t) n vs gs e h = inl cc
refuses_at Closed (word t) n vs gs e h = inl cc
refuses_at Body (word t) n vs gs e h = inl cc
refuses_at FirstValue (word t) n vs gs e h = inl cc
refuses_at Values (word t) n vs gs e h = inl cc
refuses_at Done (word t) n vs gs e h = inl cc
refuses_at _ _ n vs gs e h = inl cc

deep_by : (s : State) (t : Token) (rule : Rule) → Refuses s.place s.name s.values s.groups t (Fault.Broken rule) → (m : State) × (free s t ≡ Ok m)
deep_by s t rule (inl e) = cc
deep_by s t rule (inr r) = r.1

deep_is_free : (s : State) (t : Token) (rule : Rule) → strict s t ≡ Err (Fault.Broken rule) → (m : State) × (free s t ≡ Ok m)
deep_is_free s t rule h = deep_by s t rule (refuses_at s.place t s.name s.values s.groups (Fault.Broken rule) h)

-- ---- whole texts

-- where what is read is whole
whole_at : (p : Place) (gs : List Node) (g : Node) → Kept p gs → end_at p gs ≡ Some g → (p ≡ Done) × (gs ≡ g ∷ [])
whole_at Done [] g k h = absurd k
whole_at Done (f ∷ []) g k h = let same : f ≡ g = cc in (refl, ap (λ x. x ∷ []) same)
whole_at Done (f ∷ h ∷ gs) g k e = absurd k
whole_at _ gs g k h = cc

sound : (ts : List Token) (s : State) (g : Node) → run strict start ts ≡ Ok s → end_of s ≡ Some g → LibText ts g
sound ts s g e h =
    let k = whole_at s.place s.groups g (kept_run limit ts start s e tt) h in
    text_of_left ts g (tree_left limit ts s g e k.0 k.1)

complete : (ts : List Token) (g : Node) → LibText ts g → (s : State) × ((run strict start ts ≡ Ok s) × (end_of s ≡ Some g))
complete ts g t = (at Done [] [] (g ∷ []), (run_of_text ts g t, refl))

one_rule : (ts : List Token) (q r : Rule) → Unit {0} → Unit {0} → q ≡ r
one_rule ts Rule.TooDeep Rule.TooDeep v w = refl

-- the machine reads the form
pub is_reader : IsReader strict free start end_of IsForm LibText (λ _ (_ : Rule). Unit {0})
is_reader =
    record {
      looser = looser;
      bad = bad_is_bad;
      broken = λ s t rule. deep_is_free s t rule;
      finished = front_of_text;
      finished_form = front_of_form;
      sound = sound;
      complete = complete;
      forms = λ ts g t. (t.tree, t.spells);
      taken_form = form_taken;
      breaks = λ ts s t rule h e. tt;
      one_rule = one_rule;
    }
