-- When a machine reads a form: what is proved of it, once, by the reader.

use Rattle.std.specs.Prelude.{◌≡◌, List, [], ◌∷◌, ◌++◌, Option, Some, Result, Ok, Err}
use Rattle.gs_grammar.specs.Fronts.{IsFrontOf}
use Rattle.gs_grammar.specs.Machine.{run}
use Rattle.gs_drive.specs.Cause.{IsText}
use Rattle.gs_drive.specs.declared.machine.Fault.{Fault}

-- strict is the step by the form and the rules, loose the step by the form alone
pub record IsReader {S T R V : Type 0} (strict loose : S → T → Result S (Fault R)) (begin : S) (end : S → Option V)
    (Form : List T → Type 0) (Text : List T → V → Type 0) (Breaks : List T → R → Type 0) : Type 0 where
  -- what is taken by the rules is taken without them, with the same states
  pub looser : (s m : S) (t : T) → strict s t ≡ Ok m → loose s t ≡ Ok m
  -- a bad token is bad without the rules too, and one that breaks a rule is taken without them
  pub bad : (s : S) (t : T) → strict s t ≡ Err Fault.Bad → (g : Fault R) × (loose s t ≡ Err g)
  pub broken : (s : S) (t : T) (rule : R) → strict s t ≡ Err (Fault.Broken rule) → (m : S) × (loose s t ≡ Ok m)
  -- each state that is reached can be finished
  pub finished : (ts : List T) (s : S) → run strict begin ts ≡ Ok s → IsFrontOf (IsText Text) ts
  pub finished_form : (ts : List T) (s : S) → run loose begin ts ≡ Ok s → IsFrontOf Form ts
  -- what is taken whole is a text, and each text is taken whole
  pub sound : (ts : List T) (s : S) (v : V) → run strict begin ts ≡ Ok s → end s ≡ Some v → Text ts v
  pub complete : (ts : List T) (v : V) → Text ts v → (s : S) × ((run strict begin ts ≡ Ok s) × (end s ≡ Some v))
  -- a text is of the form, and each list of the form is taken without the rules
  pub forms : (ts : List T) (v : V) → Text ts v → Form ts
  pub taken_form : (ts : List T) → Form ts → (s : S) × (run loose begin ts ≡ Ok s)
  -- the rule of a fault is the one that the token breaks, and a token breaks one rule at most
  pub breaks : (ts : List T) (s : S) (t : T) (rule : R) → run strict begin ts ≡ Ok s → strict s t ≡ Err (Fault.Broken rule) → Breaks (ts ++ t ∷ []) rule
  pub one_rule : (ts : List T) (q r : R) → Breaks ts q → Breaks ts r → q ≡ r
