-- What a machine says of a text, token by token.

use Rattle.std.specs.Prelude.{◌≡◌, ℕ, ◌-◌, List, length, Option, None, Some, Result, Ok, Err}
use Rattle.gs_grammar.specs.Machine.{run}
use Rattle.gs_text.specs.declared.kinds.TextErr.{TextErr}
use Rattle.gs_drive.specs.declared.machine.Fault.{Fault}
use Rattle.gs_drive.specs.declared.machine.StepErr.{StepErr}
use Rattle.gs_drive.specs.declared.refusal.Refusal.{Refusal}

-- the error is the fault of the step, or memory ran out
abbrev pub StepFails : {S R : Type 0} → StepErr R → Result S (Fault R) → Type 0
StepFails (StepErr.Refused f) r = r ≡ Err f
StepFails StepErr.Full r = Unit {0}

-- the refusal of a text at token i
abbrev pub refused : {R : Type 0} → ℕ → Fault R → Refusal R
refused i Fault.Bad = Refusal.Bad i
refused i (Fault.Broken rule) = Refusal.Broken i rule

-- the refusal of a text whose token i isn't taken; a fault of the text after it comes first, and needs no memory
abbrev pub stopped : {R : Type 0} → Option TextErr → ℕ → StepErr R → Refusal R
stopped (Some e) i x = Refusal.Text e
stopped None i StepErr.Full = Refusal.Mem
stopped None i (StepErr.Refused f) = refused i f

-- what is read where the tokens end, count being their number
abbrev pub at_end : {V R : Type 0} → ℕ → Option V → Result V (Refusal R)
at_end count (Some v) = Ok v
at_end count None = Err (Refusal.Early count)

-- what a run over so many tokens says
abbrev pub ended : {S T V R : Type 0} → (end : S → Option V) → ℕ → Result S (Fault R × List T) → Result V (Refusal R)
ended end count (Ok s) = at_end count (end s)
ended end count (Err (f, rest)) = Err (refused (count - length rest) f)

-- what the machine says of the tokens of a text
abbrev pub judged : {S T V R : Type 0} → (step : S → T → Result S (Fault R)) (begin : S) (end : S → Option V) → Result (List T) TextErr → Result V (Refusal R)
judged step begin end (Ok ts) = ended end (length ts) (run step begin ts)
judged step begin end (Err e) = Err (Refusal.Text e)
