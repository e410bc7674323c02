-- The first of several refusals, and what a call answers of it.

use Rattle.std.specs.Prelude.{◌≡◌, ◌≢◌, List, [], ◌∷◌, Option, None, Some, Result, MatchResult}
use Rattle.gs_survey.specs.declared.error.LinkErr.{LinkErr}
use Rattle.gs_survey.specs.declared.error.LinkErr.TheVariants as errors

-- this refusal, or else what comes later
abbrev pub or_else : {F : Type 0} → Option F → Option F → Option F
or_else None later = later
or_else (Some f) later = Some f

-- the refusal of the first that has one
abbrev pub first_some : {A F : Type 0} → (A → Option F) → List A → Option F
first_some f [] = None
first_some f (x ∷ xs) = or_else (f x) (first_some f xs)

-- an error other than want of memory is this refusal
abbrev pub Refuses : Option LinkErr → LinkErr → Type 0
Refuses o e = e ≢ errors.Mem → o ≡ Some e

-- what a check answers: it passes where there is no refusal, and else gives it
abbrev pub Checks : {T : Type 0} → Option LinkErr → Result T LinkErr → Type 0
Checks o r = MatchResult r (λ _. o ≡ None) (λ e. Refuses o e)
