-- What a text is read as, and the cause of each refusal.

use Rattle.std.specs.Prelude.{ℕ, ◌+◌, List, take, Result}
use Rattle.gs_grammar.specs.Fronts.{IsFirstBad, IsFirstBroken, EndsEarly}
use Rattle.gs_text.specs.declared.kinds.TextErr.{TextErr}
use Rattle.gs_drive.specs.Tokens.{OfTokens}
use Rattle.gs_drive.specs.declared.refusal.Refusal.{Refusal}

-- the tokens are a whole text
abbrev pub IsText : {T V : Type 0} → (Text : List T → V → Type 0) → List T → Type 0
IsText {V = V} Text ts = (v : V) × Text ts v

-- the tokens are a whole text that stands for the value
abbrev pub Reads : {T V : Type 0} → (Text : List T → V → Type 0) → Result (List T) TextErr → V → Type 0
Reads Text found v = OfTokens found (λ ts. Text ts v)

-- token i is the first that breaks a rule, where the form would go on, and this is the rule
abbrev pub BreaksAt : {T R : Type 0} → (Form Whole : List T → Type 0) (Breaks : List T → R → Type 0) → List T → ℕ → R → Type 0
BreaksAt Form Whole Breaks ts i rule = IsFirstBroken Form Whole ts i × Breaks (take (i + 1) ts) rule

-- the cause of each refusal: a fault of the text by which it has no tokens, or a place among its tokens
abbrev pub Cause : {T V R : Type 0} → (HasFault : TextErr → Type 0) (Form : List T → Type 0) (Text : List T → V → Type 0) (Breaks : List T → R → Type 0)
    → Result (List T) TextErr → Refusal R → Type 0
Cause HasFault Form Text Breaks found (Refusal.Text e) = HasFault e
Cause HasFault Form Text Breaks found (Refusal.Bad i) = OfTokens found (λ ts. IsFirstBad Form (IsText Text) ts i)
Cause HasFault Form Text Breaks found (Refusal.Broken i rule) = OfTokens found (λ ts. BreaksAt Form (IsText Text) Breaks ts i rule)
Cause HasFault Form Text Breaks found (Refusal.Early i) = OfTokens found (λ ts. EndsEarly (IsText Text) ts i)
Cause HasFault Form Text Breaks found Refusal.Mem = Unit {0}
