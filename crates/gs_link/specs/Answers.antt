-- What the link answers.

use Rattle.std.specs.Prelude.{◌≡◌, ◌≢◌, Result, MatchResult}
use Rattle.gs_design.specs.Parts.{parts_of}
use Rattle.gs_design.specs.declared.design.Design.{Design}
use Rattle.gs_design.specs.declared.parts.Parts.{Parts}
use Rattle.gs_grammar.specs.Answers.{IsDecided}
use Rattle.gs_link.specs.Cause.{SameRefusal}
use Rattle.gs_survey.specs.declared.error.LinkErr.{LinkErr}
use Rattle.gs_survey.specs.declared.error.LinkErr.TheVariants as errors

-- parts of which the four are the design are those of the answer, unless memory runs out
abbrev pub IsOnlyDesign : (Parts → Type 0) → Result Design LinkErr → Type 0
IsOnlyDesign Linked result = (p : Parts) → Linked p → MatchResult result (λ d. parts_of d ≡ p) (λ e. e ≡ errors.Mem)

-- the four make one design, or have a cause other than want of memory, which is one up to its cycle, and never both
pub record IsLawfulUpToCycle (Linked : Parts → Type 0) (Cause : LinkErr → Type 0) : Type 0 where
  pub decided : IsDecided errors.Mem Linked Cause
  pub apart : (p : Parts) (e : LinkErr) → Linked p → e ≢ errors.Mem → Cause e → ⊥
  pub one_design : (p q : Parts) → Linked p → Linked q → q ≡ p
  pub one_cause : (e f : LinkErr) → e ≢ errors.Mem → Cause e → f ≢ errors.Mem → Cause f → SameRefusal f e
