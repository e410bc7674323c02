-- The law of a reader: each input stands for one value, or has one cause other than want of memory, and never both.

use Rattle.std.specs.Prelude.{◌≡◌, ◌≢◌}
use Rattle.gs_grammar.specs.Answers.{IsDecided}

pub record IsLawful {V E : Type 0} (mem : E) (Text : V → Type 0) (Cause : E → Type 0) : Type 0 where
  pub decided : IsDecided mem Text Cause
  pub apart : (v : V) (e : E) → Text v → e ≢ mem → Cause e → ⊥
  pub one_value : (v w : V) → Text v → Text w → w ≡ v
  pub one_cause : (e f : E) → e ≢ mem → Cause e → f ≢ mem → Cause f → f ≡ e
