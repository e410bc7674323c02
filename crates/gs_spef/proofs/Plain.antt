-- A name without a backslash is itself.

use Rattle.std.proofs.Common.{◌≡◌, ℕ, List, [], ◌∷◌, refl, sym, ap, subst, ◌∙◌, Bool, true, false, ◌==◌, ◌||◌, Result, Ok, Err, IfOk, MatchResult}
use Rattle.std.specs.List.{list_any}
use Rattle.gs_spef.specs.Names.{unescaped}

plain_by : (c : ℕ) (cs : List ℕ) (b : Bool) → (c == 92) ≡ b → (b || list_any (λ d. d == 92) cs) ≡ false
    → (list_any (λ d. d == 92) cs ≡ false → unescaped cs ≡ cs) → unescaped (c ∷ cs) ≡ c ∷ cs
plain_by c cs true e h later = cc
plain_by c cs false e h later = rw e (ap (λ ds. c ∷ ds) (later h))

pub plain : (cs : List ℕ) → list_any (λ d. d == 92) cs ≡ false → unescaped cs ≡ cs
plain [] h = refl
plain (c ∷ cs) h = plain_by c cs (c == 92) refl h (plain cs)

pub plain_kept : {E : Type 0} (Q : E → Type 0) (text : List ℕ) (r : Result (List ℕ) E) → list_any (λ d. d == 92) text ≡ false → MatchResult r (λ n. n ≡ text) Q
    → IfOk r (λ n. n ≡ unescaped text)
plain_kept Q text (Ok n) h e = e ∙ sym (plain text h)
plain_kept Q text (Err e) h k = tt
