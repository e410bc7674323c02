-- The first unknown name.

use Rattle.std.proofs.Common.{◌≡◌, ◌≢◌, ◌∙◌, sym, subst, refl, ℕ, zero, suc, ◌+◌, ◌<◌, ◌≤◌, List, [], ◌∷◌, Option, Some, None, arith}
use Rattle.std.specs.Prelude.{slice_get, IsSome}
use Rattle.gs_expr.specs.Machine.{name_symbol, leaf_symbol, symbol, met, unknown_from}
use Rattle.gs_expr.specs.Token.{Leaf, low, high, pin, Token, operand, bang, tick, star, caret, plus, opens, closes, other, Lexeme}
use Rattle.gs_expr.specs.Truth.{place_of, IsNamed}
use Rattle.gs_expr.specs.declared.symbol.Symbol.{Symbol}
use Rattle.gs_expr.specs.declared.symbol.Symbol.TheVariants.{Operand, Unknown, Bang, Tick, Star, Caret, Plus, Opens, Closes, Other}
use Rattle.gs_expr.proofs.Cuts.{Above, above_get}

-- ---- names and symbols

abbrev Pin : List (List ℕ) → Token → Type 0
Pin names t = (text : List ℕ) × (t ≡ operand (pin text)) × (IsNamed names text → ⊥)

none_is : (o : Option ℕ) → name_symbol o ≡ Unknown → IsSome o → ⊥
none_is (Some j) h s = cc
none_is None h s = cc

leaf_pin : (names : List (List ℕ)) (l : Leaf) → leaf_symbol names l ≡ Unknown → Pin names (operand l)
leaf_pin names low h = cc
leaf_pin names high h = cc
leaf_pin names (pin text) h = (text, refl, none_is (place_of names text) h)

-- an unknown symbol is a name that isn't among the names
pub unknown_pin : (names : List (List ℕ)) (t : Token) → symbol names t ≡ Unknown → Pin names t
unknown_pin names (operand l) h = leaf_pin names l h
unknown_pin names bang h = cc
unknown_pin names tick h = cc
unknown_pin names star h = cc
unknown_pin names caret h = cc
unknown_pin names plus h = cc
unknown_pin names opens h = cc
unknown_pin names closes h = cc
unknown_pin names other h = cc

some_is : (o : Option ℕ) → name_symbol o ≢ Unknown → IsSome o
some_is (Some j) h = refl
some_is None h = absurd (h refl)

pub known_pin : (names : List (List ℕ)) (text : List ℕ) → symbol names (operand (pin text)) ≢ Unknown → IsNamed names text
known_pin names text h = some_is (place_of names text) h

none_symbol : (o : Option ℕ) → (IsSome o → ⊥) → name_symbol o ≡ Unknown
none_symbol (Some j) h = absurd (h refl)
none_symbol None h = refl

pub pin_unknown : (names : List (List ℕ)) (text : List ℕ) → (IsNamed names text → ⊥) → symbol names (operand (pin text)) ≡ Unknown
pin_unknown names text h = none_symbol (place_of names text) h

-- ---- the first unknown symbol

data Met (s : Symbol) (i : ℕ) (r : Option ℕ) : Type 0 where
  hit : s ≡ Unknown → r ≡ Some i → Met s i r
  miss : s ≢ Unknown → r ≡ None → Met s i r

met_cases : (s : Symbol) (i : ℕ) → Met s i (met None s i)
met_cases Unknown i = hit refl refl
met_cases (Operand v) i = miss (λ h. cc) refl
met_cases Bang i = miss (λ h. cc) refl
met_cases Tick i = miss (λ h. cc) refl
met_cases Star i = miss (λ h. cc) refl
met_cases Caret i = miss (λ h. cc) refl
met_cases Plus i = miss (λ h. cc) refl
met_cases Opens i = miss (λ h. cc) refl
met_cases Closes i = miss (λ h. cc) refl
met_cases Other i = miss (λ h. cc) refl

module _ (names : List (List ℕ)) where
  stays : (k : ℕ) (ls : List Lexeme) → unknown_from names (Some k) ls ≡ Some k
  stays k [] = refl
  stays k (l ∷ ls) = stays k ls

  -- the lexeme with this number is unknown, and stands at this place
  pub record UnknownAt (ls : List Lexeme) (k : ℕ) : Type 0 where
    pub number : ℕ
    pub lexeme : Lexeme
    pub is : slice_get ls number ≡ Some lexeme
    pub place : lexeme.at ≡ k
    pub unknown : symbol names lexeme.token ≡ Unknown

  later : (l : Lexeme) (ls : List Lexeme) (k : ℕ) → UnknownAt ls k → UnknownAt (l ∷ ls) k
  later l ls k u = record { number = suc u.number; lexeme = u.lexeme; is = u.is; place = u.place; unknown = u.unknown }

  at_by : (l : Lexeme) (ls : List Lexeme) (k : ℕ) (r : Option ℕ) → Met (symbol names l.token) l.at r → unknown_from names r ls ≡ Some k
      → (unknown_from names None ls ≡ Some k → UnknownAt ls k) → UnknownAt (l ∷ ls) k
  at_by l ls k r (hit u e) h rest =
      let found : unknown_from names (Some l.at) ls ≡ Some k = subst (λ o. unknown_from names o ls ≡ Some k) e h in
      let both : Some l.at ≡ Some k = sym (stays l.at ls) ∙ found in
      let here : l.at ≡ k = cc in
      record { number = zero; lexeme = l; is = refl; place = here; unknown = u }
  at_by l ls k r (miss n e) h rest = later l ls k (rest (subst (λ o. unknown_from names o ls ≡ Some k) e h))

  pub unknown_at : (ls : List Lexeme) (k : ℕ) → unknown_from names None ls ≡ Some k → UnknownAt ls k
  unknown_at [] k h = cc
  unknown_at (l ∷ ls) k h = at_by l ls k (met None (symbol names l.token) l.at) (met_cases (symbol names l.token) l.at) h (unknown_at ls k)

  known_by : (n : ℕ) (l : Lexeme) (ls : List Lexeme) (k : ℕ) (r : Option ℕ) → Met (symbol names l.token) l.at r → unknown_from names r ls ≡ Some k
      → Above n (l ∷ ls)
      → (unknown_from names None ls ≡ Some k → (m : ℕ) (x : Lexeme) → slice_get ls m ≡ Some x → x.at < k → symbol names x.token ≢ Unknown)
      → (m : ℕ) (x : Lexeme) → slice_get (l ∷ ls) m ≡ Some x → x.at < k → symbol names x.token ≢ Unknown
  known_by n l ls k r (hit u e) h above rest m x is lt =
      let found : unknown_from names (Some l.at) ls ≡ Some k = subst (λ o. unknown_from names o ls ≡ Some k) e h in
      let both : Some l.at ≡ Some k = sym (stays l.at ls) ∙ found in
      let here : l.at ≡ k = cc in
      let low : l.at ≤ x.at = above_get l.at (l ∷ ls) m x (omega arith, above.1) is in
      absurd (omega (arith, lt))
  known_by n l ls k r (miss u e) h above rest zero x is lt =
      let same : l ≡ x = cc in
      subst (λ (y : Lexeme). symbol names y.token ≢ Unknown) same u
  known_by n l ls k r (miss u e) h above rest (suc m) x is lt =
      rest (subst (λ o. unknown_from names o ls ≡ Some k) e h) m x is lt

  -- what stands before the first unknown name isn't unknown
  pub known_before : (n : ℕ) (ls : List Lexeme) (k : ℕ) → unknown_from names None ls ≡ Some k → Above n ls
      → (m : ℕ) (x : Lexeme) → slice_get ls m ≡ Some x → x.at < k → symbol names x.token ≢ Unknown
  known_before n [] k h above m x is lt = cc
  known_before n (l ∷ ls) k h above m x is lt =
      known_by n l ls k (met None (symbol names l.token) l.at) (met_cases (symbol names l.token) l.at) h above
      (λ e. known_before (l.at + 1) ls k e above.1) m x is lt

  all_by : (l : Lexeme) (ls : List Lexeme) (r : Option ℕ) → Met (symbol names l.token) l.at r → unknown_from names r ls ≡ None
      → (unknown_from names None ls ≡ None → (m : ℕ) (x : Lexeme) → slice_get ls m ≡ Some x → symbol names x.token ≢ Unknown)
      → (m : ℕ) (x : Lexeme) → slice_get (l ∷ ls) m ≡ Some x → symbol names x.token ≢ Unknown
  all_by l ls r (hit u e) h rest m x is =
      let found : unknown_from names (Some l.at) ls ≡ None = subst (λ o. unknown_from names o ls ≡ None) e h in
      let never : Some l.at ≡ None = sym (stays l.at ls) ∙ found in
      cc
  all_by l ls r (miss u e) h rest zero x is = let same : l ≡ x = cc in subst (λ (y : Lexeme). symbol names y.token ≢ Unknown) same u
  all_by l ls r (miss u e) h rest (suc m) x is = rest (subst (λ o. unknown_from names o ls ≡ None) e h) m x is

  -- where none is met, none is unknown
  pub all_known : (ls : List Lexeme) → unknown_from names None ls ≡ None → (m : ℕ) (x : Lexeme) → slice_get ls m ≡ Some x → symbol names x.token ≢ Unknown
  all_known [] h m x is = cc
  all_known (l ∷ ls) h m x is =
      all_by l ls (met None (symbol names l.token) l.at) (met_cases (symbol names l.token) l.at) h (all_known ls) m x is
