-- Steps of a loop that refuses.

use Rattle.std.proofs.Common.{◌≡◌, ℕ, zero, suc, ◌+◌, ◌-◌, ◌<◌, Bool, true, false, cond, List, [], ◌∷◌, Option, None, Some, length, get_or, drop, refl, sym, ◌∙◌, arith}
use Rattle.std.proofs.lemmas.List.{drop_more}
use Rattle.std.specs.List.{range_with_len}
use Rattle.gs_survey.specs.First.{first_some, or_else}

-- a test that doesn't hold refuses nothing
pub where_not : {F : Type 0} (b : Bool) (f : F) → false ≡ b → cond b (Some f) None ≡ None
where_not true f e = absurd cc
where_not false f e = refl

-- over a list
module _ {A F : Type 0} (f : A → Option F) (xs : List A) (i : ℕ) (lt : i < length xs) (x : A) (is : x ≡ get_or xs i x) (total : Option F) (so_far : first_some f (drop i xs) ≡ total) where
  pub goes_on : f x ≡ None → first_some f (drop (i + 1) xs) ≡ total
  goes_on e = sym (rw (drop_more xs i x lt, ← is, e) refl) ∙ so_far

  pub stops_here : (fault : F) → f x ≡ Some fault → total ≡ Some fault
  stops_here fault e = sym so_far ∙ rw (drop_more xs i x lt, ← is, e) refl

  pub refuses_here : (o : Option F) → f x ≡ o → (fault : F) → o ≡ Some fault → total ≡ Some fault
  refuses_here o same fault e = stops_here fault (same ∙ e)

-- over numbers
range_more : (i n : ℕ) → i < n → range_with_len i (n - i) ≡ i ∷ range_with_len (i + 1) (n - (i + 1))
range_more i n lt = let e : n - i ≡ suc (n - (i + 1)) = omega arith in rw e refl

module _ {F : Type 0} (f : ℕ → Option F) (n i : ℕ) (lt : i < n) (total : Option F) (so_far : first_some f (range_with_len i (n - i)) ≡ total) where
  pub goes_past : f i ≡ None → first_some f (range_with_len (i + 1) (n - (i + 1))) ≡ total
  goes_past e = sym (rw (range_more i n lt, e) refl) ∙ so_far

  pub stops_at : (fault : F) → f i ≡ Some fault → total ≡ Some fault
  stops_at fault e = sym so_far ∙ rw (range_more i n lt, e) refl

-- from no refusal to one place
pub none_at : {A F : Type 0} (f : A → Option F) (xs : List A) (i : ℕ) (d : A) → first_some f xs ≡ None → i < length xs → f (get_or xs i d) ≡ None
none_at f [] i d e lt = absurd (omega arith)
none_at f (x ∷ xs) zero d e lt = or_none (f x) (first_some f xs) e
  where
    or_none : {F : Type 0} (a b : Option F) → or_else a b ≡ None → a ≡ None
    or_none None b e = refl
    or_none (Some f) b e = absurd cc
none_at f (x ∷ xs) (suc i) d e lt = none_at f xs i d (or_later (f x) (first_some f xs) e) (omega arith)
  where
    or_later : {F : Type 0} (a b : Option F) → or_else a b ≡ None → b ≡ None
    or_later None b e = e
    or_later (Some f) b e = absurd cc

-- five checks pass, and a sixth decides
pub all_pass : {F : Type 0} {a b c d e later : Option F} → a ≡ None → b ≡ None → c ≡ None → d ≡ None → e ≡ None
    → or_else (or_else a (or_else b (or_else c (or_else d e)))) later ≡ later
all_pass h i j k l = rw (h, i, j, k, l) refl
