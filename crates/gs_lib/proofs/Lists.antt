-- Lists that a loop makes, with one element more.

use Rattle.std.proofs.Common.{◌≡◌, ℕ, ◌+◌, ◌<◌, List, [], ◌∷◌, ◌++◌, length, get_or, take, map, filter, refl, sym, ap, ◌∙◌, Bool, true, false, cond}
use Rattle.std.specs.Prelude.{fold}
use Rattle.std.proofs.lemmas.List.{append-nil, take_more}

filter_by : {X : Type 0} (p : X → Bool) (y : X) (ys : List X) (x : X) (b : Bool) → p y ≡ b → filter p (ys ++ x ∷ []) ≡ filter p ys ++ filter p (x ∷ [])
    → filter p (y ∷ (ys ++ x ∷ [])) ≡ filter p (y ∷ ys) ++ filter p (x ∷ [])
filter_by p y ys x true e h = rw e (ap (λ zs. y ∷ zs) h)
filter_by p y ys x false e h = rw e h

pub filter_push : {X : Type 0} (p : X → Bool) (xs : List X) (x : X) → filter p (xs ++ x ∷ []) ≡ filter p xs ++ filter p (x ∷ [])
filter_push p [] x = refl
filter_push p (y ∷ ys) x = filter_by p y ys x (p y) refl (filter_push p ys x)

module _ {X : Type 0} (p : X → Bool) (xs : List X) (i : ℕ) (d : X) (lt : i < length xs) where
  pub filter_yes : p (get_or xs i d) ≡ true → filter p (take (i + 1) xs) ≡ filter p (take i xs) ++ get_or xs i d ∷ []
  filter_yes e = ap (filter p) (take_more xs i d lt) ∙ filter_push p (take i xs) (get_or xs i d) ∙ ap (λ ys. filter p (take i xs) ++ ys) (rw e refl)

  pub filter_no : p (get_or xs i d) ≡ false → filter p (take (i + 1) xs) ≡ filter p (take i xs)
  filter_no e = ap (filter p) (take_more xs i d lt) ∙ filter_push p (take i xs) (get_or xs i d) ∙ ap (λ ys. filter p (take i xs) ++ ys) (rw e refl) ∙ append-nil (filter p (take i xs))

pub fold_push : {A B : Type 0} (f : B → A → B) (b : B) (xs : List A) (x : A) → fold f b (xs ++ x ∷ []) ≡ f (fold f b xs) x
fold_push f b [] x = refl
fold_push f b (y ∷ ys) x = fold_push f (f b y) ys x
