-- The first word that departs from options, by how many there are.
use Rattle.std.proofs.Common.{◌≡◌, ◌∙◌, ◌<◌, ◌==◌, refl, sym, ap, ℕ, Bool, true, false, not, List, [], ◌∷◌, length, map, get_or, Result, Ok, Err, IfOk, arith}
use Rattle.std.specs.List.{concat}
use Rattle.std.specs.Prelude.{codes}
use Rattle.std.specs.Str.{bytes_eq}
use Rattle.std.proofs.lemmas.Bool.Decides.{Decides-eqb}
use Rattle.gs_explain.specs.Words.{departure, extra, in_place_of}

some_are : {X : Type 0} (x : X) (xs : List X) → (length (x ∷ xs) == 0) ≡ true → ⊥
some_are x xs h = let e : length (x ∷ xs) ≡ 0 = (Decides-eqb (length (x ∷ xs)) 0).0 h in omega (arith, e)

module _ {X Y : Type 0} (f : X → List ℕ) (g : Y → List ℕ) where
  pub no_option : (os : List X) (ws : List Y) → (length os == 0) ≡ true → departure (map f os) (map g ws) ≡ extra (map g ws)
  no_option [] ws h = refl
  no_option (o ∷ os) ws h = absurd (some_are o os h)

  pub no_word : (os : List X) (ws : List Y) (d : X) → (length os == 0) ≡ false → (length ws == 0) ≡ true
      → departure (map f os) (map g ws) ≡ concat (f (get_or os 0 d) ∷ codes " is missing" ∷ [])
  no_word [] ws d h k = absurd cc
  no_word (o ∷ os) [] d h k = refl
  no_word (o ∷ os) (w ∷ ws) d h k = absurd (some_are w ws k)

  pub other_word : (os : List X) (ws : List Y) (d : X) (e : Y) → (length os == 0) ≡ false → (length ws == 0) ≡ false → bytes_eq (g (get_or ws 0 e)) (f (get_or os 0 d)) ≡ false
      → departure (map f os) (map g ws) ≡ in_place_of (g (get_or ws 0 e)) (f (get_or os 0 d))
  other_word [] ws d e h k n = absurd cc
  other_word (o ∷ os) [] d e h k n = absurd cc
  other_word (o ∷ os) (w ∷ []) d e h k n = rw n refl
  other_word (o ∷ os) (w ∷ v ∷ ws) d e h k n = rw n refl

  pub no_value : (os : List X) (ws : List Y) (d : X) (e : Y) → (length os == 0) ≡ false → (length ws == 0) ≡ false → bytes_eq (g (get_or ws 0 e)) (f (get_or os 0 d)) ≡ true → length ws < 2
      → departure (map f os) (map g ws) ≡ concat (f (get_or os 0 d) ∷ codes " has no value" ∷ [])
  no_value [] ws d e h k y few = absurd cc
  no_value (o ∷ os) [] d e h k y few = absurd cc
  no_value (o ∷ os) (w ∷ []) d e h k y few = rw y refl
  no_value (o ∷ os) (w ∷ v ∷ ws) d e h k y few = absurd (omega (arith, few))

-- of words after all options the first
pub extra_word : {Y : Type 0} (g : Y → List ℕ) (ws : List Y) (x : Y) → (length ws == 0) ≡ false → x ≡ get_or ws 0 x
    → extra (map g ws) ≡ concat (codes "'" ∷ g x ∷ codes "' is one word too many" ∷ [])
extra_word g [] x h is = absurd cc
extra_word g (w ∷ ws) x h is = ap (λ y. concat (codes "'" ∷ g y ∷ codes "' is one word too many" ∷ [])) (sym is)

-- what is made is this text under another name
pub same_text : {V E : Type 0} {x y : List ℕ} (r : Result V E) (items : V → List ℕ) → IfOk r (λ v. items v ≡ x) → y ≡ x → IfOk r (λ v. items v ≡ y)
same_text (Ok v) items h e = h ∙ sym e
same_text (Err z) items h e = tt

pub not_other : (b : Bool) → not b ≡ false → b ≡ true
not_other true e = refl
not_other false e = sym e
