-- Lists of lists.

use Rattle.std.proofs.Common.{◌≡◌, Bool, List, [], ◌∷◌, ◌++◌, Result, Ok, Err, IfOk, filter, flat_map, map, refl, sym, ◌∙◌, ap, subst}
use Rattle.std.specs.Prelude.{MatchResult}
use Rattle.std.specs.List.{AllZip, Contains}
use Rattle.std.proofs.lemmas.List.Elements.{filter-append}

module _ {X Y : Type 0} where
  -- what passes in lists one after another
  pub filter_flat_map : (p : X → Bool) (f : Y → List X) (ys : List Y) → flat_map (λ y. filter p (f y)) ys ≡ filter p (flat_map f ys)
  filter_flat_map p f [] = refl
  filter_flat_map p f (y ∷ ys) = ap (λ xs. filter p (f y) ++ xs) (filter_flat_map p f ys) ∙ sym (filter-append p (f y) (flat_map f ys))

  -- lists of values that show these lists
  pub flat_map_by : {Z : Type 0} (show : Z → List X) (f : Y → List X) (zs : List Z) (ys : List Y) → map show zs ≡ map f ys → flat_map show zs ≡ flat_map f ys
  flat_map_by show f zs ys is = flat_map_map show zs ∙ ap (flat_map (λ l. l)) is ∙ sym (flat_map_map f ys)
    where
      flat_map_map : {Z : Type 0} (h : Z → List X) (zs : List Z) → flat_map h zs ≡ flat_map (λ l. l) (map h zs)
      flat_map_map h [] = refl
      flat_map_map h (z ∷ zs) = ap (λ l. h z ++ l) (flat_map_map h zs)

-- of a map whose answers may want memory: what its values show
module _ {X T V W E : Type 0} (items : W → List T) (show : T → V) (f : X → V) (Post : X → Result T E → Type 0) (each : (x : X) (t : T) → Post x (Ok t) → show t ≡ f x) where
  shown : (xs : List X) (ts : List T) → AllZip Post xs (map Ok ts) → map show ts ≡ map f xs
  shown [] [] h = refl
  shown [] (t ∷ ts) h = absurd h
  shown (x ∷ xs) [] h = absurd h
  shown (x ∷ xs) (t ∷ ts) h = λ i. each x t h.0 i ∷ shown xs ts h.1 i

  pub gathered : (xs : List X) (us : List (Result T E)) (r : Result W E) → AllZip Post xs us
      → MatchResult r (λ v. (ts : List T) × (us ≡ map Ok ts) × (items v ≡ ts)) (λ e. Contains us (Err e))
      → IfOk r (λ v. map show (items v) ≡ map f xs)
  gathered xs us (Err e) zipped got = tt
  gathered xs us (Ok v) zipped got = ap (map show) got.2 ∙ shown xs got.0 (subst (AllZip Post xs) got.1 zipped)
