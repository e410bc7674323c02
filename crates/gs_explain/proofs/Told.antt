-- What is told of a file that is fetched again.
use Rattle.std.proofs.Common.{◌≡◌, ◌∙◌, ap, subst, inl, inr, ℕ, List, Result, Ok, Err, IfOk}
use Rattle.gs_shelf.specs.Faults.{Counts}
use Rattle.gs_shelf.specs.Files.{Files, content}
use Rattle.gs_explain.specs.Explain.{IsLost, IsToldOf}
use Rattle.gs_explain.specs.Located.{unplaced}
use Rattle.gs_explain.specs.Object.{IsPlaced, placed}
use Rattle.std.specs.Prelude.{Option}

module _ {V E : Type 0} (items : V → List ℕ) where
  -- of a place that was found
  pub told_placed : (IsPlace : (bytes : List ℕ) → Option ℕ → Type 0) (r : Result V E) (name bytes what said : List ℕ) (found : Option ℕ) → said ≡ what → IsPlace bytes found
      → IfOk r (λ v. items v ≡ placed name bytes found said) → IfOk r (λ v. IsPlaced IsPlace name what bytes (items v))
  told_placed IsPlace (Ok v) name bytes what said found e is h = (found, is, h ∙ ap (placed name bytes found) e)
  told_placed IsPlace (Err x) name bytes what said found e is h = tt

  module _ (Tells : (name bytes text : List ℕ) → Type 0) (tells : Type 0) (name what : List ℕ) (files : Files) (old new : Counts) where
    -- by its bytes
    pub told : (r : Result V E) (n bytes : List ℕ) → n ≡ name → (tells → bytes ≡ content files n) → IfOk r (λ v. Tells n bytes (items v))
        → IfOk r (λ v. IsToldOf (Tells name) tells name what files old new (items v))
    told (Ok v) n bytes e is says =
        subst (λ m. IsToldOf (Tells m) tells m what files old new (items v)) e (inl (λ t. subst (λ b. Tells n b (items v)) (is t) says))
    told (Err x) n bytes e is says = tt

    -- without them
    pub untold : (r : Result V E) (n m w : List ℕ) → n ≡ name → m ≡ name → w ≡ what → IsLost tells n files old new → IfOk r (λ v. items v ≡ unplaced m w)
        → IfOk r (λ v. IsToldOf (Tells name) tells name what files old new (items v))
    untold (Ok v) n m w e k i lost h =
        inr (subst (λ x. IsLost tells x files old new) e lost, h ∙ ap (λ x. unplaced x w) k ∙ ap (unplaced name) i)
    untold (Err x) n m w e k i lost h = tt
