-- What is said of a piece, by whether others could stand there.
use Rattle.std.proofs.Common.{◌≡◌, refl, ℕ, ◌==◌, true, false, List, [], ◌∷◌, length, arith}
use Rattle.std.specs.List.{concat}
use Rattle.std.specs.Prelude.{codes}
use Rattle.std.proofs.lemmas.Bool.Decides.{Decides-eqb}
use Rattle.gs_text.specs.declared.kinds.Piece.{Piece}
use Rattle.gs_explain.specs.Said.{quoted, unexpected}
use Rattle.gs_explain.specs.Wanted.{names}
use Rattle.gs_explain.specs.declared.form.Wanted.{Wanted}

some_left : (w : Wanted) (ws : List Wanted) → (length (w ∷ ws) == 0) ≡ true → ⊥
some_left w ws h = let e : length (w ∷ ws) ≡ 0 = (Decides-eqb (length (w ∷ ws)) 0).0 h in omega (arith, e)

module _ (bytes : List ℕ) (p : Piece) where
  pub unexpected_alone : (those : List Wanted) → (length those == 0) ≡ true → unexpected bytes p those ≡ concat (codes "unexpected " ∷ quoted bytes p ∷ [])
  unexpected_alone [] h = refl
  unexpected_alone (w ∷ ws) h = absurd (some_left w ws h)

  pub unexpected_before : (those : List Wanted) → (length those == 0) ≡ false
      → unexpected bytes p those ≡ concat (codes "expected " ∷ names those ∷ codes " before " ∷ quoted bytes p ∷ [])
  unexpected_before [] h = absurd cc
  unexpected_before (w ∷ ws) h = refl
