use Rattle.std.proofs.Common.{◌≡◌, sym, subst, ℕ, List, Option, Some, None, Result, Ok, Err, IfOk, MatchOption}
use Rattle.gs_explain.specs.Spot.{HasNone, IsShown}
use Rattle.gs_explain.specs.declared.spot.Spot.{Spot}
use Rattle.gs_explain.proofs.spot.show.Goals as goal

-- what holds whatever is said holds of this
of_this : {V E : Type 0} (r : Result (Option V) E) (items : V → List ℕ) (name bytes : List ℕ) (spot s : Spot) (what : List ℕ) → spot ≡ s
    → IfOk r (λ o. MatchOption o ((w : List ℕ) → HasNone s w bytes) (λ v. (w : List ℕ) → IsShown name s w bytes (items v)))
    → IfOk r (λ o. MatchOption o (HasNone spot what bytes) (λ v. IsShown name spot what bytes (items v)))
of_this (Ok None) items name bytes spot s what e h = subst (λ x. HasNone x what bytes) (sym e) (h what)
of_this (Ok (Some v)) items name bytes spot s what e h = subst (λ x. IsShown name x what bytes (items v)) (sym e) (h what)
of_this (Err x) items name bytes spot s what e h = tt

pub returns-in-AtLine : goal.returns-in-AtLine
returns-in-AtLine c =
    subst (λ (s : Spot). IfOk c.show_line.result (λ o. MatchOption o (HasNone s c.args.what.now c.args.bytes.now) (λ v. IsShown c.args.name.now s c.args.what.now c.args.bytes.now v.items)))
    (sym c.in-AtLine.is) c.show_line.ensures

pub returns-in-AtPiece : goal.returns-in-AtPiece
returns-in-AtPiece c =
    subst (λ (s : Spot). IfOk c.show_piece.result (λ o. MatchOption o (HasNone s c.args.what.now c.args.bytes.now) (λ v. IsShown c.args.name.now s c.args.what.now c.args.bytes.now v.items)))
    (sym c.in-AtPiece.is) c.show_piece.ensures

pub returns-in-Wrong : goal.returns-in-Wrong
returns-in-Wrong c = of_this c.show_wrong.result (λ v. v.items) c.args.name.now c.args.bytes.now c.args.spot _ c.args.what.now c.in-Wrong.is c.show_wrong.ensures
