-- What a move is, part by part, and that the sizes after it fit.

use Rattle.std.proofs.Common.{◌≡◌, ℕ, ◌<◌, Bool, true, false, ◌&&◌, not, ◌==◌, List, length, slice_index, refl, sym, ◌∙◌, subst, arith, ◌⊎◌, inl, inr}
use Rattle.std.specs.Prelude.{nat_lt}
use Rattle.std.proofs.lemmas.Bool.{cases_eq}
use Rattle.std.proofs.lemmas.Bool.Decides.{Decides-ltb}
use Rattle.std.proofs.lemmas.List.{get_or-set_other, get_or-set_same, length-set}
use Rattle.gs_design.specs.Insts.{inst_at}
use Rattle.gs_design.specs.Sizes.{FitSizes}
use Rattle.gs_design.specs.declared.design.Design.{Design}
use Rattle.gs_move.specs.Entries.{IsMoveOf}
use Rattle.gs_move.specs.Moves.{after, is_move}
use Rattle.gs_move.specs.declared.moves.Move.{Move}

first_part : (a b : Bool) → (a && b) ≡ true → a ≡ true
first_part true b e = refl
first_part false b e = absurd cc

second_part : (a b : Bool) → (a && b) ≡ true → b ≡ true
second_part true b e = e
second_part false b e = absurd cc

module _ (d : Design) (s : List ℕ) (m : Move) (h : is_move d s m ≡ true) where
  abbrev place_ok : Bool
  place_ok = nat_lt m.place (length (inst_at d.insts m.inst).alts)

  abbrev other : Bool
  other = not (m.place == slice_index s m.inst)

  pub inst_in : m.inst < length d.insts
  inst_in = (Decides-ltb m.inst (length d.insts)).0 (first_part (nat_lt m.inst (length d.insts)) (place_ok && other) h)

  pub place_in : m.place < length (inst_at d.insts m.inst).alts
  place_in = (Decides-ltb m.place (length (inst_at d.insts m.inst).alts)).0 (first_part place_ok other (second_part (nat_lt m.inst (length d.insts)) (place_ok && other) h))

  place_at : (fit : FitSizes d s) (g : ℕ) → g < length d.insts → (g ≡ m.inst) ⊎ (g ≡ m.inst → ⊥) → slice_index (after s m) g < length (inst_at d.insts g).alts
  place_at fit g lt (inl e) =
      subst (λ k. slice_index (after s m) k < length (inst_at d.insts k).alts) (sym e)
      (subst (λ p. p < length (inst_at d.insts m.inst).alts) (sym (get_or-set_same s m.inst m.place 0 (let many = fit.as_many in omega (arith, inst_in, many)))) place_in)
  place_at fit g lt (inr apart) = subst (λ p. p < length (inst_at d.insts g).alts) (sym (get_or-set_other s m.inst g m.place 0 apart)) (fit.places_in g lt)

  pub place_of_it : IsMoveOf d m
  place_of_it = record { inst_in = inst_in; place_in = place_in }

  pub after_fits : FitSizes d s → FitSizes d (after s m)
  after_fits fit = record {
    as_many = length-set s m.inst m.place ∙ fit.as_many;
    places_in = λ g lt. place_at fit g lt (cases_eq g m.inst);
  }
