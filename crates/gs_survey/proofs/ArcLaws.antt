-- The arcs of all cells that are used, by instance, by number and by stretch.

use Rattle.std.proofs.Common.{◌≡◌, ℕ, zero, suc, ◌-◌, ◌<◌, List, [], ◌∷◌, ◌++◌, Option, None, Some, map, length, get_or, set, drop, replicate, slice_range, refl, sym, ap, subst, ◌∙◌, inl, inr, arith}
use Rattle.std.proofs.lemmas.Bool.{cases_eq}
use Rattle.std.proofs.lemmas.List.{get_or-set_other, get_or-set_same, length-take, length-drop}
use Rattle.std.specs.List.{flat_map}
use Rattle.gs_alternatives.specs.Choices.{AreChoices, IsStretchOf, stretch_at}
use Rattle.gs_alternatives.specs.declared.choices.Stretch.{Stretch}
use Rattle.gs_design.specs.declared.cell.Cell.{Cell}
use Rattle.gs_survey.specs.Arcs.{no_arc_among, no_arc_of}
use Rattle.gs_survey.specs.Counts.{arc_fault, choices_of}
use Rattle.gs_survey.specs.First.{first_some, or_else}
use Rattle.gs_survey.specs.Instances.{cell_number}
use Rattle.gs_sdc.specs.declared.constraints.DriverSpec.{DriverSpec}
use Rattle.gs_verilog.specs.declared.parts.RawInst.{RawInst}

-- ---- the first refusal of lists that are joined or made of others

or_else_assoc : {F : Type 0} (a b c : Option F) → or_else a (or_else b c) ≡ or_else (or_else a b) c
or_else_assoc None b c = refl
or_else_assoc (Some f) b c = refl

first_append : {A F : Type 0} (f : A → Option F) (xs ys : List A) → first_some f (xs ++ ys) ≡ or_else (first_some f xs) (first_some f ys)
first_append f [] ys = refl
first_append f (x ∷ xs) ys = ap (or_else (f x)) (first_append f xs ys) ∙ or_else_assoc (f x) (first_some f xs) (first_some f ys)

first_map : {A B F : Type 0} (f : B → Option F) (g : A → B) (xs : List A) → first_some f (map g xs) ≡ first_some (λ x. f (g x)) xs
first_map f g [] = refl
first_map f g (x ∷ xs) = ap (or_else (f (g x))) (first_map f g xs)

first_flat : {A B F : Type 0} (f : B → Option F) (g : A → List B) (xs : List A) → first_some f (flat_map g xs) ≡ first_some (λ x. first_some f (g x)) xs
first_flat f g [] = refl
first_flat f g (x ∷ xs) = first_append f (g x) (flat_map g xs) ∙ ap (or_else (first_some f (g x))) (first_flat f g xs)

-- the cells of instances by number, and then the driving cells
pub arcs_are : (cells : List Cell) (insts : List RawInst) (drivers : List DriverSpec) (found driving : List ℕ)
    → found ≡ map (λ i. cell_number cells i.cell) insts → driving ≡ map (λ d. cell_number cells d.cell) drivers
    → or_else (first_some (no_arc_among cells) found) (first_some (no_arc_of cells) driving) ≡ arc_fault cells insts drivers
arcs_are cells insts drivers found driving f d =
    let named : first_some (no_arc_among cells) found ≡ first_some (no_arc_of cells) (flat_map (choices_of cells) insts) =
    ap (first_some (no_arc_among cells)) f ∙ first_map (no_arc_among cells) (λ (i : RawInst). cell_number cells i.cell) insts
    ∙ sym (first_flat (no_arc_of cells) (choices_of cells) insts) in
    rw (named, d) (sym (first_append (no_arc_of cells) (flat_map (choices_of cells) insts) (map (λ (d : DriverSpec). cell_number cells d.cell) drivers)))

-- ---- stretches

module _ (cells : List Cell) (choices : List ℕ) (stretches : List Stretch) (are : AreChoices cells choices stretches) (c : ℕ) (lt : c < length cells) (s : Stretch)
    (is : s ≡ stretch_at stretches c) where
  pub stretch_is : IsStretchOf cells choices c s
  stretch_is = subst (IsStretchOf cells choices c) (sym is) (are.each c lt)

  pub among_is : first_some (no_arc_of cells) (slice_range choices s.from s.to) ≡ no_arc_among cells c
  among_is = ap (first_some (no_arc_of cells)) stretch_is.alternatives_are

  -- it has the cell itself in it, so it begins before the end
  pub begins : s.from < length choices
  begins =
      let some : s.first < length (slice_range choices s.from s.to) = rw stretch_is.alternatives_are stretch_is.first_in in
      let long : length (drop s.from choices) ≡ length choices - s.from = length-drop s.from choices in
      omega (arith, some, long, length-take (s.to - s.from) (drop s.from choices))

-- nothing has been looked at
zeros : (n i : ℕ) → ◌≡◌ {A = ℕ} (get_or (replicate n 0) i 0) 0
zeros zero i = refl
zeros (suc n) zero = refl
zeros (suc n) (suc i) = zeros n i

pub none_judged : {F : Type 0} (f : ℕ → Option F) (choices ends : List ℕ) (count : ℕ) → ends ≡ replicate count 0 → (n : ℕ) → first_some f (slice_range choices n (get_or ends n 0)) ≡ None
none_judged f choices ends count e n =
    let at : get_or ends n 0 ≡ 0 = ap (λ xs. get_or xs n 0) e ∙ zeros count n in
    let gone : 0 - n ≡ 0 = omega arith in
    rw (at, gone) refl

-- a further stretch has been looked at
pub judged_more : {F : Type 0} (f : ℕ → Option F) (choices ends : List ℕ) (from to : ℕ) → from < length ends → first_some f (slice_range choices from to) ≡ None
    → ((n : ℕ) → first_some f (slice_range choices n (get_or ends n 0)) ≡ None)
    → (n : ℕ) → first_some f (slice_range choices n (get_or (set ends from to) n 0)) ≡ None
judged_more f choices ends from to lt passes judged n = elim (cases_eq from n) [ inl e ↦ here e | inr ne ↦ there ne ]
  where
    here : from ≡ n → first_some f (slice_range choices n (get_or (set ends from to) n 0)) ≡ None
    here e = subst (λ m. first_some f (slice_range choices m (get_or (set ends from to) m 0)) ≡ None) e (rw (get_or-set_same ends from to 0 lt) passes)

    there : (from ≡ n → ⊥) → first_some f (slice_range choices n (get_or (set ends from to) n 0)) ≡ None
    there ne = let apart : get_or (set ends from to) n 0 ≡ get_or ends n 0 = get_or-set_other ends from n to 0 (λ h. ne (sym h)) in rw apart (judged n)
