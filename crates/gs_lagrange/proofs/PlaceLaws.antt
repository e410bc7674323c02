-- That the places which are chosen are places, and that weights that agree give the same places.

use Rattle.std.proofs.Common.{◌≡◌, ℕ, ◌<◌, Bool, true, false, All, List, [], ◌∷◌, filter, fold, length, slice_index, Option, None, Some, ap, arith}
use Rattle.std.specs.Prelude.{if◌then◌else◌, int_lt, nat_lt}
use Rattle.std.specs.List.{range_with_len}
use Rattle.std.proofs.lemmas.List.Elements.{All-filter, All-head, All-map, All-tail}
use Rattle.std.proofs.lemmas.List.FromFn.{get_or-map-range_with_len, get_or-range_with_len, length-map-range_with_len, length-range_with_len}
use Rattle.gs_design.specs.Insts.{inst_at}
use Rattle.gs_design.specs.Sizes.{FitSizes}
use Rattle.gs_design.specs.declared.design.Design.{Design}
use Rattle.gs_design.specs.declared.time.NetTime.{NetTime}
use Rattle.gs_lagrange.specs.Cost.{is_allowed}
use Rattle.gs_lagrange.specs.Place.{cheaper, choice_of, choices_to, place_for, place_or, places_for}
use Rattle.gs_lagrange.specs.declared.choice.Choice.{Choice}

-- the place of a choice, if there is one, is below n
abbrev IsPlacedBelow : ℕ → Option Choice → Type 0
IsPlacedBelow n None = Unit {0}
IsPlacedBelow n (Some c) = c.place < n

cheaper_placed : (n : ℕ) (o : Option Choice) (c : Choice) → IsPlacedBelow n o → c.place < n → IsPlacedBelow n (cheaper o c)
cheaper_placed n None c h lt = lt
cheaper_placed n (Some b) c h lt = by_test (int_lt c.cost b.cost)
  where
    by_test : (t : Bool) → IsPlacedBelow n (if t then Some c else Some b)
    by_test true = lt
    by_test false = h

fold_placed : (n : ℕ) (cs : List Choice) (o : Option Choice) → All (λ c. c.place < n) cs → IsPlacedBelow n o → IsPlacedBelow n (fold cheaper o cs)
fold_placed n [] o all h = h
fold_placed n (c ∷ cs) o all h =
    fold_placed n cs (cheaper o c) (All-tail (λ x. x.place < n) c cs all) (cheaper_placed n o c h (All-head (λ x. x.place < n) c cs all))

or_placed : (n : ℕ) (o : Option Choice) (present : ℕ) → IsPlacedBelow n o → present < n → place_or o present < n
or_placed n None present h lt = lt
or_placed n (Some c) present h lt = h

all_below : (n : ℕ) → All (λ k. k < n) (range_with_len 0 n)
all_below n k d lt =
    let k_in : k < n = omega (arith, lt, length-range_with_len 0 n) in
    omega (arith, get_or-range_with_len 0 n k d k_in)

module _ (d : Design) (s : List ℕ) (t : List NetTime) (weight : ℕ → ℕ) (fit : FitSizes d s) where
  abbrev count_of : ℕ → ℕ
  count_of g = length (inst_at d.insts g).alts

  choices_placed : (g : ℕ) → All (λ c. c.place < count_of g) (choices_to d s t weight g (count_of g))
  choices_placed g =
      All-map (λ c. c.place < count_of g) (choice_of d s t weight g) (filter (is_allowed d s t g) (range_with_len 0 (count_of g)))
      (All-filter (is_allowed d s t g) (λ p. p < count_of g) (range_with_len 0 (count_of g)) (all_below (count_of g)))

  place_below : (g : ℕ) → g < length d.insts → place_for d s t weight g < count_of g
  place_below g g_in = by_test (nat_lt 1 (count_of g))
    where
      by_test : (b : Bool) → (if b then place_or (fold cheaper None (choices_to d s t weight g (count_of g))) (slice_index s g) else slice_index s g) < count_of g
      by_test true = or_placed (count_of g) (fold cheaper None (choices_to d s t weight g (count_of g))) (slice_index s g)
          (fold_placed (count_of g) (choices_to d s t weight g (count_of g)) None (choices_placed g) tt) (fit.places_in g g_in)
      by_test false = fit.places_in g g_in

  pub places_fit : FitSizes d (places_for d s t weight)
  places_fit = record {
    as_many = length-map-range_with_len (place_for d s t weight) 0 (length d.insts);
    places_in = λ g g_in.
        let here = get_or-map-range_with_len (place_for d s t weight) 0 (length d.insts) g g 0 g_in (omega arith) in
        let below = place_below g g_in in
        omega (arith, here, below);
  }

-- weights that agree at each net give the same places
pub same_places : (d : Design) (s : List ℕ) (t : List NetTime) (v w : ℕ → ℕ) → ((n : ℕ) → v n ≡ w n) → places_for d s t v ≡ places_for d s t w
same_places d s t v w same = ap (places_for d s t) (λ i n. same n i)
