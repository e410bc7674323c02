-- The limits of a design are those that stand, of each kind in turn.

use Rattle.std.proofs.Common.{◌≡◌, ℕ, ◌+◌, ◌<◌, Bool, true, false, List, [], ◌∷◌, ◌++◌, map, filter, filter_map, length, sum_by, Option, None, Some, if◌then◌else◌, refl, sym, ◌∙◌, ap, arith, append_assoc, append-nil}
use Rattle.std.specs.List.{cons_option, range_with_len}
use Rattle.std.proofs.lemmas.List.Elements.{filter-append, filter_map-append}
use Rattle.std.proofs.lemmas.List.FromFn.{map-range_with_len_more}
use Rattle.std.proofs.lemmas.List.Sums.{sum_by-append, sum_by-cons, sum_by_push}
use Rattle.gs_design.specs.Ends.{end_at}
use Rattle.gs_design.specs.Limits.{excess_of, is_driven_by_inst, limit_net, limits, over_of, violation_at, violations_of}
use Rattle.gs_design.specs.declared.design.Design.{Design}
use Rattle.gs_design.specs.declared.limit.Limit.{Limit}
use Rattle.gs_design.specs.declared.limit.Limit.TheVariants.{Setup, Slew, Load, Area}
use Rattle.gs_design.specs.declared.limit.Violation.{Violation}
use Rattle.gs_design.specs.declared.time.NetTime.{NetTime}
use Rattle.gs_limits.specs.Kinds.{kind_count, limit_of, of_kind, over_if, stands, violation_if}
use Rattle.gs_limits.specs.Limit.{IsPlaced}
use Rattle.gs_limits.specs.declared.kind.Kind.{Kind}
use Rattle.gs_limits.specs.declared.kind.Kind.TheVariants.{Setups, Slews, Loads}

pub placed : (d : Design) (k : Kind) (n : ℕ) → n < kind_count d k → IsPlaced d (limit_of k n)
placed d Setups n lt = lt
placed d Slews n lt = lt
placed d Loads n lt = lt

pub net_in : (d : Design) (l : Limit) → IsPlaced d l → limit_net d l < length d.nets
net_in d (Setup e) lt = d.well.ends_kept.nets_in e lt
net_in d (Slew n) lt = lt
net_in d (Load n) lt = lt
net_in d Area never = absurd never

pub few_of_kind : (d : Design) (k : Kind) → kind_count d k < 4294967296
few_of_kind d Setups = omega (arith, d.well.ends_kept.few)
few_of_kind d Slews = omega (arith, d.well.few_nets)
few_of_kind d Loads = omega (arith, d.well.few_nets)

pub kind_more : (k : Kind) (n : ℕ) → of_kind k (n + 1) ≡ of_kind k n ++ limit_of k n ∷ []
kind_more k n = map-range_with_len_more (limit_of k) 0 n n (omega arith)

pub sum_more : (f : Limit → ℕ) (k : Kind) (n : ℕ) → sum_by f (of_kind k (n + 1)) ≡ sum_by f (of_kind k n) + f (limit_of k n)
sum_more f k n = ap (sum_by f) (kind_more k n) ∙ sum_by_push f (of_kind k n) (limit_of k n)

found_more : (f : Limit → Option Violation) (k : Kind) (n : ℕ) → filter_map f (of_kind k (n + 1)) ≡ filter_map f (of_kind k n) ++ cons_option (f (limit_of k n)) []
found_more f k n = ap (filter_map f) (kind_more k n) ∙ filter_map-append f (of_kind k n) (limit_of k n ∷ [])

pub found_none : (f : Limit → Option Violation) (k : Kind) (n : ℕ) → f (limit_of k n) ≡ None → filter_map f (of_kind k (n + 1)) ≡ filter_map f (of_kind k n)
found_none f k n e = found_more f k n ∙ ap (λ o. filter_map f (of_kind k n) ++ cons_option o []) e ∙ append-nil (filter_map f (of_kind k n))

pub found_some : (f : Limit → Option Violation) (k : Kind) (n : ℕ) (v : Violation) → f (limit_of k n) ≡ Some v → filter_map f (of_kind k (n + 1)) ≡ filter_map f (of_kind k n) ++ v ∷ []
found_some f k n v e = found_more f k n ∙ ap (λ o. filter_map f (of_kind k n) ++ cons_option o []) e

abbrev all_kinds : Design → List Limit
all_kinds d = of_kind Setups (length d.ends) ++ of_kind Slews (length d.nets) ++ of_kind Loads (length d.nets)

module _ (d : Design) where
  setups_stand : (xs : List ℕ) → filter (stands d) (map (λ e. Setup e) xs) ≡ map (λ e. Setup e) xs
  setups_stand [] = refl
  setups_stand (x ∷ xs) = ap (λ ls. Setup x ∷ ls) (setups_stand xs)

  slews_stand : (xs : List ℕ) → filter (stands d) (map (λ n. Slew n) xs) ≡ map (λ n. Slew n) xs
  slews_stand [] = refl
  slews_stand (x ∷ xs) = ap (λ ls. Slew x ∷ ls) (slews_stand xs)

  loads_stand : (xs : List ℕ) → filter (stands d) (map (λ n. Load n) xs) ≡ map (λ n. Load n) (filter (is_driven_by_inst d) xs)
  loads_stand [] = refl
  loads_stand (x ∷ xs) = by_test (is_driven_by_inst d x) (loads_stand xs)
    where
      by_test : (b : Bool) → filter (stands d) (map (λ n. Load n) xs) ≡ map (λ n. Load n) (filter (is_driven_by_inst d) xs)
          → (if b then Load x ∷ filter (stands d) (map (λ n. Load n) xs) else filter (stands d) (map (λ n. Load n) xs))
          ≡ map (λ n. Load n) (if b then x ∷ filter (is_driven_by_inst d) xs else filter (is_driven_by_inst d) xs)
      by_test true h = ap (λ ls. Load x ∷ ls) h
      by_test false h = h

  limits_stand : filter (stands d) (all_kinds d) ≡ limits d
  limits_stand =
      filter-append (stands d) (of_kind Setups (length d.ends) ++ of_kind Slews (length d.nets)) (of_kind Loads (length d.nets))
      ∙ ap (λ ls. ls ++ filter (stands d) (of_kind Loads (length d.nets))) (filter-append (stands d) (of_kind Setups (length d.ends)) (of_kind Slews (length d.nets)))
      ∙ ap (λ ls. ls ++ filter (stands d) (of_kind Slews (length d.nets)) ++ filter (stands d) (of_kind Loads (length d.nets))) (setups_stand (range_with_len 0 (length d.ends)))
      ∙ ap (λ ls. of_kind Setups (length d.ends) ++ ls ++ filter (stands d) (of_kind Loads (length d.nets))) (slews_stand (range_with_len 0 (length d.nets)))
      ∙ ap (λ ls. of_kind Setups (length d.ends) ++ of_kind Slews (length d.nets) ++ ls) (loads_stand (range_with_len 0 (length d.nets)))

module _ (d : Design) (t : List NetTime) where
  sum_stands : (ls : List Limit) → sum_by (over_if d t) ls ≡ sum_by (over_of d t) (filter (stands d) ls)
  sum_stands [] = refl
  sum_stands (l ∷ ls) = sum_by-cons (over_if d t) l ls ∙ ap (λ n. over_if d t l + n) (sum_stands ls) ∙ by_test (stands d l)
    where
      by_test : (b : Bool) → (if b then over_of d t l else 0) + sum_by (over_of d t) (filter (stands d) ls) ≡ sum_by (over_of d t) (if b then l ∷ filter (stands d) ls else filter (stands d) ls)
      by_test true = sym (sum_by-cons (over_of d t) l (filter (stands d) ls))
      by_test false = omega arith

  found_stands : (ls : List Limit) → filter_map (violation_if d t) ls ≡ filter_map (violation_at d t) (filter (stands d) ls)
  found_stands [] = refl
  found_stands (l ∷ ls) = ap (cons_option (violation_if d t l)) (found_stands ls) ∙ by_test (stands d l)
    where
      by_test : (b : Bool) → cons_option (if b then violation_at d t l else None) (filter_map (violation_at d t) (filter (stands d) ls))
          ≡ filter_map (violation_at d t) (if b then l ∷ filter (stands d) ls else filter (stands d) ls)
      by_test true = refl
      by_test false = refl

  -- the sums over the kinds are the excess
  pub total : sum_by (over_if d t) (of_kind Setups (length d.ends)) + sum_by (over_if d t) (of_kind Slews (length d.nets)) + sum_by (over_if d t) (of_kind Loads (length d.nets)) ≡ excess_of d t
  total =
      sym (sum_by-append (over_if d t) (of_kind Setups (length d.ends) ++ of_kind Slews (length d.nets)) (of_kind Loads (length d.nets))
      ∙ ap (λ n. n + sum_by (over_if d t) (of_kind Loads (length d.nets))) (sum_by-append (over_if d t) (of_kind Setups (length d.ends)) (of_kind Slews (length d.nets))))
      ∙ sum_stands (all_kinds d) ∙ ap (sum_by (over_of d t)) (limits_stand d)

  -- what is found of the kinds is all that is violated
  pub found : filter_map (violation_if d t) (of_kind Setups (length d.ends)) ++ filter_map (violation_if d t) (of_kind Slews (length d.nets)) ++ filter_map (violation_if d t) (of_kind Loads (length d.nets)) ≡ violations_of d t
  found =
      sym (filter_map-append (violation_if d t) (of_kind Setups (length d.ends) ++ of_kind Slews (length d.nets)) (of_kind Loads (length d.nets))
      ∙ ap (λ vs. vs ++ filter_map (violation_if d t) (of_kind Loads (length d.nets))) (filter_map-append (violation_if d t) (of_kind Setups (length d.ends)) (of_kind Slews (length d.nets))))
      ∙ found_stands (all_kinds d) ∙ ap (filter_map (violation_at d t)) (limits_stand d)
