-- Violations are of limits of the design.

use Rattle.std.proofs.Common.{◌≡◌, ℕ, ◌<◌, Bool, true, false, List, [], ◌∷◌, ◌++◌, map, filter, filter_map, length, None, Some, if◌then◌else◌, sym, subst, arith, pos}
use Rattle.std.specs.Prelude.{All, unwrap_or}
use Rattle.std.specs.List.{cons_option, range_with_len}
use Rattle.std.proofs.lemmas.List.Elements.{All-append, All-cons, All-filter, All-head, All-map, All-nil, All-tail, filter_passes}
use Rattle.std.proofs.lemmas.List.FromFn.{get_or-range_with_len, length-range_with_len}
use Rattle.gs_design.specs.Limits.{IsLimitOf, is_driven_by_inst, is_met, held_of, bound_of, limits, violation_at, violations_of}
use Rattle.gs_design.specs.declared.design.Design.{Design}
use Rattle.gs_design.specs.declared.limit.Limit.{Limit}
use Rattle.gs_design.specs.declared.limit.Limit.TheVariants.{Setup, Slew, Load}
use Rattle.gs_design.specs.declared.limit.Violation.{Violation}
use Rattle.gs_design.specs.declared.time.NetTime.{NetTime}

-- numbers from 0 are below their count
numbers_below : (n : ℕ) → All (λ k. k < n) (range_with_len 0 n)
numbers_below n k d lt =
    let many = length-range_with_len 0 n in
    let at = get_or-range_with_len 0 n k d (omega arith) in
    omega (arith, at)

module _ (d : Design) where
  driven : All (λ n. (n < length d.nets) × (is_driven_by_inst d n ≡ true)) (filter (is_driven_by_inst d) (range_with_len 0 (length d.nets)))
  driven k e lt = (
    All-filter (is_driven_by_inst d) (λ n. n < length d.nets) (range_with_len 0 (length d.nets)) (numbers_below (length d.nets)) k e lt,
    filter_passes (is_driven_by_inst d) (range_with_len 0 (length d.nets)) k e lt,
  )

  limits_placed : All (IsLimitOf d) (limits d)
  limits_placed =
      All-append (IsLimitOf d) (map (λ e. Setup e) (range_with_len 0 (length d.ends)) ++ map (λ n. Slew n) (range_with_len 0 (length d.nets))) (map (λ n. Load n) (filter (is_driven_by_inst d) (range_with_len 0 (length d.nets))))
      (All-append (IsLimitOf d) (map (λ e. Setup e) (range_with_len 0 (length d.ends))) (map (λ n. Slew n) (range_with_len 0 (length d.nets)))
      (All-map (IsLimitOf d) (λ e. Setup e) (range_with_len 0 (length d.ends)) (numbers_below (length d.ends)))
      (All-map (IsLimitOf d) (λ n. Slew n) (range_with_len 0 (length d.nets)) (numbers_below (length d.nets))))
      (All-map (IsLimitOf d) (λ n. Load n) (filter (is_driven_by_inst d) (range_with_len 0 (length d.nets))) driven)

  abbrev IsPlaced : Violation → Type 0
  IsPlaced v = IsLimitOf d v.limit

  found_placed : (t : List NetTime) (ls : List Limit) → All (IsLimitOf d) ls → All IsPlaced (filter_map (violation_at d t) ls)
  found_placed t [] h = All-nil IsPlaced
  found_placed t (l ∷ ls) h = by_test (is_met d t l) (found_placed t ls (All-tail (IsLimitOf d) l ls h))
    where
      by_test : (b : Bool) → All IsPlaced (filter_map (violation_at d t) ls)
          → All IsPlaced (cons_option (if b then None else Some (record { limit = l; held = held_of d t l; bound = unwrap_or (bound_of d t l) (pos 0) })) (filter_map (violation_at d t) ls))
      by_test true rest = rest
      by_test false rest = All-cons IsPlaced (record { limit = l; held = held_of d t l; bound = unwrap_or (bound_of d t l) (pos 0) }) (filter_map (violation_at d t) ls) (All-head (IsLimitOf d) l ls h) rest

  -- what is violated is a limit of the design
  pub violations_placed : (t : List NetTime) (vs : List Violation) → vs ≡ violations_of d t → All (λ v. IsLimitOf d v.limit) vs
  violations_placed t vs is = subst (λ all. All IsPlaced all) (sym is) (found_placed t (limits d) limits_placed)
