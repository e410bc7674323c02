-- One limit more in an outcome, and the limits of a net.

use Rattle.std.proofs.Common.{◌≡◌, ℕ, ◌+◌, ◌*◌, ◌<◌, ◌≤◌, ◌==◌, Bool, true, false, List, [], ◌∷◌, ◌++◌, All, map, filter, take, length, sum_by, slice_index_or, Option, None, Some, if◌then◌else◌, refl, sym, ◌∙◌, ap, arith, append_assoc}
use Rattle.std.specs.List.{range_with_len}
use Rattle.std.proofs.lemmas.List.{map_more}
use Rattle.std.proofs.lemmas.List.Elements.{All-filter}
use Rattle.std.proofs.lemmas.List.FromFn.{get_or-range_with_len, length-range_with_len}
use Rattle.std.proofs.lemmas.List.Filters.{length-filter_both}
use Rattle.std.proofs.lemmas.List.Sums.{sum_by_push}
use Rattle.std.specs.Prelude.{not}
use Rattle.gs_design.specs.Ends.{end_at, ends_at}
use Rattle.gs_design.specs.Limits.{is_driven_by_inst, over_in}
use Rattle.gs_design.specs.declared.design.Design.{Design}
use Rattle.gs_design.specs.declared.end.End.{End}
use Rattle.gs_design.specs.declared.limit.Limit.{Limit}
use Rattle.gs_design.specs.declared.limit.Limit.TheVariants.{Setup, Slew, Load}
use Rattle.gs_design.specs.declared.time.NetTime.{NetTime}
use Rattle.gs_limits.specs.Outcome.{first_broken, first_or, is_broken, outcome_of, outcome_over, with_limit}
use Rattle.gs_limits.specs.declared.outcome.NetOutcome.{NetOutcome}

module _ (d : Design) (old new : NetTime) where
  first_more : (ls : List Limit) (l : Limit) → first_broken d old new (ls ++ l ∷ []) ≡ first_or d old new (first_broken d old new ls) l
  first_more [] l = refl
  first_more (m ∷ ls) l = by_test (is_broken d old new m) (first_more ls l)
    where
      by_test : (b : Bool) → first_broken d old new (ls ++ l ∷ []) ≡ first_or d old new (first_broken d old new ls) l → (if b then Some m else first_broken d old new (ls ++ l ∷ [])) ≡ first_or d old new (if b then Some m else first_broken d old new ls) l
      by_test true h = refl
      by_test false h = h

  pub outcome_more : (ls : List Limit) (l : Limit) → outcome_over d old new (ls ++ l ∷ []) ≡ with_limit d old new (outcome_over d old new ls) l
  outcome_more ls l = λ i. record {
    broken = first_more ls l i;
    over_old = sum_by_push (over_in d old) ls l i;
    over_new = sum_by_push (over_in d new) ls l i;
  }

  -- one setup limit more
  pub setup_more : (ends : List ℕ) (i : ℕ) → i < length ends → outcome_over d old new (map (λ e. Setup e) (take (i + 1) ends))
      ≡ with_limit d old new (outcome_over d old new (map (λ e. Setup e) (take i ends))) (Setup (slice_index_or ends i 0))
  setup_more ends i lt = ap (outcome_over d old new) (map_more (λ (e : ℕ). Setup e) ends i 0 lt) ∙ outcome_more (map (λ e. Setup e) (take i ends)) (Setup (slice_index_or ends i 0))

  pub with_slew : (n : ℕ) (ls : List Limit) → with_limit d old new (outcome_over d old new ls) (Slew n) ≡ outcome_over d old new (ls ++ Slew n ∷ [])
  with_slew n ls = sym (outcome_more ls (Slew n))

  pub with_load : (n : ℕ) (ls : List Limit) → with_limit d old new (outcome_over d old new (ls ++ Slew n ∷ [])) (Load n) ≡ outcome_over d old new (ls ++ Slew n ∷ Load n ∷ [])
  with_load n ls = sym (outcome_more (ls ++ Slew n ∷ []) (Load n)) ∙ ap (outcome_over d old new) (append_assoc ls (Slew n ∷ []) (Load n ∷ []))

  -- what is owed where an instance drives the net, and where none does
  pub driven : (n : ℕ) (setups : NetOutcome) → setups ≡ outcome_over d old new (map (λ e. Setup e) (ends_at d.ends n)) → is_driven_by_inst d n ≡ true
      → with_limit d old new (with_limit d old new setups (Slew n)) (Load n) ≡ outcome_of d n old new
  driven n setups e is_so =
      ap (λ o. with_limit d old new (with_limit d old new o (Slew n)) (Load n)) e
      ∙ ap (λ o. with_limit d old new o (Load n)) (with_slew n (map (λ e. Setup e) (ends_at d.ends n)))
      ∙ with_load n (map (λ e. Setup e) (ends_at d.ends n))
      ∙ ap (λ b. outcome_over d old new (map (λ e. Setup e) (ends_at d.ends n) ++ Slew n ∷ (if b then Load n ∷ [] else []))) (sym is_so)

  pub undriven : (n : ℕ) (setups : NetOutcome) → setups ≡ outcome_over d old new (map (λ e. Setup e) (ends_at d.ends n)) → is_driven_by_inst d n ≡ false
      → with_limit d old new setups (Slew n) ≡ outcome_of d n old new
  undriven n setups e not_so =
      ap (λ o. with_limit d old new o (Slew n)) e
      ∙ with_slew n (map (λ e. Setup e) (ends_at d.ends n))
      ∙ ap (λ b. outcome_over d old new (map (λ e. Setup e) (ends_at d.ends n) ++ Slew n ∷ (if b then Load n ∷ [] else []))) (sym not_so)

numbers_below : (n : ℕ) → All (λ k. k < n) (range_with_len 0 n)
numbers_below n k d lt =
    let k_in : k < n = omega (arith, lt, length-range_with_len 0 n) in
    rw (get_or-range_with_len 0 n k d k_in) (omega (arith, k_in))

pub ends_in : (ends : List End) (n : ℕ) → All (λ e. e < length ends) (ends_at ends n)
ends_in ends n = All-filter (λ e. (end_at ends e).net == n) (λ e. e < length ends) (range_with_len 0 (length ends)) (numbers_below (length ends))

pub few_ends : (ends : List End) (n : ℕ) → length (ends_at ends n) ≤ length ends
few_ends ends n =
    let both : length (ends_at ends n) + length (filter (λ e. not ((end_at ends e).net == n)) (range_with_len 0 (length ends))) ≡ length (range_with_len 0 (length ends)) =
    length-filter_both (λ e. (end_at ends e).net == n) (λ e. not ((end_at ends e).net == n)) (λ _. refl) (range_with_len 0 (length ends)) in
    omega (arith, both, length-range_with_len 0 (length ends))
