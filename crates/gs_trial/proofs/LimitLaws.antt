-- The limits of a design, of one net and of all: which they are, and that they rise.

use Rattle.std.proofs.Common.{◌≡◌, ℕ, ◌+◌, ◌<◌, ◌≤◌, ◌==◌, Bool, true, false, All, List, [], ◌∷◌, ◌++◌, filter, map, length, refl, sym, subst, arith}
use Rattle.std.specs.Prelude.{if◌then◌else◌}
use Rattle.std.specs.List.{range_with_len}
use Rattle.std.proofs.lemmas.Bool.Decides.{Decides-eqb}
use Rattle.std.proofs.lemmas.List.Elements.{All-append, All-cons, All-filter, All-head, All-map, All-nil, All-tail, All-weaker}
use Rattle.gs_design.specs.Ends.{end_at, ends_at}
use Rattle.gs_design.specs.Limits.{IsLimitOf, is_driven_by_inst, limit_net, limits, limits_at}
use Rattle.gs_design.specs.declared.design.Design.{Design}
use Rattle.gs_design.specs.declared.limit.Limit.{Limit}
use Rattle.gs_design.specs.declared.limit.Limit.TheVariants.{Setup, Slew, Load, Area}
use Rattle.gs_trial.specs.Order.{limit_rank}
use Rattle.gs_trial.proofs.Lists.{Rising, all_below, all_in_filter, all_left, all_of_filter, all_of_map, all_right, below_all, rising_filter, rising_join, rising_map, rising_range}

abbrev setups : Design → List Limit
setups d = map (λ e. Setup e) (range_with_len 0 (length d.ends))

abbrev slews : Design → List Limit
slews d = map (λ n. Slew n) (range_with_len 0 (length d.nets))

abbrev driven : Design → List ℕ
driven d = filter (is_driven_by_inst d) (range_with_len 0 (length d.nets))

abbrev loads : Design → List Limit
loads d = map (λ n. Load n) (driven d)

-- what holds of all limits in the list holds of each limit of the design, and the other way round
pub each_limit : (d : Design) (P : Limit → Type 0) → All P (limits d) → (l : Limit) → IsLimitOf d l → P l
each_limit d P h (Setup e) of_it =
    below_all (λ k. P (Setup k)) (length d.ends) (all_of_map P (λ k. Setup k) (range_with_len 0 (length d.ends)) (all_left P (setups d) (slews d) (all_left P (setups d ++ slews d) (loads d) h))) e of_it
each_limit d P h (Slew n) of_it =
    below_all (λ k. P (Slew k)) (length d.nets) (all_of_map P (λ k. Slew k) (range_with_len 0 (length d.nets)) (all_right P (setups d) (slews d) (all_left P (setups d ++ slews d) (loads d) h))) n of_it
each_limit d P h (Load n) of_it =
    below_all (λ k. is_driven_by_inst d k ≡ true → P (Load k)) (length d.nets)
    (all_of_filter (λ k. P (Load k)) (is_driven_by_inst d) (range_with_len 0 (length d.nets)) (all_of_map P (λ k. Load k) (driven d) (all_right P (setups d ++ slews d) (loads d) h))) n of_it.0 of_it.1
each_limit d P h Area of_it = absurd of_it

pub all_limits : (d : Design) (P : Limit → Type 0) → ((l : Limit) → IsLimitOf d l → P l) → All P (limits d)
all_limits d P h =
    All-append P (setups d ++ slews d) (loads d)
    (All-append P (setups d) (slews d)
    (All-map P (λ k. Setup k) (range_with_len 0 (length d.ends)) (all_below (λ k. P (Setup k)) (length d.ends) (λ k lt. h (Setup k) lt)))
    (All-map P (λ k. Slew k) (range_with_len 0 (length d.nets)) (all_below (λ k. P (Slew k)) (length d.nets) (λ k lt. h (Slew k) lt))))
    (All-map P (λ k. Load k) (driven d)
    (all_in_filter (λ k. P (Load k)) (is_driven_by_inst d) (range_with_len 0 (length d.nets))
    (all_below (λ k. is_driven_by_inst d k ≡ true → P (Load k)) (length d.nets) (λ k lt is_so. h (Load k) (lt, is_so)))))

-- the same of the limits of one net
abbrev load_if : Bool → ℕ → List Limit
load_if b n = if b then Load n ∷ [] else []

module _ (d : Design) (n : ℕ) (lt : n < length d.nets) (P : Limit → Type 0) where
  load_at : (b : Bool) → is_driven_by_inst d n ≡ b → All P (load_if b n) → is_driven_by_inst d n ≡ true → P (Load n)
  load_at true is h yes' = All-head P (Load n) [] h
  load_at false is h yes' = absurd cc

  pub each_at : All P (limits_at d n) → (l : Limit) → IsLimitOf d l → limit_net d l ≡ n → P l
  each_at h (Setup e) of_it here =
      below_all (λ k. ((end_at d.ends k).net == n) ≡ true → P (Setup k)) (length d.ends)
      (all_of_filter (λ k. P (Setup k)) (λ k. (end_at d.ends k).net == n) (range_with_len 0 (length d.ends))
      (all_of_map P (λ k. Setup k) (ends_at d.ends n) (all_left P (map (λ k. Setup k) (ends_at d.ends n)) (Slew n ∷ load_if (is_driven_by_inst d n) n) h)))
      e of_it ((Decides-eqb (end_at d.ends e).net n).1 here)
  each_at h (Slew m) of_it here =
      subst (λ k. P (Slew k)) (sym here) (All-head P (Slew n) (load_if (is_driven_by_inst d n) n) (all_right P (map (λ k. Setup k) (ends_at d.ends n)) (Slew n ∷ load_if (is_driven_by_inst d n) n) h))
  each_at h (Load m) of_it here =
      subst (λ k. P (Load k)) (sym here)
      (load_at (is_driven_by_inst d n) refl
      (All-tail P (Slew n) (load_if (is_driven_by_inst d n) n) (all_right P (map (λ k. Setup k) (ends_at d.ends n)) (Slew n ∷ load_if (is_driven_by_inst d n) n) h))
      (subst (λ k. is_driven_by_inst d k ≡ true) here of_it.1))
  each_at h Area of_it here = absurd of_it

  all_load : (b : Bool) → is_driven_by_inst d n ≡ b → ((l : Limit) → IsLimitOf d l → limit_net d l ≡ n → P l) → All P (load_if b n)
  all_load true is h = All-cons P (Load n) [] (h (Load n) (lt, is) refl) (All-nil P)
  all_load false is h = All-nil P

  pub all_at : ((l : Limit) → IsLimitOf d l → limit_net d l ≡ n → P l) → All P (limits_at d n)
  all_at h =
      All-append P (map (λ k. Setup k) (ends_at d.ends n)) (Slew n ∷ load_if (is_driven_by_inst d n) n)
      (All-map P (λ k. Setup k) (ends_at d.ends n)
      (all_in_filter (λ k. P (Setup k)) (λ k. (end_at d.ends k).net == n) (range_with_len 0 (length d.ends))
      (all_below (λ k. ((end_at d.ends k).net == n) ≡ true → P (Setup k)) (length d.ends) (λ k k_in on. h (Setup k) k_in ((Decides-eqb (end_at d.ends k).net n).0 on)))))
      (All-cons P (Slew n) (load_if (is_driven_by_inst d n) n) (h (Slew n) lt refl) (all_load (is_driven_by_inst d n) refl h))

-- ---- the order

rising_setups : (d : Design) → Rising (limit_rank d) (setups d)
rising_setups d = rising_map (limit_rank d) (λ e. Setup e) (range_with_len 0 (length d.ends)) (rising_range (λ e. e) (λ i j lt. lt) 0 (length d.ends))

low_setups : (d : Design) → All (λ l. limit_rank d l < length d.ends) (setups d)
low_setups d = All-map (λ l. limit_rank d l < length d.ends) (λ e. Setup e) (range_with_len 0 (length d.ends)) (all_below (λ e. e < length d.ends) (length d.ends) (λ e lt. lt))

rising_slews : (d : Design) → Rising (limit_rank d) (slews d)
rising_slews d = rising_map (limit_rank d) (λ n. Slew n) (range_with_len 0 (length d.nets)) (rising_range (λ n. length d.ends + n) (λ i j lt. omega (arith, lt)) 0 (length d.nets))

high_slews : (d : Design) → All (λ l. length d.ends ≤ limit_rank d l) (slews d)
high_slews d = All-map (λ l. length d.ends ≤ limit_rank d l) (λ n. Slew n) (range_with_len 0 (length d.nets)) (all_below (λ n. length d.ends ≤ length d.ends + n) (length d.nets) (λ n lt. omega arith))

low_slews : (d : Design) → All (λ l. limit_rank d l < length d.ends + length d.nets) (slews d)
low_slews d = All-map (λ l. limit_rank d l < length d.ends + length d.nets) (λ n. Slew n) (range_with_len 0 (length d.nets)) (all_below (λ n. length d.ends + n < length d.ends + length d.nets) (length d.nets) (λ n lt. omega (arith, lt)))

rising_loads : (d : Design) → Rising (limit_rank d) (loads d)
rising_loads d =
    rising_map (limit_rank d) (λ n. Load n) (driven d)
    (rising_filter (λ n. length d.ends + length d.nets + n) (is_driven_by_inst d) (range_with_len 0 (length d.nets)) (rising_range (λ n. length d.ends + length d.nets + n) (λ i j lt. omega (arith, lt)) 0 (length d.nets)))

high_loads : (d : Design) → All (λ l. length d.ends + length d.nets ≤ limit_rank d l) (loads d)
high_loads d =
    All-map (λ l. length d.ends + length d.nets ≤ limit_rank d l) (λ n. Load n) (driven d)
    (All-filter (is_driven_by_inst d) (λ n. length d.ends + length d.nets ≤ length d.ends + length d.nets + n) (range_with_len 0 (length d.nets))
    (all_below (λ n. length d.ends + length d.nets ≤ length d.ends + length d.nets + n) (length d.nets) (λ n lt. omega arith)))

pub rising_limits : (d : Design) → Rising (limit_rank d) (limits d)
rising_limits d =
    rising_join (limit_rank d) (length d.ends + length d.nets) (setups d ++ slews d) (loads d)
    (All-append (λ l. limit_rank d l < length d.ends + length d.nets) (setups d) (slews d)
    (All-weaker (λ l. limit_rank d l < length d.ends) (λ l. limit_rank d l < length d.ends + length d.nets) (λ l lt. omega (arith, lt)) (setups d) (low_setups d)) (low_slews d))
    (high_loads d)
    (rising_join (limit_rank d) (length d.ends) (setups d) (slews d) (low_setups d) (high_slews d) (rising_setups d) (rising_slews d))
    (rising_loads d)

module _ (d : Design) (n : ℕ) (lt : n < length d.nets) where
  rising_last : (b : Bool) → Rising (limit_rank d) (Slew n ∷ load_if b n)
  rising_last true = (All-cons (λ l. limit_rank d (Slew n) < limit_rank d l) (Load n) [] (omega (arith, lt)) (All-nil (λ l. limit_rank d (Slew n) < limit_rank d l)), (All-nil (λ l. limit_rank d (Load n) < limit_rank d l), tt))
  rising_last false = (All-nil (λ l. limit_rank d (Slew n) < limit_rank d l), tt)

  high_last : (b : Bool) → All (λ l. length d.ends ≤ limit_rank d l) (Slew n ∷ load_if b n)
  high_last true =
      All-cons (λ l. length d.ends ≤ limit_rank d l) (Slew n) (Load n ∷ []) (omega arith)
      (All-cons (λ l. length d.ends ≤ limit_rank d l) (Load n) [] (omega arith) (All-nil (λ l. length d.ends ≤ limit_rank d l)))
  high_last false = All-cons (λ l. length d.ends ≤ limit_rank d l) (Slew n) [] (omega arith) (All-nil (λ l. length d.ends ≤ limit_rank d l))

  pub rising_at : Rising (limit_rank d) (limits_at d n)
  rising_at =
      rising_join (limit_rank d) (length d.ends) (map (λ k. Setup k) (ends_at d.ends n)) (Slew n ∷ load_if (is_driven_by_inst d n) n)
      (All-map (λ l. limit_rank d l < length d.ends) (λ k. Setup k) (ends_at d.ends n)
      (All-filter (λ k. (end_at d.ends k).net == n) (λ k. k < length d.ends) (range_with_len 0 (length d.ends)) (all_below (λ k. k < length d.ends) (length d.ends) (λ k k_in. k_in))))
      (high_last (is_driven_by_inst d n))
      (rising_map (limit_rank d) (λ k. Setup k) (ends_at d.ends n) (rising_filter (λ k. k) (λ k. (end_at d.ends k).net == n) (range_with_len 0 (length d.ends)) (rising_range (λ k. k) (λ i j ij. ij) 0 (length d.ends))))
      (rising_last (is_driven_by_inst d n))
