-- Leakage recovery finds a move Fair exactly where it is Fair.

use Rattle.std.proofs.Common.{◌≡◌, ℕ, Bool, true, false, not, ◌&&◌, All, List, ◌++◌, filter, map, length, Option, None, Some, ℤ, ◌<ℤ◌, refl, arith}
use Rattle.std.specs.Prelude.{int_lt, if◌then◌else◌}
use Rattle.std.specs.List.{find, range_with_len}
use Rattle.std.proofs.lemmas.Int.{ints}
use Rattle.std.proofs.lemmas.List.Elements.{All-append, All-map}
use Rattle.gs_design.specs.Limits.{IsLimitOf, is_driven_by_inst, is_met, limits}
use Rattle.gs_design.specs.Timing.{timing_of}
use Rattle.gs_design.specs.declared.design.Design.{Design}
use Rattle.gs_design.specs.declared.limit.Limit.{Limit}
use Rattle.gs_design.specs.declared.limit.Limit.TheVariants.{Setup, Slew, Load, Area}
use Rattle.gs_move.specs.Change.{is_lost}
use Rattle.gs_move.specs.Fair.{IsFair, new_leak, present_leak}
use Rattle.gs_move.specs.Judge.{is_fair, is_fair_by}
use Rattle.gs_move.specs.Moves.{after}
use Rattle.gs_move.specs.Recovery.{recovery, unless_broken}
use Rattle.gs_move.specs.declared.moves.Move.{Move}
use Rattle.gs_move.specs.declared.outcome.Outcome.TheVariants.{NotFair}
use Rattle.gs_move.specs.declared.outcome.Why.TheVariants.{NoGain}
use Rattle.gs_move.proofs.Lists.{all_below, all_in_filter, all_left, all_of_filter, all_of_map, all_right, below_all, find_none, none_found}

abbrev setups : Design → List Limit
setups d = map (λ e. Setup e) (range_with_len 0 (length d.ends))

abbrev slews : Design → List Limit
slews d = map (λ n. Slew n) (range_with_len 0 (length d.nets))

abbrev loads : Design → List Limit
loads d = map (λ n. Load n) (filter (is_driven_by_inst d) (range_with_len 0 (length d.nets)))

-- what holds of all limits in the list holds of each limit of the design, and the other way round
pub each_limit : (d : Design) (P : Limit → Type 0) → All P (limits d) → (l : Limit) → IsLimitOf d l → P l
each_limit d P h (Setup e) of_it =
    below_all (λ k. P (Setup k)) (length d.ends) (all_of_map P (λ k. Setup k) (range_with_len 0 (length d.ends)) (all_left P (setups d) (slews d) (all_left P (setups d ++ slews d) (loads d) h))) e of_it
each_limit d P h (Slew n) of_it =
    below_all (λ k. P (Slew k)) (length d.nets) (all_of_map P (λ k. Slew k) (range_with_len 0 (length d.nets)) (all_right P (setups d) (slews d) (all_left P (setups d ++ slews d) (loads d) h))) n of_it
each_limit d P h (Load n) of_it =
    below_all (λ k. is_driven_by_inst d k ≡ true → P (Load k)) (length d.nets)
    (all_of_filter (λ k. P (Load k)) (is_driven_by_inst d) (range_with_len 0 (length d.nets))
    (all_of_map P (λ k. Load k) (filter (is_driven_by_inst d) (range_with_len 0 (length d.nets))) (all_right P (setups d ++ slews d) (loads d) h))) n of_it.0 of_it.1
each_limit d P h Area of_it = absurd of_it

pub all_limits : (d : Design) (P : Limit → Type 0) → ((l : Limit) → IsLimitOf d l → P l) → All P (limits d)
all_limits d P h =
    All-append P (setups d ++ slews d) (loads d)
    (All-append P (setups d) (slews d)
    (All-map P (λ k. Setup k) (range_with_len 0 (length d.ends)) (all_below (λ k. P (Setup k)) (length d.ends) (λ k lt. h (Setup k) lt)))
    (All-map P (λ k. Slew k) (range_with_len 0 (length d.nets)) (all_below (λ k. P (Slew k)) (length d.nets) (λ k lt. h (Slew k) lt))))
    (All-map P (λ k. Load k) (filter (is_driven_by_inst d) (range_with_len 0 (length d.nets)))
    (all_in_filter (λ k. P (Load k)) (is_driven_by_inst d) (range_with_len 0 (length d.nets))
    (all_below (λ k. is_driven_by_inst d k ≡ true → P (Load k)) (length d.nets) (λ k lt driven. h (Load k) (lt, driven)))))

kept_by : (a b : Bool) → (a && not b) ≡ false → a ≡ true → b ≡ true
kept_by true true e h = refl
kept_by true false e h = absurd cc
kept_by false b e h = absurd cc

unlost_by : (a b : Bool) → (a ≡ true → b ≡ true) → (a && not b) ≡ false
unlost_by true true h = refl
unlost_by true false h = absurd (let no = h refl in cc)
unlost_by false b h = refl

-- what the recovery judge's outcome says
fair_parts : (b : Bool) (broken : Option Limit) → is_fair (if b then unless_broken broken else NotFair NoGain) ≡ true → (b ≡ true) × (broken ≡ None)
fair_parts true None e = (refl, refl)
fair_parts true (Some l) e = absurd cc
fair_parts false broken e = absurd cc

parts_fair : (b : Bool) (broken : Option Limit) → b ≡ true → broken ≡ None → is_fair (if b then unless_broken broken else NotFair NoGain) ≡ true
parts_fair true None e h = refl
parts_fair true (Some l) e h = absurd cc
parts_fair false broken e h = absurd cc

pub lt_true : (x y : ℤ) → int_lt x y ≡ true → x <ℤ y
lt_true x y e = grind (arith, ints)

pub true_lt : (x y : ℤ) → x <ℤ y → int_lt x y ≡ true
true_lt x y e = grind (arith, ints)

pub fair_by_recovery : (d : Design) (s : List ℕ) (m : Move) → is_fair_by recovery d s m ≡ true → IsFair d s m
fair_by_recovery d s m h =
    let parts = fair_parts (int_lt (new_leak d m) (present_leak d s m)) (find (is_lost d (timing_of d s) (timing_of d (after s m))) (limits d)) h in
    let kept = find_none (is_lost d (timing_of d s) (timing_of d (after s m))) (limits d) parts.1 in
    record {
      leaks_less = lt_true (new_leak d m) (present_leak d s m) parts.0;
      keeps_limits = λ l of_it met.
          kept_by (is_met d (timing_of d s) l) (is_met d (timing_of d (after s m)) l) (each_limit d (λ k. is_lost d (timing_of d s) (timing_of d (after s m)) k ≡ false) kept l of_it) met;
    }

pub recovery_by_fair : (d : Design) (s : List ℕ) (m : Move) → IsFair d s m → is_fair_by recovery d s m ≡ true
recovery_by_fair d s m h =
    parts_fair (int_lt (new_leak d m) (present_leak d s m)) (find (is_lost d (timing_of d s) (timing_of d (after s m))) (limits d))
    (true_lt (new_leak d m) (present_leak d s m) h.leaks_less)
    (none_found (is_lost d (timing_of d s) (timing_of d (after s m))) (limits d)
    (all_limits d (λ k. is_lost d (timing_of d s) (timing_of d (after s m)) k ≡ false)
    (λ l of_it. unlost_by (is_met d (timing_of d s) l) (is_met d (timing_of d (after s m)) l) (h.keeps_limits l of_it))))
