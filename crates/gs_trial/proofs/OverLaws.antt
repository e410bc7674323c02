-- Sums of excess: what they are net by net, and that they are far below 2 ^ 127.

use Rattle.std.proofs.Common.{◌≡◌, ℕ, ◌+◌, ◌<◌, ◌≤◌, ◌==◌, Bool, true, false, not, List, [], ◌∷◌, filter, map, length, sum_by, Option, None, Some, ℤ, ◌-ℤ◌, nat_abs, refl, sym, ◌∙◌, ap, subst, arith}
use Rattle.std.specs.Prelude.{if◌then◌else◌, int_lt}
use Rattle.std.specs.List.{range_with_len}
use Rattle.std.proofs.lemmas.Int.{ints}
use Rattle.std.proofs.lemmas.List.{length-append, length-map}
use Rattle.std.proofs.lemmas.List.Filters.{length-filter_both}
use Rattle.std.proofs.lemmas.List.FromFn.{length-range_with_len}
use Rattle.std.proofs.lemmas.List.Sums.{sum_by-le}
use Rattle.gs_design.specs.Ends.{end_at, ends_at}
use Rattle.gs_design.specs.Limits.{IsLimitOf, excess_over, held_in, is_driven_by_inst, limits_at, over_in, over_of}
use Rattle.gs_design.specs.Times.{time_at}
use Rattle.gs_design.specs.declared.design.Design.{Design}
use Rattle.gs_design.specs.declared.limit.Limit.{Limit}
use Rattle.gs_design.specs.declared.limit.Limit.TheVariants.{Setup, Slew, Load, Area}
use Rattle.gs_design.specs.declared.time.NetTime.{NetTime}
use Rattle.gs_move.specs.Change.{over_at, over_on}
use Rattle.gs_trial.specs.Bounded.{IsBounded, IsBoundedIfGiven, IsBoundedRecord}
use Rattle.gs_trial.specs.Over.{over_if}
use Rattle.gs_trial.proofs.LimitLaws.{all_at}
use Rattle.gs_trial.proofs.Lists.{sum_if, sum_range_more, sum_same}

-- ---- one limit

max_by : (x y : ℤ) (b : Bool) → IsBounded x → IsBounded y → IsBounded (if b then x else y)
max_by x y true hx hy = hx
max_by x y false hx hy = hy

excess_by : (h b : ℤ) (t : Bool) → IsBounded h → IsBounded b → (if t then nat_abs (h -ℤ b) else 0) ≤ 18446744073709551616
excess_by h b true hh hb = omega (arith, ints, hh, hb)
excess_by h b false hh hb = omega arith

excess_small : (h : ℤ) (o : Option ℤ) → IsBounded h → IsBoundedIfGiven o → excess_over h o ≤ 18446744073709551616
excess_small h None hh ho = omega arith
excess_small h (Some b) hh ho = excess_by h b (int_lt b h) hh (ho b refl)

end_bounded : (d : Design) (e : ℕ) → e < length d.ends → IsBoundedIfGiven (Some (end_at d.ends e).bound)
end_bounded d e lt z is =
    let kept = d.well.ends_kept.bounds e lt in
    let same : (end_at d.ends e).bound ≡ z = cc in
    subst IsBounded same (omega (arith, kept))

over_small : (d : Design) (r : NetTime) (l : Limit) → IsLimitOf d l → IsBoundedRecord r → over_in d r l ≤ 18446744073709551616
over_small d r (Setup e) of_it h =
    excess_small (held_in r (Setup e)) (Some (end_at d.ends e).bound) (max_by r.rise.arrival r.fall.arrival (int_lt r.fall.arrival r.rise.arrival) h.rise_arrival h.fall_arrival) (end_bounded d e of_it)
over_small d r (Slew n) of_it h =
    excess_small (held_in r (Slew n)) r.slew_bound (max_by r.rise.slew r.fall.slew (int_lt r.fall.slew r.rise.slew) h.rise_slew h.fall_slew) h.slew_bound
over_small d r (Load n) of_it h = excess_small r.load r.load_bound h.load h.load_bound
over_small d r Area of_it h = absurd of_it

-- ---- one net

few_ends : (d : Design) (n : ℕ) → length (ends_at d.ends n) ≤ length d.ends
few_ends d n =
    let both : length (ends_at d.ends n) + length (filter (λ e. not ((end_at d.ends e).net == n)) (range_with_len 0 (length d.ends))) ≡ length (range_with_len 0 (length d.ends)) =
    length-filter_both (λ e. (end_at d.ends e).net == n) (λ e. not ((end_at d.ends e).net == n)) (λ _. refl) (range_with_len 0 (length d.ends)) in
    omega (arith, both, length-range_with_len 0 (length d.ends))

last_few : (n : ℕ) (b : Bool) → length (Slew n ∷ (if b then Load n ∷ [] else [])) ≤ 2
last_few n true = omega arith
last_few n false = omega arith

few_limits : (d : Design) (n : ℕ) → length (limits_at d n) ≤ 16777218
few_limits d n =
    let setups : List Limit = map (λ e. Setup e) (ends_at d.ends n) in
    let others : List Limit = Slew n ∷ (if is_driven_by_inst d n then Load n ∷ [] else []) in
    omega (arith, length-append setups others, length-map (ends_at d.ends n) (λ e. Setup e), few_ends d n, d.well.ends_kept.few, last_few n (is_driven_by_inst d n))

pub net_small : (d : Design) (r : NetTime) (n : ℕ) → n < length d.nets → IsBoundedRecord r → sum_by (over_in d r) (limits_at d n) ≤ 309485046714833216143884288
net_small d r n lt h =
    let sum = sum_by-le (over_in d r) 18446744073709551616 (limits_at d n) (all_at d n lt (λ l. over_in d r l ≤ 18446744073709551616) (λ l of_it here. over_small d r l of_it h)) in
    omega (arith, sum, few_limits d n)

-- the sum over the limits of a net, as the whole timing has it
pub over_here : (d : Design) (t : List NetTime) (n : ℕ) → n < length d.nets → sum_by (over_in d (time_at t n)) (limits_at d n) ≡ over_at d t n
over_here d t n lt =
    sum_same (over_in d (time_at t n)) (over_of d t) (limits_at d n)
    (all_at d n lt (λ l. over_in d (time_at t n) l ≡ over_of d t l) (λ l of_it here. ap (λ m. over_in d (time_at t m) l) (sym here)))

-- ---- all nets

pub over_sum : (on : ℕ → Bool) (d : Design) (t : List NetTime) → over_on on d t ≡ sum_by (over_if on d t) (range_with_len 0 (length d.nets))
over_sum on d t = sum_if on (over_at d t) (range_with_len 0 (length d.nets))

pub over_more : (on : ℕ → Bool) (d : Design) (t : List NetTime) (i so_far next : ℕ) → so_far ≡ sum_by (over_if on d t) (range_with_len 0 i) → next ≡ so_far + over_if on d t i
    → next ≡ sum_by (over_if on d t) (range_with_len 0 (i + 1))
over_more on d t i so_far next e h = h ∙ ap (λ n. n + over_if on d t i) e ∙ sym (sum_range_more (over_if on d t) i)
