-- A pass over a design in its order, net by net.

use Rattle.std.proofs.Common.{◌≡◌, ◌≢◌, ℕ, zero, suc, ◌+◌, ◌*◌, ◌<◌, ◌≤◌, ◌⊎◌, true, All, List, [], ◌∷◌, ◌++◌, fold, take, length, slice_index, slice_index_or, slice_set, replicate, refl, sym, ◌∙◌, ap, subst, arith, inl, inr}
use Rattle.std.proofs.lemmas.List.{get_or-set_other, get_or-set_same, length-replicate, length-set, replicate-append-replicate, take_all}
use Rattle.std.proofs.lemmas.List.Sums.{fold_more}
use Rattle.std.proofs.lemmas.Bool.{cases_eq}
use Rattle.gs_design.specs.Ends.{is_gate_inst}
use Rattle.gs_design.specs.Insts.{inst_at}
use Rattle.gs_design.specs.Nets.{net_at}
use Rattle.gs_design.specs.Sizes.{FitSizes}
use Rattle.gs_design.specs.Timing.{IsTiming, local_of, time_net, timing_of}
use Rattle.gs_design.specs.Times.{no_time, time_at}
use Rattle.gs_design.specs.declared.design.Design.{Design}
use Rattle.gs_design.specs.declared.sink.Driver.TheVariants.{Inst}
use Rattle.gs_design.specs.declared.time.NetTime.{NetTime}
use Rattle.gs_timing.specs.Calm.{IsCalmAt}
use Rattle.gs_timing.specs.Done.{IsTimedTo}
use Rattle.gs_timing.specs.Late.{IsLate}
use Rattle.gs_timing.specs.Same.{SameTimesAt}
use Rattle.gs_timing.proofs.FrameLaws.{record_same, same_sizes}
use Rattle.gs_timing.proofs.LateLaws.{net_late}

later_bound : (t : NetTime) (a b : ℕ) → a ≤ b → IsLate t a → IsLate t b
later_bound t a b le h = let r = h.rise in let f = h.fall in record { rise = omega (arith, le, r); fall = omega (arith, le, f) }

module _ (d : Design) (s : List ℕ) (fit : FitSizes d s) (t : List NetTime) (i : ℕ) (lt : i < length d.nets) (h : IsTimedTo d s t i) where
  -- the input nets of the gate that drives a net have smaller ranks
  ranks_below : (k g : ℕ) → k < length d.nets → (net_at d.nets (slice_index d.order k)).driver ≡ Inst g → is_gate_inst d.cells (inst_at d.insts g) ≡ true
      → All (λ m. (m < length d.nets) × (slice_index d.ranks m < k)) (inst_at d.insts g).inputs
  ranks_below k g kt drives gate j e jt =
      let net_in = d.well.order_kept.net_in k kt in
      let before = d.well.inputs_before (slice_index d.order k) g net_in drives gate j e jt in
      let rank = d.well.order_kept.rank_of_net k kt in
      (d.well.inputs_in g ((d.well.nets_kept (slice_index d.order k) net_in).inst_in g drives) j e jt, omega (arith, before, rank))

  input_late : (k g : ℕ) → k < length d.nets → k ≤ i → (net_at d.nets (slice_index d.order k)).driver ≡ Inst g → is_gate_inst d.cells (inst_at d.insts g) ≡ true
      → All (λ m. IsLate (time_at t m) (1099511627776 + k * 68719476736)) (inst_at d.insts g).inputs
  input_late k g kt ki drives gate j e jt =
      let below = ranks_below k g kt drives gate j e jt in
      let rank : ℕ = slice_index d.ranks (slice_index_or (inst_at d.insts g).inputs j e) in
      subst (λ m. IsLate (time_at t m) (1099511627776 + k * 68719476736)) (d.well.order_kept.net_of_rank (slice_index_or (inst_at d.insts g).inputs j e) below.0)
      (later_bound (time_at t (slice_index d.order rank)) (1099511627776 + (rank + 1) * 68719476736) (1099511627776 + k * 68719476736)
      (omega (arith, below.1)) (h.late rank (omega (arith, below.1, ki))))

  pub calm_here : IsCalmAt d t (slice_index d.order i)
  calm_here g drives gate j e jt =
      let late = input_late i g lt (omega arith) drives gate j e jt in
      let few = d.well.few_nets in
      record { rise = omega (arith, late.rise, few, lt); fall = omega (arith, late.fall, few, lt) }

  abbrev pub more : List NetTime
  more = slice_set t (slice_index d.order i) (local_of d s t (slice_index d.order i))

  apart : (m : ℕ) → slice_index d.ranks m < i → m ≢ slice_index d.order i
  apart m below e = omega (arith, below, ap (λ x. slice_index d.ranks x) e, d.well.order_kept.rank_of_net i lt)

  unchanged : (m : ℕ) → slice_index d.ranks m < i → time_at more m ≡ time_at t m
  unchanged m below = get_or-set_other t (slice_index d.order i) m (local_of d s t (slice_index d.order i)) no_time (apart m below)

  changed : time_at more (slice_index d.order i) ≡ local_of d s t (slice_index d.order i)
  changed = get_or-set_same t (slice_index d.order i) (local_of d s t (slice_index d.order i)) no_time
      (let net_in = d.well.order_kept.net_in i lt in let many = h.as_many in omega (arith, net_in, many))

  same_inputs : (k : ℕ) → k < length d.nets → k ≤ i → SameTimesAt d t more (slice_index d.order k)
  same_inputs k kt ki g drives gate j e jt =
      let below = ranks_below k g kt drives gate j e jt in
      sym (unchanged (slice_index_or (inst_at d.insts g).inputs j e) (omega (arith, below.1, ki)))

  -- the equation of a net reads nothing that changes
  still : (k : ℕ) → k ≤ i → local_of d s t (slice_index d.order k) ≡ local_of d s more (slice_index d.order k)
  still k ki =
      let kt : k < length d.nets = omega (arith, ki, lt) in
      record_same d s s fit t more (slice_index d.order k) (d.well.order_kept.net_in k kt) (same_sizes d s (slice_index d.order k)) (same_inputs k kt ki)

  kept : (j : ℕ) → j < i → time_at more (slice_index d.order j) ≡ time_at t (slice_index d.order j)
  kept j ji = unchanged (slice_index d.order j) (omega (arith, ji, lt, d.well.order_kept.rank_of_net j (omega (arith, ji, lt))))

  each_more : (j : ℕ) → j < i + 1 → (j ≡ i) ⊎ (j ≡ i → ⊥) → time_at more (slice_index d.order j) ≡ local_of d s more (slice_index d.order j)
  each_more j ji (inl e) = subst (λ k. time_at more (slice_index d.order k) ≡ local_of d s more (slice_index d.order k)) (sym e) (changed ∙ still i (omega arith))
  each_more j ji (inr other) =
      let ji' : j < i = omega (arith, ji, other) in
      kept j ji' ∙ h.each j ji' ∙ still j (omega (arith, ji'))

  here_late : IsLate (time_at more (slice_index d.order i)) (1099511627776 + (i + 1) * 68719476736)
  here_late =
      subst (λ r. IsLate r (1099511627776 + (i + 1) * 68719476736)) (sym changed)
      (later_bound (local_of d s t (slice_index d.order i)) (1099511627776 + i * 68719476736 + 68719476736) (1099511627776 + (i + 1) * 68719476736) (omega arith)
      (net_late d s fit t (slice_index d.order i) (d.well.order_kept.net_in i lt) (1099511627776 + i * 68719476736) (omega arith)
      (λ g drives gate. input_late i g lt (omega arith) drives gate)))

  late_more : (j : ℕ) → j < i + 1 → (j ≡ i) ⊎ (j ≡ i → ⊥) → IsLate (time_at more (slice_index d.order j)) (1099511627776 + (j + 1) * 68719476736)
  late_more j ji (inl e) = subst (λ k. IsLate (time_at more (slice_index d.order k)) (1099511627776 + (k + 1) * 68719476736)) (sym e) here_late
  late_more j ji (inr other) =
      let ji' : j < i = omega (arith, ji, other) in
      subst (λ r. IsLate r (1099511627776 + (j + 1) * 68719476736)) (sym (kept j ji')) (h.late j ji')

  pub timed_more : IsTimedTo d s more (i + 1)
  timed_more = record {
    as_many = length-set t (slice_index d.order i) (local_of d s t (slice_index d.order i)) ∙ h.as_many;
    each = λ j ji. each_more j ji (cases_eq j i);
    late = λ j ji. late_more j ji (cases_eq j i);
  }

  -- one net on
  pub step_net : (net : ℕ) (time : NetTime) (next : List NetTime) → net ≡ slice_index d.order i → time ≡ local_of d s t net → next ≡ slice_set t net time → IsTimedTo d s next (i + 1)
  step_net net time next net_is time_is next_is =
      rw (next_is, time_is, net_is) timed_more

  pub net_inside : (net : ℕ) → net ≡ slice_index d.order i → net < length d.nets
  net_inside net net_is = rw net_is (d.well.order_kept.net_in i lt)

  pub net_calm : (net : ℕ) → net ≡ slice_index d.order i → IsCalmAt d t net
  net_calm net net_is = subst (λ m. IsCalmAt d t m) (sym net_is) calm_here

-- all nets timed
pub timed_all : (d : Design) (s : List ℕ) (t : List NetTime) → IsTimedTo d s t (length d.nets) → IsTiming d s t
timed_all d s t h = record {
  as_many = h.as_many;
  each = λ n lt.
      subst (λ m. time_at t m ≡ local_of d s t m) (d.well.order_kept.net_of_rank n lt)
      (h.each (slice_index d.ranks n) (d.well.order_kept.rank_in n lt));
}

-- in any timing the edges are as late as their ranks allow
rank_late : (d : Design) (s : List ℕ) (t : List NetTime) → FitSizes d s → IsTiming d s t → (k n : ℕ) → n < length d.nets → slice_index d.ranks n < k
    → IsLate (time_at t n) (1099511627776 + k * 68719476736)
rank_late d s t fit ht zero n lt below = absurd (omega (arith, below))
rank_late d s t fit ht (suc k) n lt below =
    subst (λ r. IsLate r (1099511627776 + suc k * 68719476736)) (sym (ht.each n lt))
    (later_bound (local_of d s t n) (1099511627776 + k * 68719476736 + 68719476736) (1099511627776 + suc k * 68719476736) (omega arith)
    (net_late d s fit t n lt (1099511627776 + k * 68719476736) (omega arith)
    (λ g drives gate i e it.
    let before = d.well.inputs_before n g lt drives gate i e it in
    let inside = d.well.inputs_in g ((d.well.nets_kept n lt).inst_in g drives) i e it in
    rank_late d s t fit ht k (slice_index_or (inst_at d.insts g).inputs i e) inside (omega (arith, before, below)))))

-- every arrival is below 2 ^ 60
pub timing_late : (d : Design) (s : List ℕ) (t : List NetTime) (n : ℕ) → FitSizes d s → IsTiming d s t → n < length d.nets → IsLate (time_at t n) 1152921504606846975
timing_late d s t n fit ht lt =
    later_bound (time_at t n) (1099511627776 + length d.nets * 68719476736) 1152921504606846975 (let few = d.well.few_nets in omega (arith, few))
    (rank_late d s t fit ht (length d.nets) n lt (d.well.order_kept.rank_in n lt))

pub timed_none : (d : Design) (s : List ℕ) → IsTimedTo d s (replicate (length d.nets) no_time) 0
timed_none d s = record { as_many = length-replicate (length d.nets) no_time; each = λ j lt. absurd (omega (arith, lt)); late = λ j lt. absurd (omega (arith, lt)) }

-- one more record of a net that is yet to be timed
pub untimed_more : (xs : List NetTime) (n : ℕ) → xs ≡ replicate n no_time → xs ++ no_time ∷ [] ≡ replicate (n + 1) no_time
untimed_more xs n is = rw is (replicate-append-replicate n 1 no_time)

-- ---- the pass as a fold

abbrev untimed : Design → List NetTime
untimed d = replicate (length d.nets) no_time

module _ (d : Design) (s : List ℕ) (fit : FitSizes d s) where
  made_to : (i : ℕ) → i ≤ length d.nets → IsTimedTo d s (fold (time_net d s) (untimed d) (take i d.order)) i
  made_to zero le = timed_none d s
  made_to (suc i) le =
      let lt : i < length d.nets = omega (arith, le) in
      let in_order : i < length d.order = omega (arith, lt, d.well.order_kept.ordered) in
      let more = timed_more d s fit (fold (time_net d s) (untimed d) (take i d.order)) i lt (made_to i (omega (arith, le))) in
      let one : i + 1 ≡ suc i = omega arith in
      subst (λ k. IsTimedTo d s (fold (time_net d s) (untimed d) (take k d.order)) k) one
      (subst (λ t. IsTimedTo d s t (i + 1)) (sym (fold_more (time_net d s) (untimed d) d.order i 0 in_order)) more)

  -- the timing that is made net by net meets the equation of every net
  pub timing_made : IsTiming d s (timing_of d s)
  timing_made =
      let all : take (length d.nets) d.order ≡ d.order = take_all (length d.nets) d.order (omega (arith, d.well.order_kept.ordered)) in
      timed_all d s (timing_of d s) (subst (λ o. IsTimedTo d s (fold (time_net d s) (untimed d) o) (length d.nets)) all (made_to (length d.nets) (omega arith)))
