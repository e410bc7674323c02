-- Installing records, one after another; and that what a move changes is exactly what installing its delta changes.

use Rattle.std.proofs.Common.{◌≡◌, ◌≢◌, ℕ, ◌+◌, ◌<◌, ◌==◌, Bool, true, false, not, ◌&&◌, ◌||◌, List, [], ◌∷◌, filter, fold, take, length, get_or, slice_set, replicate, Option, None, Some, ℤ, refl, sym, ◌∙◌, ap, subst, arith, ◌⊎◌, inl, inr}
use Rattle.std.specs.List.{list_any, range_with_len}
use Rattle.std.specs.Option.{option_eq}
use Rattle.std.specs.Ordering.{int_eq}
use Rattle.std.proofs.lemmas.Bool.{cases_eq, ne_eqb}
use Rattle.std.proofs.lemmas.Bool.Decides.{Decides-eqb, Decides-int_eq}
use Rattle.std.proofs.lemmas.List.{ext_get_or, get_or-set_other, get_or-set_same, get_or-take, get_or_read, length-replicate, length-set, length-take-le}
use Rattle.std.proofs.lemmas.List.Elements.{All-filter, All-map}
use Rattle.std.proofs.lemmas.List.Folds.{list_any_more, list_any_none}
use Rattle.std.proofs.lemmas.List.Kept.{AllPairs-filter}
use Rattle.gs_design.specs.Times.{no_time, time_at}
use Rattle.gs_design.specs.Timing.{time_net, timing_of}
use Rattle.gs_design.specs.declared.design.Design.{Design}
use Rattle.gs_design.specs.declared.time.Edge.{Edge}
use Rattle.gs_design.specs.declared.time.NetAt.{NetAt}
use Rattle.gs_design.specs.declared.time.NetTime.{NetTime}
use Rattle.gs_move.specs.Delta.{AreInstalled, AreRecordsFor}
use Rattle.gs_move.specs.Moves.{after}
use Rattle.gs_move.specs.Records.{differ, same_edge, same_record}
use Rattle.gs_move.specs.Trial.{changed_nets, changed_records}
use Rattle.gs_move.specs.declared.moves.Move.{Move}
use Rattle.gs_move.proofs.Lists.{all_below, all_in_filter, all_of_filter, all_of_map, below_all, pairs_below, pairs_map}

pub installed_none : (nets : List NetAt) (before : List NetTime) → AreInstalled (take 0 nets) before before
installed_none nets before = record { as_many = refl; named = λ k d lt. absurd (omega (arith, lt)); others = λ n _. refl }

left_no : (a b : Bool) → (a || b) ≡ false → a ≡ false
left_no true b e = absurd cc
left_no false b e = refl

right_no : (a b : Bool) → (a || b) ≡ false → b ≡ false
right_no true b e = absurd cc
right_no false b e = e

unequal : (x y : ℕ) → x ≡ y → (x == y) ≡ false → ⊥
unequal x y e h = absurd (let same = (Decides-eqb x y).1 e in cc)

-- one record more
module _ (nets : List NetAt) (before now : List NetTime) (fit : AreRecordsFor (length before) nets) (i : ℕ) (a : NetAt) (lt : i < length nets) (here : a ≡ get_or nets i a) (so_far : AreInstalled (take i nets) before now) where
  pub net_in : a.net < length now
  net_in =
      let many = so_far.as_many in
      let inside : (get_or nets i a).net < length before = fit.within i a lt in
      omega (arith, many, subst (λ (b : NetAt). b.net < length before) (sym here) inside)

  abbrev next : List NetTime
  next = slice_set now a.net a.time

  named_at : (k : ℕ) (d : NetAt) → k < i + 1 → (k ≡ i) ⊎ (k ≡ i → ⊥) → time_at next (get_or nets k d).net ≡ (get_or nets k d).time
  named_at k d kt (inl e) =
      let it : a ≡ get_or nets k d = subst (λ j. a ≡ get_or nets j d) (sym e) (get_or_read nets i a lt here d) in
      subst (λ (b : NetAt). time_at next b.net ≡ b.time) it (get_or-set_same now a.net a.time no_time net_in)
  named_at k d kt (inr other) =
      let ki : k < i = omega (arith, kt, other) in
      let apart : (get_or nets k d).net ≢ a.net = subst (λ (b : NetAt). (get_or nets k d).net ≢ b.net) (sym (get_or_read nets i a lt here d)) (fit.once k i d ki lt) in
      let old : time_at now (get_or nets k d).net ≡ (get_or nets k d).time =
      subst (λ (b : NetAt). time_at now b.net ≡ b.time) (get_or-take i nets k d ki) (so_far.named k d (omega (arith, ki, length-take-le i nets (omega (arith, lt))))) in
      get_or-set_other now a.net (get_or nets k d).net a.time no_time apart ∙ old

  others_at : (n : ℕ) → list_any (λ b. b.net == n) (take (i + 1) nets) ≡ false → time_at next n ≡ time_at before n
  others_at n unnamed =
      let split : (list_any (λ b. b.net == n) (take i nets) || ((get_or nets i a).net == n)) ≡ false = sym (list_any_more (λ b. b.net == n) nets i a lt) ∙ unnamed in
      let apart : n ≢ a.net = λ e. unequal (get_or nets i a).net n (ap (λ (b : NetAt). b.net) (sym here) ∙ sym e) (right_no (list_any (λ b. b.net == n) (take i nets)) ((get_or nets i a).net == n) split) in
      get_or-set_other now a.net n a.time no_time apart ∙ so_far.others n (left_no (list_any (λ b. b.net == n) (take i nets)) ((get_or nets i a).net == n) split)

  pub installed_more : AreInstalled (take (i + 1) nets) before next
  installed_more = record {
    as_many = length-set now a.net a.time ∙ so_far.as_many;
    named = λ k d kt.
        let k_in : k < i + 1 = omega (arith, kt, length-take-le (i + 1) nets (omega (arith, lt))) in
        subst (λ (b : NetAt). time_at next b.net ≡ b.time) (sym (get_or-take (i + 1) nets k d k_in)) (named_at k d k_in (cases_eq k i));
    others = others_at;
  }

-- ---- records that are the same

both : (a b : Bool) → (a && b) ≡ true → (a ≡ true) × (b ≡ true)
both true true e = (refl, refl)
both true false e = absurd cc
both false b e = absurd cc

same_bound : (a b : Option ℤ) → option_eq int_eq a b ≡ true → a ≡ b
same_bound None None e = refl
same_bound None (Some y) e = absurd cc
same_bound (Some x) None e = absurd cc
same_bound (Some x) (Some y) e = ap (λ z. Some z) ((Decides-int_eq x y).0 e)

edge_is : (a b : Edge) → same_edge a b ≡ true → a ≡ b
edge_is a b e =
    let parts = both (int_eq a.arrival b.arrival) (int_eq a.slew b.slew) e in
    λ i. record { arrival = (Decides-int_eq a.arrival b.arrival).0 parts.0 i; slew = (Decides-int_eq a.slew b.slew).0 parts.1 i }

pub record_is : (a b : NetTime) → same_record a b ≡ true → a ≡ b
record_is a b e =
    let bounds : Bool = option_eq int_eq a.load_bound b.load_bound && option_eq int_eq a.slew_bound b.slew_bound in
    let edges : Bool = same_edge a.rise b.rise && same_edge a.fall b.fall in
    let parts = both (int_eq a.load b.load && bounds) edges e in
    let first = both (int_eq a.load b.load) bounds parts.0 in
    let bound = both (option_eq int_eq a.load_bound b.load_bound) (option_eq int_eq a.slew_bound b.slew_bound) first.1 in
    let edge = both (same_edge a.rise b.rise) (same_edge a.fall b.fall) parts.1 in
    λ i. record {
      load = (Decides-int_eq a.load b.load).0 first.0 i;
      load_bound = same_bound a.load_bound b.load_bound bound.0 i;
      slew_bound = same_bound a.slew_bound b.slew_bound bound.1 i;
      rise = edge_is a.rise b.rise edge.0 i;
      fall = edge_is a.fall b.fall edge.1 i;
    }

not_true : (b : Bool) → not b ≡ false → b ≡ true
not_true true e = refl
not_true false e = absurd cc

-- ---- the records that differ

module _ (t u : List NetTime) (count : ℕ) where
  pub changed_fit : AreRecordsFor count (changed_records t u count)
  changed_fit = record {
    within = All-map (λ a. a.net < count) (λ n. record { net = n; time = time_at u n }) (filter (differ t u) (range_with_len 0 count))
        (All-filter (differ t u) (λ n. n < count) (range_with_len 0 count) (all_below (λ n. n < count) count (λ n lt. lt)));
    once = pairs_map (λ a b. a.net ≢ b.net) (λ n. record { net = n; time = time_at u n }) (filter (differ t u) (range_with_len 0 count))
        (AllPairs-filter (λ x y. x ≢ y) (differ t u) (range_with_len 0 count) (pairs_below count)) 0;
  }

  module _ (v : List NetTime) (old_many : length t ≡ count) (new_many : length u ≡ count) (h : AreInstalled (changed_records t u count) t v) where
    named_all : (n : ℕ) → n < count → differ t u n ≡ true → time_at v n ≡ time_at u n
    named_all =
        below_all (λ n. differ t u n ≡ true → time_at v n ≡ time_at u n) count
        (all_of_filter (λ n. time_at v n ≡ time_at u n) (differ t u) (range_with_len 0 count)
        (all_of_map (λ a. time_at v a.net ≡ a.time) (λ n. record { net = n; time = time_at u n }) (filter (differ t u) (range_with_len 0 count)) h.named))

    unnamed : (n : ℕ) → differ t u n ≡ false → list_any (λ a. a.net == n) (changed_records t u count) ≡ false
    unnamed n same =
        list_any_none (λ a. a.net == n) (changed_records t u count)
        (All-map (λ a. (a.net == n) ≡ false) (λ k. record { net = k; time = time_at u k }) (filter (differ t u) (range_with_len 0 count))
        (all_in_filter (λ k. (k == n) ≡ false) (differ t u) (range_with_len 0 count)
        (all_below (λ k. differ t u k ≡ true → (k == n) ≡ false) count (λ k lt changed. ne_eqb k n (λ e. absurd (let here = ap (λ j. differ t u j) e in cc))))))

    at_each : (n : ℕ) → n < count → (b : Bool) → differ t u n ≡ b → time_at v n ≡ time_at u n
    at_each n lt true is = named_all n lt is
    at_each n lt false is = h.others n (unnamed n is) ∙ record_is (time_at t n) (time_at u n) (not_true (same_record (time_at t n) (time_at u n)) is)

    pub installed_is : v ≡ u
    installed_is =
        ext_get_or no_time v u (h.as_many ∙ old_many ∙ sym new_many)
        (λ n lt. at_each n (omega (arith, lt, h.as_many, old_many)) (differ t u n) refl)

-- ---- of a move

length_pass : (d : Design) (s : List ℕ) (t : List NetTime) (order : List ℕ) → length (fold (time_net d s) t order) ≡ length t
length_pass d s t [] = refl
length_pass d s t (n ∷ order) = length_pass d s (time_net d s t n) order ∙ length-set t n _

pub timing_length : (d : Design) (s : List ℕ) → length (timing_of d s) ≡ length d.nets
timing_length d s = length_pass d s (replicate (length d.nets) no_time) d.order ∙ length-replicate (length d.nets) no_time

pub delta_fits : (d : Design) (s : List ℕ) (m : Move) → AreRecordsFor (length d.nets) (changed_nets d s m)
delta_fits d s m = changed_fit (timing_of d s) (timing_of d (after s m)) (length d.nets)

pub delta_exact : (d : Design) (s : List ℕ) (m : Move) (v : List NetTime) → AreInstalled (changed_nets d s m) (timing_of d s) v → v ≡ timing_of d (after s m)
delta_exact d s m v h = installed_is (timing_of d s) (timing_of d (after s m)) (length d.nets) v (timing_length d s) (timing_length d (after s m)) h
