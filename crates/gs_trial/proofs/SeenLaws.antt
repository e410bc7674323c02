-- What is seen of a move tells all that the move changes: which limits it breaks, the sums of excess, and the records that change.

use Rattle.std.proofs.Common.{◌≡◌, ℕ, ◌+◌, ◌<◌, ◌≤◌, ◌==◌, Bool, true, false, not, ◌&&◌, ◌||◌, All, List, [], ◌∷◌, filter, map, take, length, get_or, sum_by, Option, None, Some, refl, sym, ◌∙◌, ap, subst, arith, ◌⊎◌, inl, inr}
use Rattle.std.specs.Prelude.{if◌then◌else◌}
use Rattle.std.specs.List.{find, range_with_len}
use Rattle.std.proofs.lemmas.Bool.{cases_Bool, or_cases, or_left, or_right}
use Rattle.std.proofs.lemmas.Bool.Decides.{Decides-eqb}
use Rattle.std.proofs.lemmas.List.{length-map, take_more}
use Rattle.std.proofs.lemmas.List.Elements.{All-filter, All-map}
use Rattle.std.proofs.lemmas.List.Filters.{length-filter_both}
use Rattle.std.proofs.lemmas.List.Folds.{list_any_more}
use Rattle.std.proofs.lemmas.List.Sums.{sum_by-cons, sum_by_push}
use Rattle.std.proofs.lemmas.Grind.{get_or_default_zero}
use Rattle.gs_design.specs.Limits.{IsLimitOf, is_met_in, limit_net, limits, limits_at, over_in}
use Rattle.gs_design.specs.Times.{no_time, time_at}
use Rattle.gs_design.specs.declared.design.Design.{Design}
use Rattle.gs_design.specs.declared.limit.Limit.{Limit}
use Rattle.gs_design.specs.declared.time.NetAt.{NetAt}
use Rattle.gs_design.specs.declared.time.NetTime.{NetTime}
use Rattle.gs_incr.specs.Seen.{has_seen, net_with, seen_between}
use Rattle.gs_limits.specs.Outcome.{first_broken}
use Rattle.gs_move.specs.Change.{is_lost, over_at, over_on}
use Rattle.gs_move.specs.Cone.{in_cone_of}
use Rattle.gs_move.specs.declared.moves.Move.{Move}
use Rattle.gs_trial.specs.Order.{earlier}
use Rattle.gs_trial.proofs.FirstLaws.{IsFirst, broken_at, first_at, first_is_one, first_of_all, first_of_both, net_in}
use Rattle.gs_trial.proofs.OrderLaws.{sum_order}
use Rattle.gs_trial.proofs.OverLaws.{over_here}
use Rattle.gs_trial.proofs.Lists.{sum_if}

never : (b : Bool) → b ≡ true → b ≡ false → ⊥
never true e h = absurd cc
never false e h = absurd cc

abbrev pub Among : List NetAt → ℕ → Type 0
Among seen n = has_seen seen n ≡ true

abbrev pub no_net : NetAt
no_net = record { net = 0; time = no_time }

-- ---- what a list of nets with their records keeps

pub record AreSeen (d : Design) (u : List NetTime) (seen : List NetAt) : Type 0 where
  pub nets : All (λ (a : NetAt). a.net < length d.nets) seen
  pub records : All (λ (a : NetAt). a.time ≡ time_at u a.net) seen
  pub few : length seen ≤ length d.nets

pub are_seen : (d : Design) (m : Move) (t u : List NetTime) → AreSeen d u (seen_between d m t u)
are_seen d m t u =
    let cone : List ℕ = filter (in_cone_of d m t u) d.order in
    let below : All (λ n. n < length d.nets) d.order = λ k e lt.
    let inside = d.well.order_kept.net_in k (omega (arith, lt, d.well.order_kept.ordered)) in
    subst (λ n. n < length d.nets) (sym (get_or_default_zero d.order k e lt)) inside in
    let both : length (filter (in_cone_of d m t u) d.order) + length (filter (λ n. not (in_cone_of d m t u n)) d.order) ≡ length d.order =
    length-filter_both (in_cone_of d m t u) (λ n. not (in_cone_of d m t u n)) (λ _. refl) d.order in
    record {
      nets = All-map (λ (a : NetAt). a.net < length d.nets) (net_with u) cone (All-filter (in_cone_of d m t u) (λ n. n < length d.nets) d.order below);
      records = All-map (λ (a : NetAt). a.time ≡ time_at u a.net) (net_with u) cone (λ k e lt. refl);
      few = omega (arith, both, length-map (filter (in_cone_of d m t u) d.order) (net_with u), d.well.order_kept.ordered);
    }

-- ---- the first limit that is broken

module _ (d : Design) (t u : List NetTime) (seen : List NetAt) (i : ℕ) (a : NetAt) (lt : i < length seen) (here : a ≡ get_or seen i no_net) where
  among_more : (n : ℕ) → has_seen (take (i + 1) seen) n ≡ (has_seen (take i seen) n || (a.net == n))
  among_more n = list_any_more (λ (b : NetAt). b.net == n) seen i no_net lt ∙ ap (λ (b : NetAt). has_seen (take i seen) n || (b.net == n)) (sym here)

  split : (n : ℕ) → Among (take (i + 1) seen) n → Among (take i seen) n ⊎ (n ≡ a.net)
  split n e = elim (or_cases (has_seen (take i seen) n) (a.net == n) (sym (among_more n) ∙ e)) [ inl old ↦ inl old | inr new ↦ inr (sym ((Decides-eqb a.net n).0 new)) ]

  left : (n : ℕ) → Among (take i seen) n → Among (take (i + 1) seen) n
  left n e = among_more n ∙ or_left (has_seen (take i seen) n) (a.net == n) e

  right : (n : ℕ) → n ≡ a.net → Among (take (i + 1) seen) n
  right n e = among_more n ∙ or_right (has_seen (take i seen) n) (a.net == n) ((Decides-eqb a.net n).1 (sym e))

  pub first_more_seen : (o r : Option Limit) → a.net < length d.nets → a.time ≡ time_at u a.net → IsFirst d (is_lost d t u) (Among (take i seen)) o
      → r ≡ first_broken d (time_at t a.net) a.time (limits_at d a.net) → IsFirst d (is_lost d t u) (Among (take (i + 1) seen)) (earlier d o r)
  first_more_seen o r net_in time_is so_far is =
      let found : r ≡ find (is_lost d t u) (limits_at d a.net) = is ∙ ap (λ x. first_broken d (time_at t a.net) x (limits_at d a.net)) time_is ∙ broken_at d t u a.net net_in in
      let at : IsFirst d (is_lost d t u) (λ k. k ≡ a.net) r = subst (IsFirst d (is_lost d t u) (λ k. k ≡ a.net)) (sym found) (first_at d (is_lost d t u) a.net net_in) in
      first_of_both d (is_lost d t u) (Among (take i seen)) (λ k. k ≡ a.net) (Among (take (i + 1) seen)) split left right o r so_far at

pub first_unseen : (d : Design) (t u : List NetTime) (seen : List NetAt) → IsFirst d (is_lost d t u) (Among (take 0 seen)) None
first_unseen d t u seen l of_it on = absurd cc

-- a limit on a net that isn't seen stays as it was
module _ (d : Design) (m : Move) (t u : List NetTime) (exact : (n : ℕ) → n < length d.nets → has_seen (seen_between d m t u) n ≡ in_cone_of d m t u n)
    (outside : (n : ℕ) → n < length d.nets → in_cone_of d m t u n ≡ false → time_at t n ≡ time_at u n) where
  same_met : (b : Bool) → (b && not b) ≡ false
  same_met true = refl
  same_met false = refl

  not_lost : (l : Limit) → IsLimitOf d l → has_seen (seen_between d m t u) (limit_net d l) ≡ false → is_lost d t u l ≡ false
  not_lost l of_it unseen =
      let inside = net_in d l of_it in
      let same = outside (limit_net d l) inside (sym (exact (limit_net d l) inside) ∙ unseen) in
      ap (λ r. is_met_in d (time_at t (limit_net d l)) l && not (is_met_in d r l)) (sym same) ∙ same_met (is_met_in d (time_at t (limit_net d l)) l)

  widen : (o : Option Limit) → IsFirst d (is_lost d t u) (Among (seen_between d m t u)) o → IsFirst d (is_lost d t u) (λ n. n < length d.nets) o
  widen None h = λ l of_it on. elim (cases_Bool (has_seen (seen_between d m t u) (limit_net d l))) [ inl here ↦ h l of_it here | inr there ↦ not_lost l of_it there ]
  widen (Some b) h = record {
    of_it = h.of_it;
    on = net_in d b h.of_it;
    passes = h.passes;
    least = λ l of_it on pass. elim (cases_Bool (has_seen (seen_between d m t u) (limit_net d l))) [
      | inl here ↦ h.least l of_it here pass
      | inr there ↦ absurd (never (is_lost d t u l) pass (not_lost l of_it there))
    ];
  }

  pub first_seen : (o : Option Limit) → IsFirst d (is_lost d t u) (Among (seen_between d m t u)) o → o ≡ find (is_lost d t u) (limits d)
  first_seen o h = first_is_one d (is_lost d t u) (λ n. n < length d.nets) o (find (is_lost d t u) (limits d)) (widen o h) (first_of_all d (is_lost d t u))

-- ---- sums

-- what a net that was seen adds
abbrev pub over_net : Design → List NetTime → NetAt → ℕ
over_net d t a = over_at d t a.net

sum_map : (d : Design) (t u : List NetTime) (ns : List ℕ) → sum_by (over_net d t) (map (net_with u) ns) ≡ sum_by (over_at d t) ns
sum_map d t u [] = refl
sum_map d t u (n ∷ ns) =
    sum_by-cons (over_net d t) (net_with u n) (map (net_with u) ns) ∙ ap (λ k. over_at d t n + k) (sum_map d t u ns) ∙ sym (sum_by-cons (over_at d t) n ns)

pub over_seen : (d : Design) (m : Move) (t u v : List NetTime) → sum_by (over_net d v) (seen_between d m t u) ≡ over_on (in_cone_of d m t u) d v
over_seen d m t u v =
    let on : ℕ → Bool = in_cone_of d m t u in
    sum_map d v u (filter (in_cone_of d m t u) d.order)
    ∙ sum_if (in_cone_of d m t u) (over_at d v) d.order
    ∙ sum_order (length d.nets) d.order d.ranks d.well.order_kept (λ n. if in_cone_of d m t u n then over_at d v n else 0)
    ∙ sym (sum_if (in_cone_of d m t u) (over_at d v) (range_with_len 0 (length d.nets)))

module _ (d : Design) (v : List NetTime) (seen : List NetAt) (i : ℕ) (a : NetAt) (lt : i < length seen) (here : a ≡ get_or seen i no_net) where
  pub over_more_seen : (r : NetTime) (so_far next : ℕ) → a.net < length d.nets → r ≡ time_at v a.net → so_far ≡ sum_by (over_net d v) (take i seen)
      → next ≡ so_far + sum_by (over_in d r) (limits_at d a.net) → next ≡ sum_by (over_net d v) (take (i + 1) seen)
  over_more_seen r so_far next net_in is e h =
      h ∙ ap (λ k. k + sum_by (over_in d r) (limits_at d a.net)) e
      ∙ ap (λ x. sum_by (over_net d v) (take i seen) + sum_by (over_in d x) (limits_at d a.net)) is
      ∙ ap (λ k. sum_by (over_net d v) (take i seen) + k) (over_here d v a.net net_in)
      ∙ sym (ap (sum_by (over_net d v)) (take_more seen i no_net lt) ∙ sum_by_push (over_net d v) (take i seen) (get_or seen i no_net)
      ∙ ap (λ (b : NetAt). sum_by (over_net d v) (take i seen) + over_at d v b.net) (sym here))
