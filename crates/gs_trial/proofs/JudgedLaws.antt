-- What the nets that were seen say of the limits, net by net.

use Rattle.std.proofs.Common.{◌≡◌, ℕ, ◌+◌, ◌*◌, ◌<◌, ◌≤◌, List, take, length, get_or, sum_by, false, None, refl, sym, ◌∙◌, ap, subst, arith}
use Rattle.std.specs.List.{find}
use Rattle.std.proofs.lemmas.List.{take_all}
use Rattle.gs_design.specs.Limits.{limits, limits_at, over_in}
use Rattle.gs_design.specs.Times.{time_at}
use Rattle.gs_design.specs.declared.design.Design.{Design}
use Rattle.gs_design.specs.declared.time.NetAt.{NetAt}
use Rattle.gs_design.specs.declared.time.NetTime.{NetTime}
use Rattle.gs_incr.specs.Seen.{has_seen, seen_between}
use Rattle.gs_limits.specs.Outcome.{first_broken}
use Rattle.gs_limits.specs.declared.outcome.NetOutcome.{NetOutcome}
use Rattle.gs_move.specs.Change.{is_lost, over_on}
use Rattle.gs_move.specs.Cone.{in_cone_of}
use Rattle.gs_move.specs.declared.moves.Move.{Move}
use Rattle.gs_trial.specs.Order.{earlier}
use Rattle.gs_trial.proofs.FirstLaws.{IsFirst}
use Rattle.gs_trial.proofs.SeenLaws.{Among, AreSeen, first_more_seen, first_seen, first_unseen, no_net, over_more_seen, over_net, over_seen}

-- the outcome of the first i nets that were seen
pub record IsJudged (d : Design) (t u : List NetTime) (seen : List NetAt) (i : ℕ) (o : NetOutcome) : Type 0 where
  pub within : i ≤ length seen
  pub first : IsFirst d (is_lost d t u) (Among (take i seen)) o.broken
  pub old : o.over_old ≡ sum_by (over_net d t) (take i seen)
  pub new : o.over_new ≡ sum_by (over_net d u) (take i seen)
  pub few_old : o.over_old ≤ i * 309485046714833216143884288
  pub few_new : o.over_new ≤ i * 309485046714833216143884288

pub judged_none : (d : Design) (t u : List NetTime) (seen : List NetAt) (o : NetOutcome) → o ≡ record { broken = None; over_old = 0; over_new = 0 } → IsJudged d t u seen 0 o
judged_none d t u seen o is =
    subst (IsJudged d t u seen 0) (sym is)
    (record { within = omega arith; first = first_unseen d t u seen; old = refl; new = refl; few_old = omega arith; few_new = omega arith })

module _ (d : Design) (t u : List NetTime) (seen : List NetAt) (are : AreSeen d u seen) (i : ℕ) (o : NetOutcome) (h : IsJudged d t u seen i o) where
  pub room_old : o.over_old < 85070591730234615865843651857942052864
  room_old = omega (arith, h.few_old, h.within, are.few, d.well.few_nets)

  pub room_new : o.over_new < 85070591730234615865843651857942052864
  room_new = omega (arith, h.few_new, h.within, are.few, d.well.few_nets)

  module _ (a : NetAt) (lt : i < length seen) (here : a ≡ get_or seen i no_net) where
    pub net_inside : a.net < length d.nets
    net_inside = subst (λ (b : NetAt). b.net < length d.nets) (sym here) (are.nets i no_net lt)

    time_is : a.time ≡ time_at u a.net
    time_is = subst (λ (b : NetAt). b.time ≡ time_at u b.net) (sym here) (are.records i no_net lt)

    pub judged_more : (next : NetOutcome) → next.broken ≡ earlier d o.broken (first_broken d (time_at t a.net) a.time (limits_at d a.net))
        → next.over_old ≡ o.over_old + sum_by (over_in d (time_at t a.net)) (limits_at d a.net) → next.over_new ≡ o.over_new + sum_by (over_in d a.time) (limits_at d a.net)
        → next.over_old ≤ o.over_old + 309485046714833216143884288 → next.over_new ≤ o.over_new + 309485046714833216143884288 → IsJudged d t u seen (i + 1) next
    judged_more next broken old new near_old near_new = record {
      within = omega (arith, lt);
      first = subst (IsFirst d (is_lost d t u) (Among (take (i + 1) seen))) (sym broken)
          (first_more_seen d t u seen i a lt here o.broken (first_broken d (time_at t a.net) a.time (limits_at d a.net)) net_inside time_is h.first refl);
      old = over_more_seen d t seen i a lt here (time_at t a.net) o.over_old next.over_old net_inside refl h.old old;
      new = over_more_seen d u seen i a lt here a.time o.over_new next.over_new net_inside time_is h.new new;
      few_old = omega (arith, near_old, h.few_old);
      few_new = omega (arith, near_new, h.few_new);
    }

-- the outcome of all
module _ (d : Design) (m : Move) (t u : List NetTime) (seen : List NetAt) (is : seen ≡ seen_between d m t u) (i : ℕ) (o : NetOutcome) (h : IsJudged d t u seen i o) (all : length seen ≤ i) where
  whole : take i seen ≡ seen_between d m t u
  whole = take_all i seen all ∙ is

  pub judged_first : ((n : ℕ) → n < length d.nets → has_seen (seen_between d m t u) n ≡ in_cone_of d m t u n)
      → ((n : ℕ) → n < length d.nets → in_cone_of d m t u n ≡ false → time_at t n ≡ time_at u n) → o.broken ≡ find (is_lost d t u) (limits d)
  judged_first exact outside = first_seen d m t u exact outside o.broken (subst (λ xs. IsFirst d (is_lost d t u) (Among xs) o.broken) whole h.first)

  pub judged_old : o.over_old ≡ over_on (in_cone_of d m t u) d t
  judged_old = h.old ∙ ap (sum_by (over_net d t)) whole ∙ over_seen d m t u t

  pub judged_new : o.over_new ≡ over_on (in_cone_of d m t u) d u
  judged_new = h.new ∙ ap (sum_by (over_net d u)) whole ∙ over_seen d m t u u
