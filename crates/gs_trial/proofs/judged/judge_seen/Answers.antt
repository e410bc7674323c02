use Rattle.std.proofs.Common.{◌+◌, sum_by, ap, sym, ◌∙◌, subst}
use Rattle.std.proofs.lemmas.List.{get_or_read}
use Rattle.gs_design.specs.Limits.{limits_at, over_in}
use Rattle.gs_design.specs.Times.{time_at}
use Rattle.gs_design.specs.Timing.{timing_of}
use Rattle.gs_limits.specs.Outcome.{first_broken}
use Rattle.gs_move.specs.Moves.{after}
use Rattle.gs_trial.specs.Order.{earlier}
use Rattle.gs_trial.proofs.JudgedLaws.{judged_first, judged_more, judged_new, judged_none, judged_old, net_inside, room_new, room_old}
use Rattle.gs_trial.proofs.SeenLaws.{AreSeen, are_seen, no_net}
use Rattle.gs_trial.proofs.judged.judge_seen.Goals as goal

pub loop-net-init : goal.loop-net-init
loop-net-init c =
    let d = c.args.design.now in
    let s = c.args.sizes.now in
    judged_none d (timing_of d s) (timing_of d (after s c.args.mv.now)) c.args.seen.now c.nothing-so_far.result c.nothing-so_far.ensures

pub with_net-so_far-requires-clause-net : goal.with_net-so_far-requires-clause-net
with_net-so_far-requires-clause-net c =
    let d = c.args.design.now in
    let s = c.args.sizes.now in
    let m = c.args.mv.now in
    let t = timing_of d s in
    let u = timing_of d (after s m) in
    let seen = c.args.seen.now in
    let are = subst (AreSeen d u) (sym c.requires.seen) (are_seen d m t u) in
    let i = c.loop-net.net-index in
    net_inside d t u seen are i c.loop-net.so_far c.loop-net.invariant c.net-item.result c.loop-net-test.true (get_or_read seen i c.net-item.result c.loop-net-test.true c.net-item.is no_net)

pub with_net-so_far-requires-clause-timing : goal.with_net-so_far-requires-clause-timing
with_net-so_far-requires-clause-timing c = c.requires.timing.as_many

pub with_net-so_far-requires-clause-room_old : goal.with_net-so_far-requires-clause-room_old
with_net-so_far-requires-clause-room_old c =
    let d = c.args.design.now in
    let s = c.args.sizes.now in
    let m = c.args.mv.now in
    let t = timing_of d s in
    let u = timing_of d (after s m) in
    let seen = c.args.seen.now in
    let are = subst (AreSeen d u) (sym c.requires.seen) (are_seen d m t u) in
    let i = c.loop-net.net-index in
    room_old d t u seen are i c.loop-net.so_far c.loop-net.invariant

pub with_net-so_far-requires-clause-room_new : goal.with_net-so_far-requires-clause-room_new
with_net-so_far-requires-clause-room_new c =
    let d = c.args.design.now in
    let s = c.args.sizes.now in
    let m = c.args.mv.now in
    let t = timing_of d s in
    let u = timing_of d (after s m) in
    let seen = c.args.seen.now in
    let are = subst (AreSeen d u) (sym c.requires.seen) (are_seen d m t u) in
    let i = c.loop-net.net-index in
    room_new d t u seen are i c.loop-net.so_far c.loop-net.invariant

pub loop-net-preserved : goal.loop-net-preserved
loop-net-preserved c =
    let d = c.args.design.now in
    let s = c.args.sizes.now in
    let m = c.args.mv.now in
    let t = timing_of d s in
    let u = timing_of d (after s m) in
    let seen = c.args.seen.now in
    let are = subst (AreSeen d u) (sym c.requires.seen) (are_seen d m t u) in
    let i = c.loop-net.net-index in
    let a = c.net-item.result in
    let o = c.loop-net.so_far in
    -- the timing that is given is the one that is made
    let t_is = c.timing_is_made.ensures.only s c.args.timing.now c.requires.sizes c.requires.timing in
    let old = ap (λ x. time_at x a.net) t_is in
    judged_more d t u seen are i o c.loop-net.invariant a c.loop-net-test.true (get_or_read seen i a c.loop-net-test.true c.net-item.is no_net)
    c.with_net-so_far.result
    (c.with_net-so_far.ensures.broken ∙ ap (λ r. earlier d o.broken (first_broken d r a.time (limits_at d a.net))) old)
    (c.with_net-so_far.ensures.old ∙ ap (λ r. o.over_old + sum_by (over_in d r) (limits_at d a.net)) old)
    c.with_net-so_far.ensures.new c.with_net-so_far.ensures.near_old c.with_net-so_far.ensures.near_new

pub returns-clause-broken : goal.returns-clause-broken
returns-clause-broken c =
    let d = c.args.design.now in
    let s = c.args.sizes.now in
    let m = c.args.mv.now in
    let t = timing_of d s in
    let u = timing_of d (after s m) in
    let seen = c.args.seen.now in
    let are = subst (AreSeen d u) (sym c.requires.seen) (are_seen d m t u) in
    let i = c.loop-net.net-index in
    judged_first d m t u seen c.requires.seen i c.loop-net.so_far c.loop-net.invariant c.loop-net-test.false
    (λ n lt. c.cones_are_whole.ensures.exact s m n lt)
    (λ n lt out. c.cones_are_whole.ensures.outside s m n c.requires.sizes c.requires.mv lt out)

pub returns-clause-old : goal.returns-clause-old
returns-clause-old c =
    let d = c.args.design.now in
    let s = c.args.sizes.now in
    let m = c.args.mv.now in
    let t = timing_of d s in
    let u = timing_of d (after s m) in
    let seen = c.args.seen.now in
    let are = subst (AreSeen d u) (sym c.requires.seen) (are_seen d m t u) in
    let i = c.loop-net.net-index in
    judged_old d m t u seen c.requires.seen i c.loop-net.so_far c.loop-net.invariant c.loop-net-test.false

pub returns-clause-new : goal.returns-clause-new
returns-clause-new c =
    let d = c.args.design.now in
    let s = c.args.sizes.now in
    let m = c.args.mv.now in
    let t = timing_of d s in
    let u = timing_of d (after s m) in
    let seen = c.args.seen.now in
    let are = subst (AreSeen d u) (sym c.requires.seen) (are_seen d m t u) in
    let i = c.loop-net.net-index in
    judged_new d m t u seen c.requires.seen i c.loop-net.so_far c.loop-net.invariant c.loop-net-test.false

pub returns-clause-few_old : goal.returns-clause-few_old
returns-clause-few_old c =
    let d = c.args.design.now in
    let s = c.args.sizes.now in
    let m = c.args.mv.now in
    let t = timing_of d s in
    let u = timing_of d (after s m) in
    let seen = c.args.seen.now in
    let are = subst (AreSeen d u) (sym c.requires.seen) (are_seen d m t u) in
    let i = c.loop-net.net-index in
    room_old d t u seen are i c.loop-net.so_far c.loop-net.invariant

pub returns-clause-few_new : goal.returns-clause-few_new
returns-clause-few_new c =
    let d = c.args.design.now in
    let s = c.args.sizes.now in
    let m = c.args.mv.now in
    let t = timing_of d s in
    let u = timing_of d (after s m) in
    let seen = c.args.seen.now in
    let are = subst (AreSeen d u) (sym c.requires.seen) (are_seen d m t u) in
    let i = c.loop-net.net-index in
    room_new d t u seen are i c.loop-net.so_far c.loop-net.invariant
