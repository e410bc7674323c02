use Rattle.std.proofs.Common.{◌<◌, length, not, Some, ap, sym, ◌∙◌, subst, arith}
use Rattle.std.proofs.lemmas.List.{length-set, length_push}
use Rattle.std.proofs.lemmas.Result.{on_ok_weaker}
use Rattle.gs_design.specs.Timing.{timing_of}
use Rattle.gs_incr.specs.Laid.{times_over}
use Rattle.gs_move.specs.Moves.{after}
use Rattle.gs_move.specs.Records.{same_record}
use Rattle.gs_timing.specs.Calm.{IsCalmAt}
use Rattle.gs_incr.proofs.ConeLaws.{moved}
use Rattle.gs_incr.proofs.LaidLaws.{over_here, over_other}
use Rattle.gs_incr.proofs.WalkLaws.{here_calm, visited}
use Rattle.gs_incr.proofs.cone.visit.Goals as goal

pub at-net-requires : goal.at-net-requires
at-net-requires g c =
    let inside = c.requires.walk.waits_in c.args.rank (omega arith) c.requires.waits in
    omega (arith, inside, c.args.design.now.well.order_kept.ordered)

pub evaluated-time-requires-clause-timing : goal.evaluated-time-requires-clause-timing
evaluated-time-requires-clause-timing g c = c.requires.timing.as_many

pub evaluated-time-requires-clause-net : goal.evaluated-time-requires-clause-net
evaluated-time-requires-clause-net g c =
    let d = c.args.design.now in
    let inside = c.requires.walk.waits_in c.args.rank (omega arith) c.requires.waits in
    subst (λ n. n < length d.nets) (sym (c.at-net.ensures 0)) (d.well.order_kept.net_in c.args.rank inside)

pub evaluated-time-requires-clause-calm : goal.evaluated-time-requires-clause-calm
evaluated-time-requires-clause-calm g c =
    let d = c.args.design.now in
    let s = c.args.sizes.now in
    let m = c.args.mv.now in
    let t = c.args.timing.now in
    let u = timing_of d (after s m) in
    let fit = c.moves_fit.ensures.sizes s m c.requires.sizes c.requires.mv in
    let h = moved d s m t c.record_reads.ensures c.requires.sizes fit c.requires.timing c.timing_is_made.ensures.made in
    let v = times_over t c.args.work.now.laid in
    subst (IsCalmAt d v) (sym (c.at-net.ensures 0))
    (here_calm d s m t u h v c.args.work.now.queue c.args.work.now.seen.items c.args.rank c.requires.walk c.requires.waits
    (λ n lt. c.arrivals_are_small.ensures (after s m) u n fit h.later lt))

pub at-requires : goal.at-requires
at-requires g c =
    let d = c.args.design.now in
    let inside = c.requires.walk.waits_in c.args.rank (omega arith) c.requires.waits in
    subst (λ n. n < length c.args.timing.now) (sym (c.at-net.ensures 0)) (let below = d.well.order_kept.net_in c.args.rank inside in omega (arith, below, c.requires.timing.as_many))

pub put-requires : goal.put-requires
put-requires g c =
    let d = c.args.design.now in
    let inside = c.requires.walk.waits_in c.args.rank (omega arith) c.requires.waits in
    subst (λ n. n < length c.args.work.now.laid) (sym (c.at-net.ensures 0)) (let below = d.well.order_kept.net_in c.args.rank inside in omega (arith, below, c.requires.laid))

pub put_readers_if-requires : goal.put_readers_if-requires
put_readers_if-requires g c =
    let d = c.args.design.now in
    let inside = c.requires.walk.waits_in c.args.rank (omega arith) c.requires.waits in
    subst (λ n. n < length d.nets) (sym (c.at-net.ensures 0)) (d.well.order_kept.net_in c.args.rank inside)

pub returns-in_err-add-clause-laid : goal.returns-in_err-add-clause-laid
returns-in_err-add-clause-laid g c = ap length c.put.ensures ∙ length-set c.args.work.now.laid c.at-net.result.now (Some c.evaluated-time.result)

pub returns-in_err-add-clause-steps : goal.returns-in_err-add-clause-steps
returns-in_err-add-clause-steps g c = c.evaluated-time.ensures.steps

pub returns-clause-laid : goal.returns-clause-laid
returns-clause-laid g c = ap length c.put.ensures ∙ length-set c.args.work.now.laid c.at-net.result.now (Some c.evaluated-time.result)

pub returns-clause-steps : goal.returns-clause-steps
returns-clause-steps g c = c.evaluated-time.ensures.steps

pub returns-clause-longer : goal.returns-clause-longer
returns-clause-longer g c =
    on_ok_weaker c.put_readers_if.result
    (λ _. ap length c.in_ok-add.ensures ∙ length_push c.args.work.now.seen.items (record { net = c.at-net.result.now; time = c.evaluated-time.result }))
    c.put_readers_if.ensures

pub returns-clause-walk : goal.returns-clause-walk
returns-clause-walk g c =
    let d = c.args.design.now in
    let s = c.args.sizes.now in
    let m = c.args.mv.now in
    let t = c.args.timing.now in
    let u = timing_of d (after s m) in
    let fit = c.moves_fit.ensures.sizes s m c.requires.sizes c.requires.mv in
    let h = moved d s m t c.record_reads.ensures c.requires.sizes fit c.requires.timing c.timing_is_made.ensures.made in
    let laid = c.args.work.now.laid in
    let net = c.at-net.result.now in
    let time = c.evaluated-time.result in
    let inside = c.requires.walk.waits_in c.args.rank (omega arith) c.requires.waits in
    let net_in : c.at-net.result.now < length c.args.design.now.nets = subst (λ n. n < length d.nets) (sym (c.at-net.ensures 0)) (d.well.order_kept.net_in c.args.rank inside) in
    on_ok_weaker c.put_readers_if.result
    (λ put.
    visited d s m t u h (times_over t laid) c.args.work.now.queue c.args.work.now.seen.items c.args.rank c.requires.walk c.requires.waits
    net (times_over t c.put.new.self) c.put_readers_if.new.queue c.add.new.seen.items time (not c.same_record-changed.result) (c.at-net.ensures 0)
    c.evaluated-time.ensures.value
    (over_here t laid c.put.new.self net time c.put.ensures (omega (arith, net_in, c.requires.timing.as_many)) (omega (arith, net_in, c.requires.laid)))
    (λ n lt apart. over_other t laid c.put.new.self net time c.put.ensures n (omega (arith, lt, c.requires.timing.as_many)) apart)
    (ap not c.same_record-changed.ensures ∙ ap (λ r. not (same_record r time)) c.at.ensures)
    put
    c.in_ok-add.ensures)
    c.put_readers_if.ensures
