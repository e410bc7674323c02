use Rattle.std.proofs.Common.{◌≡◌, ℕ, false, length, refl, rules, sym, ap, ◌∙◌, arith}
use Rattle.gs_design.specs.Timing.{timing_of}
use Rattle.gs_incr.specs.Laid.{times_over}
use Rattle.gs_incr.specs.Queue.{has}
use Rattle.gs_move.specs.Moves.{after}
use Rattle.gs_incr.proofs.ConeLaws.{moved}
use Rattle.gs_incr.proofs.WalkLaws.{ends, goes_on, requeue}
use Rattle.gs_incr.proofs.cone.walk.Goals as goal

pub loop-rank-init : goal.loop-rank-init
loop-rank-init g c = record {
  laid = refl;
  cost = omega (arith, ap length c.requires.empty);
  walk = c.requires.walk;
}

pub visit-requires-clause-laid : goal.visit-requires-clause-laid
visit-requires-clause-laid g c = c.loop-rank.invariant.laid ∙ c.requires.laid

pub visit-requires-clause-waits : goal.visit-requires-clause-waits
visit-requires-clause-waits g c = c.in-Some.ensures.some

pub visit-requires-clause-walk : goal.visit-requires-clause-walk
visit-requires-clause-walk g c =
    let d = c.args.design.now in
    let s = c.args.sizes.now in
    let m = c.args.mv.now in
    let t = c.args.timing.now in
    let u = timing_of d (after s m) in
    let h = moved d s m t c.record_reads.ensures c.requires.sizes (c.moves_fit.ensures.sizes s m c.requires.sizes c.requires.mv) c.requires.timing c.timing_is_made.ensures.made in
    let v = times_over t c.loop-rank.work.laid in
    goes_on d s m t u h c.loop-rank.next c.in-Some.rank v c.first_from.new.self c.loop-rank.work.seen.items c.in-Some.ensures.within c.in-Some.ensures.some c.in-Some.ensures.least
    (requeue d m t u v c.loop-rank.work.queue c.first_from.new.self c.loop-rank.work.seen.items c.loop-rank.next c.in-Some.ensures.same c.loop-rank.invariant.walk)

pub overflow_add-next : goal.overflow_add-next
overflow_add-next g c =
    let inside = c.loop-rank.invariant.walk.waits_in c.in-Some.rank c.in-Some.ensures.within (sym (c.in-Some.ensures.same c.in-Some.rank c.in-Some.ensures.within) ∙ c.in-Some.ensures.some) in
    omega (arith, inside, c.args.design.now.well.few_nets)

pub loop-rank-smaller : goal.loop-rank-smaller
loop-rank-smaller g c =
    let inside = c.loop-rank.invariant.walk.waits_in c.in-Some.rank c.in-Some.ensures.within (sym (c.in-Some.ensures.same c.in-Some.rank c.in-Some.ensures.within) ∙ c.in-Some.ensures.some) in
    omega (arith, inside, c.in-Some.ensures.within)

pub loop-rank-preserved : goal.loop-rank-preserved
loop-rank-preserved g c = record {
  laid = c.visit.ensures.laid ∙ c.loop-rank.invariant.laid;
  cost = omega (arith, c.visit.ensures.steps, c.in_ok-visit.ensures.longer, c.loop-rank.invariant.cost);
  walk = c.in_ok-visit.ensures.walk;
}

pub returns-clause-laid : goal.returns-clause-laid
returns-clause-laid g c = c.loop-rank.invariant.laid

pub returns-clause-seen : goal.returns-clause-seen
returns-clause-seen g c =
    let d = c.args.design.now in
    let s = c.args.sizes.now in
    let m = c.args.mv.now in
    let t = c.args.timing.now in
    let u = timing_of d (after s m) in
    let h = moved d s m t c.record_reads.ensures c.requires.sizes (c.moves_fit.ensures.sizes s m c.requires.sizes c.requires.mv) c.requires.timing c.timing_is_made.ensures.made in
    let v = times_over t c.loop-rank.work.laid in
    let none : (q : ℕ) → has c.first_from.new.self q ≡ false = search rules in
    ends d s m t u h c.loop-rank.next v c.first_from.new.self c.loop-rank.work.seen.items none
    (requeue d m t u v c.loop-rank.work.queue c.first_from.new.self c.loop-rank.work.seen.items c.loop-rank.next c.first_from.ensures.same c.loop-rank.invariant.walk)

pub returns-clause-steps : goal.returns-clause-steps
returns-clause-steps g c = c.loop-rank.invariant.cost
