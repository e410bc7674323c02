use Rattle.std.proofs.Common.{◌||◌, ap, ◌∙◌, arith}
use Rattle.std.proofs.lemmas.Result.{on_ok_weaker}
use Rattle.gs_design.specs.Insts.{inst_at}
use Rattle.gs_incr.specs.Laid.{times_over}
use Rattle.gs_incr.specs.Queue.{has}
use Rattle.gs_incr.specs.Walk.{is_seed}
use Rattle.gs_incr.proofs.LaidLaws.{over_none}
use Rattle.gs_incr.proofs.WalkLaws.{starts}
use Rattle.gs_incr.proofs.cone.begin.Goals as goal

pub returns-clause-laid : goal.returns-clause-laid
returns-clause-laid c = c.clear.ensures.many

pub returns-clause-empty : goal.returns-clause-empty
returns-clause-empty c = on_ok_weaker c.put_seeds.result (λ _. c.clear-3.ensures.items) c.put_seeds.ensures

pub returns-clause-walk : goal.returns-clause-walk
returns-clause-walk c =
    let d = c.args.design.now in
    let m = c.args.mv.now in
    on_ok_weaker c.put_seeds.result
    (λ put t u fit.
    starts d m t u (times_over t c.clear.new.self) c.put_seeds.new.queue c.clear-3.new.self.items c.requires c.clear-3.ensures.items
    (λ n lt. over_none t c.clear.new.self c.clear.ensures.none n (omega (arith, lt, fit)))
    (λ q. put q ∙ ap (λ xs. has xs q || is_seed d (inst_at d.insts m.inst) q) c.clear-2.ensures))
    c.put_seeds.ensures
