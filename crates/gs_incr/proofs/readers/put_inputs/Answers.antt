use Rattle.std.proofs.Common.{◌≡◌, ◌||◌, ◌<◌, length, get_or, take, ap, sym, ◌∙◌, subst, arith}
use Rattle.std.specs.List.{list_any}
use Rattle.std.proofs.lemmas.List.{take_all}
use Rattle.std.proofs.lemmas.List.Folds.{list_any_more}
use Rattle.gs_design.specs.Insts.{inst_at}
use Rattle.gs_incr.specs.Queue.{has}
use Rattle.gs_incr.specs.Walk.{has_rank}
use Rattle.gs_incr.proofs.Lists.{or_assoc, or_false}
use Rattle.gs_incr.proofs.readers.put_inputs.Goals as goal

pub loop-net-init : goal.loop-net-init
loop-net-init c = λ q. sym (or_false (has c.args.queue.now q))

pub put_net-requires : goal.put_net-requires
put_net-requires c =
    let d = c.args.design.now in
    let i = c.loop-net.net-index in
    let lt : c.loop-net.net-index < length (inst_at c.args.design.now.insts c.args.inst).inputs = omega (arith, ap length c.inputs-net-items.ensures, c.loop-net-test.true) in
    let here : c.net-item.result ≡ get_or (inst_at d.insts c.args.inst).inputs i c.net-item.result = c.net-item.is ∙ ap (λ xs. get_or xs i c.net-item.result) c.inputs-net-items.ensures in
    subst (λ n. n < length d.nets) (sym here) (d.well.inputs_in c.args.inst c.requires i c.net-item.result lt)

pub loop-net-preserved : goal.loop-net-preserved
loop-net-preserved c = λ q.
    let d = c.args.design.now in
    let i = c.loop-net.net-index in
    let xs = c.inputs-net-items.result.now in
    c.in_ok-put_net.ensures q
    ∙ ap (λ b. b || has_rank d q c.net-item.result) (c.loop-net.invariant q)
    ∙ or_assoc (has c.args.queue.now q) (list_any (has_rank d q) (take i xs)) (has_rank d q c.net-item.result)
    ∙ ap (λ n. has c.args.queue.now q || (list_any (has_rank d q) (take i xs) || has_rank d q n)) c.net-item.is
    ∙ ap (λ b. has c.args.queue.now q || b) (sym (list_any_more (has_rank d q) xs i c.net-item.result c.loop-net-test.true))

pub returns : goal.returns
returns c = λ q.
    let d = c.args.design.now in
    c.loop-net.invariant q
    ∙ ap (λ xs. has c.args.queue.now q || list_any (has_rank d q) xs) (take_all c.loop-net.net-index c.inputs-net-items.result.now c.loop-net-test.false ∙ c.inputs-net-items.ensures)
