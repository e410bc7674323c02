use Rattle.std.proofs.lemmas.List.{drop_all}
use Rattle.gs_top.proofs.Storing.{begin, next, fault, ended, item_at}
use Rattle.gs_top.proofs.store.store_texts.Goals as goal

pub loop-text-init : goal.loop-text-init
loop-text-init g c = begin (g.J.JobFiles.outputs c.args.job.now) g.H.Shelf.tells c.args.texts.now _ c.requires

pub loop-text-preserved : goal.loop-text-preserved
loop-text-preserved g c =
    let item = item_at c.args.texts.now c.loop-text.text-index c.text-item.result c.loop-text-test.true c.text-item.is in
    next (g.J.JobFiles.outputs c.args.job.now) g.H.Shelf.tells c.args.texts.now c.loop-text.text-index c.text-item.result _ _ _ item c.loop-text.invariant c.in-Ok.ensures.others c.in-Ok.ensures.said c.in-Ok.ensures.ok c.in-Ok.ensures.still

pub returns-in-Err : goal.returns-in-Err
returns-in-Err g c =
    let item = item_at c.args.texts.now c.loop-text.text-index c.text-item.result c.loop-text-test.true c.text-item.is in
    fault (g.J.JobFiles.outputs c.args.job.now) g.H.Shelf.tells c.args.texts.now c.loop-text.text-index c.text-item.result _ _ _ item c.loop-text.invariant c.in-Err.ensures.others c.in-Err.ensures.said c.in-Err.status c.in-Err.ensures.err c.in-Err.ensures.later c.in-Err.ensures.cause

pub returns : goal.returns
returns g c =
    ended (g.J.JobFiles.outputs c.args.job.now) g.H.Shelf.tells c.args.texts.now c.loop-text.text-index tt _ _ (drop_all c.loop-text.text-index c.args.texts.now c.loop-text-test.false) c.loop-text.invariant
