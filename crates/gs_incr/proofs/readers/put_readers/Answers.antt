use Rattle.std.proofs.Common.{◌≡◌, ◌||◌, ◌<◌, length, get_or, take, ap, sym, ◌∙◌, subst, arith}
use Rattle.std.specs.List.{list_any}
use Rattle.std.proofs.lemmas.List.{take_all}
use Rattle.std.proofs.lemmas.List.Folds.{list_any_more}
use Rattle.gs_design.specs.Nets.{net_at}
use Rattle.gs_design.specs.declared.sink.Sink.{Sink}
use Rattle.gs_incr.specs.Queue.{has}
use Rattle.gs_incr.specs.Walk.{is_reader}
use Rattle.gs_incr.proofs.Lists.{or_assoc, or_false}
use Rattle.gs_incr.proofs.readers.put_readers.Goals as goal

pub loop-sink-init : goal.loop-sink-init
loop-sink-init c = λ q. sym (or_false (has c.args.queue.now q))

pub put_reader-requires : goal.put_reader-requires
put_reader-requires c =
    let d = c.args.design.now in
    let i = c.loop-sink.sink-index in
    let lt : c.loop-sink.sink-index < length (net_at c.args.design.now.nets c.args.net).sinks = omega (arith, ap length c.sinks-sink-items.ensures, c.loop-sink-test.true) in
    let here : c.sink-item.result ≡ get_or (net_at d.nets c.args.net).sinks i c.sink-item.result = c.sink-item.is ∙ ap (λ xs. get_or xs i c.sink-item.result) c.sinks-sink-items.ensures in
    subst (λ (k : Sink). k.inst < length d.insts) (sym here) ((d.well.nets_kept c.args.net c.requires).sinks_in i c.sink-item.result lt).inst_in

pub loop-sink-preserved : goal.loop-sink-preserved
loop-sink-preserved c = λ q.
    let d = c.args.design.now in
    let i = c.loop-sink.sink-index in
    let xs = c.sinks-sink-items.result.now in
    c.in_ok-put_reader.ensures.puts q
    ∙ ap (λ b. b || is_reader d q c.sink-item.result) (c.loop-sink.invariant q)
    ∙ or_assoc (has c.args.queue.now q) (list_any (is_reader d q) (take i xs)) (is_reader d q c.sink-item.result)
    ∙ ap (λ n. has c.args.queue.now q || (list_any (is_reader d q) (take i xs) || is_reader d q n)) c.sink-item.is
    ∙ ap (λ b. has c.args.queue.now q || b) (sym (list_any_more (is_reader d q) xs i c.sink-item.result c.loop-sink-test.true))

pub returns : goal.returns
returns c = λ q.
    let d = c.args.design.now in
    c.loop-sink.invariant q
    ∙ ap (λ xs. has c.args.queue.now q || list_any (is_reader d q) xs) (take_all c.loop-sink.sink-index c.sinks-sink-items.result.now c.loop-sink-test.false ∙ c.sinks-sink-items.ensures)
