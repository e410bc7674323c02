use Rattle.std.proofs.Common.{◌≡◌, length, arith}
use Rattle.gs_libtree.proofs.Groups.{item_put}
use Rattle.gs_libtree.proofs.reader.put_item.Goals as goal

pub returns-then-count-gt0-clause-ok : goal.returns-then-count-gt0-clause-ok
returns-then-count-gt0-clause-ok c =
    let n : c.len-count.result ≡ length c.args.groups.now.items = omega (arith, c.len-count.ensures, c.args.groups.now.ok) in
    item_put c.args.groups.now.items c.len-count.result c.index_mut-last.result.now c.push.new.self c.args.item
    n c.if-count-gt0.true c.index_mut-last.ensures.value c.in_ok-push.ensures.ok
