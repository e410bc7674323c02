use Rattle.std.proofs.Common.{◌≡◌, ◌<◌, length, arith}
use Rattle.gs_verilog.proofs.Indexes.{link_set}
use Rattle.gs_verilog.proofs.build.add_link.Goals as goal

pub returns-clause-ok : goal.returns-clause-ok
returns-clause-ok c =
    let n : c.len-count.result ≡ length c.args.insts.now.items = omega (arith, c.len-count.ensures, c.args.insts.now.ok) in
    let some : 0 < c.len-count.result = omega (arith, n, c.requires) in
    link_set c.args.insts.now.items c.args.link c.index_mut-last.result.now c.len-count.result c.push.new.self
    n some c.index_mut-last.ensures.value c.in_ok-push.ensures.pushed
