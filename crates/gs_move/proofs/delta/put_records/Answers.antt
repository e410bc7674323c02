use Rattle.std.proofs.Common.{length, sym, subst}
use Rattle.gs_move.specs.Delta.{AreRecordsFor}
use Rattle.gs_move.proofs.InstallLaws.{installed_more}
use Rattle.gs_move.proofs.delta.put_records.Goals as goal

pub loop-named-preserved : goal.loop-named-preserved
loop-named-preserved c =
    let nets = c.as_slice-named-items.result.now in
    let fit = subst (λ ns. AreRecordsFor (length c.args.timing.now) ns) (sym c.as_slice-named-items.ensures) c.requires in
    rw c.put_record.ensures
    (installed_more nets c.args.timing.now c.loop-named.timing fit c.loop-named.named-index c.named-item.result c.loop-named-test.true c.named-item.is c.loop-named.invariant)
