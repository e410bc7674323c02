use Rattle.std.proofs.Common.{sym}
use Rattle.gs_quantity.proofs.Causes.{fault_cause}
use Rattle.gs_quantity.proofs.Tables.{table_from}
use Rattle.gs_quantity.proofs.lookup.table.Table.new.Goals as goal

pub make-requires : goal.make-requires
make-requires c = table_from c.from_vec-xs.result c.from_vec-ys.result c.from_vec-zs.result (sym c.in-None.ensures)

pub returns-in-Some-clause-cause : goal.returns-in-Some-clause-cause
returns-in-Some-clause-cause c =
    let found = rw (c.from_vec-xs.ensures, c.from_vec-ys.ensures, c.from_vec-zs.ensures) at (sym c.in-Some.ensures) in
    fault_cause c.args.xs.items c.args.ys.items c.args.zs.items c.in-Some.error found
