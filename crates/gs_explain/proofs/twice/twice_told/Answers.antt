use Rattle.std.proofs.Common.{None, Some}
use Rattle.gs_explain.proofs.TwiceLaws.{told_by}
use Rattle.gs_explain.proofs.twice.twice_told.Goals as goal

pub returns-in-Some : goal.returns-in-Some
returns-in-Some c =
    told_by (λ v. v.items) c.both_told.result (Some c.in-Some.drivers) c.in_ok-drivers.field-0 c.args.library.now c.as_bytes.result.now c.args.net.now c.args.name.now
    c.args.bytes.now c.in_ok-drivers.ensures c.as_bytes.ensures c.in-Some.is c.both_told.ensures

pub returns-in-None : goal.returns-in-None
returns-in-None c =
    told_by (λ v. v.items) c.net_told.result None c.in_ok-drivers.field-0 c.args.library.now c.as_bytes.result.now c.args.net.now c.args.name.now c.args.bytes.now
    c.in_ok-drivers.ensures c.as_bytes.ensures c.in-None.is c.net_told.ensures
