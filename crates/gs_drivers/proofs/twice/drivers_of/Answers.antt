use Rattle.gs_libtree.specs.Refusal.{IsLiberty}
use Rattle.gs_libtree.specs.declared.error.LibTextErr.TheVariants.{Mem}
use Rattle.gs_drivers.specs.Twice.{AreDriversOf}
use Rattle.gs_drivers.proofs.Reading.{unread}
use Rattle.gs_drivers.proofs.twice.drivers_of.Goals as goal

pub returns-in-Err : goal.returns-in-Err
returns-in-Err c =
    unread (IsLiberty c.args.library.now) (λ root. AreDriversOf root c.args.net.now c.args.netlist.now) Mem c.in-Err.error c.unread.result c.unread.ensures.none
    c.unread.ensures.cause c.in-Err.ensures.only
