use Rattle.gs_limits.proofs.KindLaws.{total}
use Rattle.gs_limits.proofs.totals.excess.Goals as goal

pub returns : goal.returns
returns c = rw (c.excess_of_kind.ensures.value, c.excess_of_kind-2.ensures.value, c.excess_of_kind-3.ensures.value) (total c.args.design.now c.args.timing.now)
