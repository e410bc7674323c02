use Rattle.gs_sdc.proofs.PortLaws.{values_none}
use Rattle.gs_sdc.proofs.given.Values.new.Goals as goal

pub returns-clause-kept : goal.returns-clause-kept
returns-clause-kept c = values_none _ c.in_ok-ports.ensures.buckets c.in_ok-ports.ensures.empty c.new-2.ensures.items
