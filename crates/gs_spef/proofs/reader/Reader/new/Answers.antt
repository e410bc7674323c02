use Rattle.std.proofs.Common.{refl}
use Rattle.gs_spef.proofs.Steps.{kept_none}
use Rattle.gs_spef.proofs.reader.Reader.new.Goals as goal

pub returns-clause-kept : goal.returns-clause-kept
returns-clause-kept c = kept_none _ c.in_ok-names.ensures.buckets c.in_ok-nets.ensures.buckets c.in_ok-nets.ensures.empty c.new-3.ensures.items
