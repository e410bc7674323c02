use Rattle.gs_lib.proofs.Kept.{kept_none}
use Rattle.gs_lib.proofs.builder.Builder.new.Goals as goal

pub returns-clause-kept : goal.returns-clause-kept
returns-clause-kept c = kept_none _ c.new-2.ensures.items c.in_ok-names.ensures.buckets c.in_ok-names.ensures.empty
