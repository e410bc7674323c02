use Rattle.gs_top.proofs.Naming.{text_is}
use Rattle.gs_top.proofs.law.each_size_is_the_netlists.Goals as goal

pub returns : goal.returns
returns c = text_is
