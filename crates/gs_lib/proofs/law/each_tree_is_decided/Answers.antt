use Rattle.gs_lib.proofs.Laws.{lawful}
use Rattle.gs_lib.proofs.law.each_tree_is_decided.Goals as goal

pub returns : goal.returns
returns c root = lawful root
