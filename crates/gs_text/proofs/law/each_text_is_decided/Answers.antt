use Rattle.gs_text.proofs.Faulty.{decided}
use Rattle.gs_text.proofs.law.each_text_is_decided.Goals as goal

pub returns : goal.returns
returns c style bytes = decided style bytes
