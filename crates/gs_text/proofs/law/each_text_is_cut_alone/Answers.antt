use Rattle.gs_text.proofs.Alone.{cut_alone}
use Rattle.gs_text.proofs.law.each_text_is_cut_alone.Goals as goal

pub returns : goal.returns
returns c style bytes pieces = cut_alone style bytes pieces
