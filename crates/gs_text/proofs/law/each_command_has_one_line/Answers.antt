use Rattle.gs_text.proofs.LineLaws.{one_line_of}
use Rattle.gs_text.proofs.law.each_command_has_one_line.Goals as goal

pub returns : goal.returns
returns c bytes before at = one_line_of bytes before at
