use Rattle.gs_sizes.proofs.Back.{written_back}
use Rattle.gs_sizes.proofs.law.written_sizes_are_read.Goals as goal

pub returns : goal.returns
returns c = λ d s fit. written_back d s fit
