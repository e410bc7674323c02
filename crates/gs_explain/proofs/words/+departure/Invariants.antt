use Rattle.std.proofs.Common.{length}
use Rattle.gs_explain.proofs.words.+departure.Given as goal

abbrev pub decreases-departure : goal.decreases-departure
decreases-departure l = length l.options.now
