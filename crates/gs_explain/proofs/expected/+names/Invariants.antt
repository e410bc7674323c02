use Rattle.std.proofs.Common.{length}
use Rattle.gs_explain.proofs.expected.+names.Given as goal

abbrev pub decreases-names : goal.decreases-names
decreases-names l = length l.those.now
