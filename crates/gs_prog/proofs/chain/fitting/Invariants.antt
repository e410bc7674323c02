use Rattle.std.proofs.Common.{ℕ, ◌<◌, length, slice_index}
use Rattle.gs_design.specs.Insts.{inst_at}
use Rattle.gs_prog.proofs.chain.fitting.Given as goal

abbrev pub invariant-loop-number : goal.invariant-loop-number
invariant-loop-number l = (g : ℕ) → g < l.number → slice_index l.places g < length (inst_at l.design.insts g).alts
