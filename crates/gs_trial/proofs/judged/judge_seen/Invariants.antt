use Rattle.gs_design.specs.Timing.{timing_of}
use Rattle.gs_move.specs.Moves.{after}
use Rattle.gs_trial.proofs.JudgedLaws.{IsJudged}
use Rattle.gs_trial.proofs.judged.judge_seen.Given as goal

abbrev pub invariant-loop-net : goal.invariant-loop-net
invariant-loop-net l = IsJudged l.design (timing_of l.design l.sizes) (timing_of l.design (after l.sizes l.mv)) l.seen l.net-index l.so_far
