use Rattle.gs_trial.proofs.trial.change_seen.Goals as goal

pub returns : goal.returns
returns c = λ i. record {
  leak_old = c.present_leak-leak_old.ensures i;
  leak_new = c.new_leak-leak_new.ensures i;
  broken = c.judge_seen-judged.ensures.broken i;
  over_old = c.judge_seen-judged.ensures.old i;
  over_new = c.judge_seen-judged.ensures.new i;
}
